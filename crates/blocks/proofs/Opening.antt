-- What the tests of parsing say, and what it answers after each. Assumes nothing.
use Rattle.std.specs.Prelude.{Err, Ok}
use mathlib.Core.Path.{◌≡◌, refl, sym, ap, ◌∙◌}
use mathlib.Core.Bool.{Bool, true, false, cond}
use mathlib.Core.List.{List}
use Prim.Native.Nat.{ℕ, ◌+◌, ◌≤◌, ◌<◌}
use native.Mathlib.Omega.{arith}
use borrow.Author.Tests.{leb-true, le-leb, lt-leb, ltb-false, le-ltb}
use lib.Dec.{leb}
use lib.ListN.{length}
use Rattle.words.specs.Words.{word64}
use Rattle.words.proofs.Clash.{clash}
use Rattle.common.specs.Header.{inside, is_conversion}
use Rattle.common.proofs.Headers.{inside_fits, of_conversion}
use Rattle.blocks.specs.Block.{block_end, block_at, opened, parsed_for_repair, few_links, retired, parsed}
use Rattle.blocks.specs.declared.Block.{Block}
use Rattle.common.specs.declared.refusal.Refusal.{Refusal}
use Rattle.common.specs.declared.refusal.Refusal.TheVariants.{Short, FewLinks}

module _ (img : List ℕ) (a : ℕ) where
  pub parsed_read : retired img a ≡ false → parsed img a ≡ parsed_for_repair img a
  unfolding parsed
  parsed_read h = rw h

  pub opened_short : length img < block_end img a → opened img a ≡ Err (Short a)
  unfolding opened
  opened_short h = simp (lt-leb _ _ h)

  pub opened_whole : block_end img a ≤ length img → opened img a ≡ Ok (block_at img a)
  unfolding opened
  opened_whole h = simp (le-leb _ _ h)

-- a block is read only where all three tests hold
pub record IsWhole (img : List ℕ) (a : ℕ) (b : Block) : Type 0 where
  pub header : a + 24 ≤ length img
  pub conversion : is_conversion img a ≡ true
  pub fits : block_end img a ≤ length img
  pub same : b ≡ block_at img a

tests : (x y z : Bool) (b c : Block) (p q r : Refusal)
    → cond x (cond y (cond z (Ok c) (Err p)) (Err q)) (Err r) ≡ Ok b → (x ≡ true) × (y ≡ true) × (z ≡ true) × (b ≡ c)
tests true true true b c p q r e = (refl, refl, refl, (cc))
tests true true false b c p q r e = clash cc
tests true false z b c p q r e = clash cc
tests false y z b c p q r e = clash cc

pub read_whole : (img : List ℕ) (a : ℕ) (b : Block) → parsed_for_repair img a ≡ Ok b → IsWhole img a b
unfolding parsed_for_repair opened
read_whole img a b e =
    let t = tests (inside img a) (is_conversion img a) (leb (block_end img a) (length img)) b (block_at img a) _ _ _ e in
    record {
      header = inside_fits img a t.0;
      conversion = t.1;
      fits = leb-true (block_end img a) (length img) t.2;
      same = t.3;
    }

-- a block that is read is parsed exactly where it has the four fixed links
module _ (img : List ℕ) (a : ℕ) (b : Block) (whole : parsed_for_repair img a ≡ Ok b) where
  retired_is : retired img a ≡ few_links img a
  unfolding retired inside
  retired_is = let w = read_whole img a b whole in of_conversion img a _ _ _ (le-leb (a + 24) (length img) w.header) w.conversion

  links_are : b.links ≡ word64 img (a + 16)
  unfolding block_at
  links_are = ap (λ (x : Block). x.links) (read_whole img a b whole).same

  pub read_parses : 4 ≤ b.links → parsed img a ≡ Ok b
  unfolding few_links
  read_parses h = parsed_read img a (retired_is ∙ le-ltb (word64 img (a + 16)) 4 (omega (arith, links_are))) ∙ whole

  read_enough : retired img a ≡ false → 4 ≤ b.links
  unfolding few_links
  read_enough e = let h = ltb-false (word64 img (a + 16)) 4 (sym retired_is ∙ e) in omega (arith, links_are)

pub parsed_is_read : (img : List ℕ) (a : ℕ) (b : Block) → parsed img a ≡ Ok b → (parsed_for_repair img a ≡ Ok b) × (4 ≤ b.links)
unfolding parsed
parsed_is_read img a b = go (retired img a) refl
  where
    go : (x : Bool) → retired img a ≡ x → cond x (Err (FewLinks a)) (parsed_for_repair img a) ≡ Ok b
        → (parsed_for_repair img a ≡ Ok b) × (4 ≤ b.links)
    go true t p = clash cc
    go false t p = (p, read_enough img a b p t)

pub parsed_whole : (img : List ℕ) (a : ℕ) (b : Block) → parsed img a ≡ Ok b → IsWhole img a b
parsed_whole img a b e = read_whole img a b (parsed_is_read img a b e).0
