-- What is printed after each test; and what reading an input tells: where the references and values of its block lie, and with which numbers one is refused. Assumes nothing.
use Rattle.std.specs.Prelude.{Err, Ok, Result}
use mathlib.Core.Path.{◌≡◌, ap}
use mathlib.Core.Bool.{Bool, true, false, cond}
use mathlib.Core.Logic.{◌⊎◌, inl, inr}
use mathlib.Core.List.{List}
use Prim.Native.Nat.{ℕ, ◌+◌, ◌-◌, ◌*◌, ◌≤◌, ◌<◌}
use native.Mathlib.Omega.{arith}
use borrow.Author.Tests.{lt-ltb, le-ltb}
use lib.Dec.{leb}
use lib.ListN.{length}
use Rattle.words.proofs.Clash.{clash}
use Rattle.common.specs.Header.{inside, is_conversion}
use Rattle.common.specs.Refusal.{number_of}
use Rattle.common.specs.declared.refusal.Refusal.{Refusal}
use Rattle.common.specs.declared.refusal.Refusal.TheVariants.{Outside, NotConversion, Short}
use Rattle.blocks.specs.Block.{ref_count, fields_place, fields_at, val_count, values_place, block_end, block_at, opened, parsed_for_repair}
use Rattle.blocks.specs.declared.Block.{Block}
use Rattle.blocks.proofs.Opening.{read_whole}
use Rattle.repair.specs.Repair.{bad_input, rewritten, repaired}

-- the references and values of a block that was read lie in the input
module _ (input : List ℕ) (a : ℕ) (b : Block) (whole : parsed_for_repair input a ≡ Ok b) where
  pub references_fit : b.firstref + 8 * (b.links - 4) ≤ length input
  unfolding block_at block_end values_place fields_place ref_count
  references_fit = let w = read_whole input a b whole in let fits = w.fits in rw w.same (omega arith)

  pub values_fit : b.firstval + 8 * b.valcount ≤ length input
  unfolding block_at fields_at val_count block_end
  values_fit = let w = read_whole input a b whole in rw w.same w.fits

  -- it has no padding
  pub no_padding : (b.reserved ≡ 0) × (b.excess ≡ 0)
  unfolding block_at
  no_padding =
      let same = (read_whole input a b whole).same in
      (ap (λ (x : Block). x.reserved) same, ap (λ (x : Block). x.excess) same)

-- a refusal is 1, 2 or 4
pub refused_with : (input : List ℕ) (a : ℕ) (r : Refusal) → parsed_for_repair input a ≡ Err r
    → (number_of r ≡ 1) ⊎ ((number_of r ≡ 2) ⊎ (number_of r ≡ 4))
unfolding parsed_for_repair opened
refused_with input a r = go (inside input a) (is_conversion input a) (leb (block_end input a) (length input))
  where
    go : (x y z : Bool)
        → cond x (cond y (cond z (Ok (block_at input a)) (Err (Short a))) (Err (NotConversion a))) (Err (Outside a)) ≡ Err r
        → (number_of r ≡ 1) ⊎ ((number_of r ≡ 2) ⊎ (number_of r ≡ 4))
    go true true true e = clash cc
    go true true false e = let same : r ≡ Short a = cc in inr (inr (ap number_of same))
    go true false z e = let same : r ≡ NotConversion a = cc in inr (inl (ap number_of same))
    go false y z e = let same : r ≡ Outside a = cc in inl (ap number_of same)

-- ---- what is printed
pub too_long : (input : List ℕ) → 30000 < length input → repaired input ≡ bad_input
unfolding repaired
too_long input h = rw (lt-ltb 30000 (length input) h)

pub fitting : (input : List ℕ) → length input ≤ 30000 → (p : Result Block Refusal) → parsed_for_repair input 0 ≡ p → repaired input ≡ rewritten input p
unfolding repaired
fitting input h p e = rw (le-ltb 30000 (length input) h) (ap (rewritten input) e)
