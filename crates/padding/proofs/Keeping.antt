-- What parsing says in each mode: where the bytes read of a block end, what a kept record tells of its image, and when keeping changes nothing. Assumes nothing.
use Rattle.std.specs.Prelude.{Err, Ok, Result}
use mathlib.Core.Path.{◌≡◌, refl, sym, ap, ◌∙◌}
use mathlib.Core.Bool.{Bool, true, false, cond}
use mathlib.Core.List.{List}
use Prim.Native.Nat.{ℕ, ◌+◌, ◌-◌, ◌≤◌, ◌<◌}
use native.Mathlib.Omega.{arith}
use borrow.Author.Tests.{leb-true, le-leb, lt-leb}
use lib.Dec.{leb}
use lib.ListN.{length}
use Rattle.words.specs.Words.{word32, word64}
use Rattle.words.proofs.Clash.{clash}
use Rattle.common.specs.declared.refusal.Refusal.TheVariants.{Short}
use Rattle.blocks.specs.Block.{fields_place, fields_at, val_count, values_place, block_end, block_at, parsed}
use Rattle.blocks.specs.Make.{with_padding}
use Rattle.blocks.specs.Place.{reference_of, value_word_of}
use Rattle.blocks.proofs.Opening.{parsed_whole}
use Rattle.blocks.specs.declared.Block.{Block}
use Rattle.padding.specs.Kept.{read_end, excess_at, padded, keeping, parsed_in}
use Rattle.common.specs.declared.refusal.Refusal.{Refusal}

-- the plain mode is parsing as it was
pub plain_mode : (img : List ℕ) (a : ℕ) → parsed_in false img a ≡ parsed img a
unfolding parsed_in
plain_mode img a = go (parsed img a)
  where
    go : (p : Result Block Refusal) → keeping false img a p ≡ p
    go (Ok b) = refl
    go (Err r) = refl

module _ (img : List ℕ) (a : ℕ) (b : Block) (whole : parsed img a ≡ Ok b) where
  pub end_is : read_end b ≡ block_end img a
  unfolding read_end block_at fields_at val_count block_end
  end_is = rw (parsed_whole img a b whole).same refl

  pub end_fits : read_end b ≤ length img
  end_fits = omega (arith, end_is, (parsed_whole img a b whole).fits)

  pub end_behind : a + 64 ≤ read_end b
  unfolding block_end values_place fields_place
  end_behind = omega (arith, end_is)

  -- an excess that was counted from the bytes read
  module _ (excess : ℕ) (counted : excess ≡ b.length - (read_end b - a)) where
    pub excess_is : excess ≡ excess_at a b
    unfolding excess_at
    excess_is = omega (arith, end_behind)

    pub kept_whole : (reserved : ℕ) (made : Block) → excess ≤ length img - read_end b → reserved ≡ word32 img (a + 4)
        → made ≡ with_padding b reserved excess → Ok made ≡ padded img a b
    unfolding padded
    kept_whole reserved made fits r m =
        let test : leb (read_end b + excess_at a b) (length img) ≡ true = le-leb (read_end b + excess_at a b) (length img) (omega (arith, end_fits, excess_is)) in
        rw (test, m, r, excess_is)

    pub kept_short : length img - read_end b < excess → Err (Short a) ≡ padded img a b
    unfolding padded
    kept_short past =
        let test : leb (read_end b + excess_at a b) (length img) ≡ false = lt-leb (read_end b + excess_at a b) (length img) (omega (arith, excess_is)) in
        rw test

-- ---- a block that was parsed with its padding: what the image has of it
pub record IsKept (img : List ℕ) (a : ℕ) (b : Block) : Type 0 where
  pub whole : parsed img a ≡ Ok (block_at img a)
  pub excess : b.excess ≡ (a + word64 img (a + 8)) - block_end img a
  pub fits : block_end img a + b.excess ≤ length img
  pub same : b ≡ with_padding (block_at img a) (word32 img (a + 4)) b.excess

-- a block that was parsed, kept
kept_of : (img : List ℕ) (a : ℕ) (p b : Block) → parsed img a ≡ Ok p → padded img a p ≡ Ok b → IsKept img a b
unfolding padded excess_at block_at
kept_of img a p b whole = go (leb (read_end p + excess_at a p) (length img)) refl
  where
    long : p.length ≡ word64 img (a + 8)
    long = ap (λ (x : Block). x.length) (parsed_whole img a p whole).same

    go : (t : Bool) → leb (read_end p + excess_at a p) (length img) ≡ t
        → cond t (Ok (with_padding p (word32 img (a + 4)) (excess_at a p))) (Err (Short a)) ≡ Ok b → IsKept img a b
    go true t e =
        let made : b ≡ with_padding p (word32 img (a + 4)) (excess_at a p) = cc in
        let excess : b.excess ≡ excess_at a p = ap (λ (x : Block). x.excess) made in
        let room = leb-true (read_end p + excess_at a p) (length img) t in
        let own = (parsed_whole img a p whole).same in
        record {
          whole = whole ∙ ap Ok own;
          excess = omega (arith, excess, end_is img a p whole, long);
          fits = omega (arith, room, excess, end_is img a p whole);
          same = made ∙ ap (λ (x : Block). with_padding x (word32 img (a + 4)) (excess_at a p)) own ∙ ap (with_padding (block_at img a) (word32 img (a + 4))) (sym excess);
        }
    go false t e = clash cc

pub kept_is : (img : List ℕ) (a : ℕ) (b : Block) → parsed_in true img a ≡ Ok b → IsKept img a b
unfolding parsed_in
kept_is img a b = go (parsed img a) refl
  where
    go : (p : Result Block Refusal) → parsed img a ≡ p → keeping true img a p ≡ Ok b → IsKept img a b
    go (Ok p) whole e = kept_of img a p b whole e
    go (Err r) whole e = clash cc

-- a block with zero reserved bytes and the length of the bytes read has nothing to keep
pub nothing_to_keep : (img : List ℕ) (a : ℕ) (b : Block) → parsed img a ≡ Ok b → word32 img (a + 4) ≡ 0 → b.length + a ≡ block_end img a
    → parsed_in true img a ≡ Ok b
unfolding parsed_in block_at
nothing_to_keep img a b whole none long =
    let no_excess : 0 ≡ b.length - (read_end b - a) = omega (arith, end_is img a b whole) in
    let own = (parsed_whole img a b whole).same in
    let bare : b ≡ with_padding b 0 0 = rw own refl in
    ap (keeping true img a) whole ∙ sym (kept_whole img a b whole 0 no_excess 0 b (omega arith) (sym none) bare)

-- the padding plays no part where a block is read by place
pub same_references : (img : List ℕ) (b : Block) (reserved excess i : ℕ) → reference_of img (with_padding b reserved excess) i ≡ reference_of img b i
unfolding reference_of
same_references img b reserved excess i = refl

pub same_values : (img : List ℕ) (b : Block) (reserved excess i : ℕ) → value_word_of img (with_padding b reserved excess) i ≡ value_word_of img b i
unfolding value_word_of
same_values img b reserved excess i = refl
