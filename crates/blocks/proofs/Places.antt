-- When a word is there to be read by place; of a block that was parsed, all of its references and values are. Assumes nothing.
use Rattle.std.specs.Prelude.{None, Ok, Some}
use mathlib.Core.Path.{◌≡◌, refl, sym, ap, ◌∙◌}
use mathlib.Core.Bool.{Bool, true, false}
use mathlib.Core.List.{List, [], ◌∷◌}
use Prim.Native.Nat.{ℕ, zero, suc, ◌+◌, ◌-◌, ◌*◌, ◌≤◌, ◌<◌}
use native.Mathlib.Omega.{arith}
use borrow.Author.Tests.{lt-ltb, le-ltb, ltb-true, ltb-false, le-leb}
use lib.Dec.{ltb}
use lib.ListN as ListN
use Rattle.words.specs.Words.{word64, words}
use Rattle.words.proofs.Slices.{length_words}
use Rattle.blocks.specs.Block.{ref_count, fields_place, fields_at, val_count, values_place, block_end, block_at, parsed}
use Rattle.blocks.specs.Place.{word_in, reference_of, value_word_of, references, value_words, word_at}
use Rattle.blocks.proofs.Opening.{parsed_whole}
use Rattle.blocks.specs.declared.Block.{Block}

module _ (img : List ℕ) (first count i : ℕ) where
  pub word_there : i < count → first + 8 * i + 8 ≤ ListN.length img → word_in img first count i ≡ Some (word64 img (first + 8 * i))
  unfolding word_in
  word_there h k = simp (lt-ltb _ _ h, le-leb _ _ k)

  pub word_past_count : count ≤ i → word_in img first count i ≡ None
  unfolding word_in
  word_past_count h = simp (le-ltb _ _ h)

-- the i-th of the words from a place on stands at the i-th place; there is none behind the last
words_at : (img : List ℕ) (first n i : ℕ) → i < n → word_at (words img first n) i ≡ Some (word64 img (first + 8 * i))
unfolding words word_at
words_at img first zero i h = absurd (omega arith)
words_at img first (suc n) zero h = let e : first ≡ first + 8 * 0 = omega arith in ap (λ (p : ℕ). Some (word64 img p)) e
words_at img first (suc n) (suc i) h =
    let e : first + 8 + 8 * i ≡ first + 8 * suc i = omega arith in
    words_at img (first + 8) n i (omega arith) ∙ ap (λ (p : ℕ). Some (word64 img p)) e

words_end : (ws : List ℕ) (i : ℕ) → ListN.length ws ≤ i → word_at ws i ≡ None
unfolding word_at
words_end [] i h = refl
words_end (w ∷ ws) zero h = absurd (omega arith)
words_end (w ∷ ws) (suc i) h = words_end ws i (omega arith)

-- words that lie in the image, read by place, are those words in order, and nothing behind them
pub by_place : (img : List ℕ) (first n i : ℕ) → first + 8 * n ≤ ListN.length img → word_in img first n i ≡ word_at (words img first n) i
by_place img first n i fits = go (ltb i n) refl
  where
    go : (b : Bool) → ltb i n ≡ b → word_in img first n i ≡ word_at (words img first n) i
    go true t = let h = ltb-true i n t in word_there img first n i h (omega arith) ∙ sym (words_at img first n i h)
    go false t =
        let h = ltb-false i n t in
        word_past_count img first n i h ∙ sym (words_end (words img first n) i (omega (arith, length_words img first n)))

-- a parsed block's references and values are all there, in the image that it was parsed from
module _ (img : List ℕ) (a : ℕ) (b : Block) (whole : parsed img a ≡ Ok b) (i : ℕ) where
  pub reference_there : i < b.links - 4 → reference_of img b i ≡ Some (word64 img (b.firstref + 8 * i))
  unfolding reference_of block_at block_end values_place fields_place ref_count
  reference_there h =
      let w = parsed_whole img a b whole in
      let inner = w.fits in
      let few : i < word64 img (a + 16) - 4 = rw w.same at h in
      rw w.same (word_there img (a + 56) (word64 img (a + 16) - 4) i few (omega arith))

  pub value_there : i < b.valcount → value_word_of img b i ≡ Some (word64 img (b.firstval + 8 * i))
  unfolding value_word_of block_at fields_at block_end val_count
  value_there h =
      let w = parsed_whole img a b whole in
      let inner = w.fits in
      let few : i < val_count img a = rw w.same at h in
      rw w.same (word_there img (values_place img a) (val_count img a) i few (omega arith))

  -- read by place they are the block's references and values in order, and nothing behind the last
  pub references_read : reference_of img b i ≡ word_at (references img b) i
  unfolding reference_of references block_at block_end values_place fields_place ref_count
  references_read =
      let w = parsed_whole img a b whole in
      let inner = w.fits in
      rw w.same (by_place img (a + 56) (word64 img (a + 16) - 4) i (omega arith))

  pub values_read : value_word_of img b i ≡ word_at (value_words img b) i
  unfolding value_word_of value_words block_at fields_at block_end val_count
  values_read =
      let w = parsed_whole img a b whole in
      let inner = w.fits in
      rw w.same (by_place img (values_place img a) (val_count img a) i (omega arith))
