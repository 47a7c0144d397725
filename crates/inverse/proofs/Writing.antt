-- The block that is made, put part by part. Assumes nothing.
use Rattle.std.specs.Prelude.{Err, Ok, Result}
use mathlib.Core.Path.{◌≡◌, refl, sym, ap, subst, ◌∙◌}
use mathlib.Core.Bool.{false}
use mathlib.Core.List.{List, [], ◌∷◌, ◌++◌, append-nil}
use native.Mathlib.Numerals.{add-one}
use Prim.Native.Nat.{ℕ, zero, suc, ◌+◌, ◌-◌, ◌*◌, ◌≤◌, ◌<◌}
use native.Mathlib.Omega.{arith}
use borrow.Author.Tests.{eq-eqb, ne_eqb}
use lib.ListN.{length, get_or, take}
use Rattle.words.specs.Words.{word64, words, bytes8, put, links}
use Rattle.words.proofs.Laws.{two_puts, put_one_more}
use Rattle.words.proofs.Slices.{length_words, words_last}
use Rattle.common.specs.Header.{conversion_id, header_bytes}
use Rattle.common.specs.Written.{write_call}
use Rattle.common.specs.declared.refusal.Refusal.TheVariants.{WrongType}
use Rattle.blocks.specs.Block.{ref_count, fields_place, fields_at, val_count, values_place, block_end, block_at, parsed}
use Rattle.blocks.specs.Place.{references, value_words}
use Rattle.blocks.specs.View.{view_of}
use Rattle.blocks.specs.declared.view.View.{View}
use Rattle.blocks.specs.declared.Block.{Block}
use Rattle.blocks.proofs.Opening.{parsed_whole}
use Rattle.writer.specs.Write.{write_size, fixed_bytes, field_bytes, front_bytes, block_bytes}
use Rattle.writer.proofs.Writing.{front_parts, length_front, length_block}
use Rattle.keys.specs.Keys.{first_fault, KeysIn}
use Rattle.inverse.specs.Invert.{inverse_of, inverse_bytes, unless_faulty, inverted, KeyPlaces}
use Rattle.common.specs.declared.refusal.Refusal.{Refusal}

-- one word of an image more
pub put_word_more : (s : List ℕ) (first i : ℕ) (out : List ℕ) (at : ℕ)
    → put (put out at (links (words s first i))) (at + 8 * i) (bytes8 (word64 s (first + 8 * i))) ≡ put out at (links (words s first (i + 1)))
put_word_more s first i out at =
    let ws = words s first i in
    let more : ws ++ word64 s (first + 8 * i) ∷ [] ≡ words s first (i + 1) = sym (words_last s first i) ∙ ap (words s first) (sym (add-one i)) in
    ap (λ (n : ℕ). put (put out at (links ws)) (at + 8 * n) (bytes8 (word64 s (first + 8 * i)))) (sym (length_words s first i))
    ∙ put_one_more ws (word64 s (first + 8 * i)) out at
    ∙ ap (λ (l : List ℕ). put out at (links l)) more

-- ---- the parts of the block, each at its place
module _ (b : Block) (refs values : List ℕ) (n : ℕ) (many : length refs ≡ n) (same : length values ≡ n) where
  pub length_inverse : length (block_bytes (inverse_of b) refs values) ≡ 64 + 16 * n
  unfolding write_size
  length_inverse = length_block (inverse_of b) refs values ∙ omega (arith, many, same)

  pub inverse_put : (made : Block) (o₀ o₁ o₂ o₃ o₄ o₅ : List ℕ) → made ≡ inverse_of b
      → o₁ ≡ put o₀ 0 (header_bytes conversion_id 0 (56 + 8 * n + 8 + 8 * n) (4 + n)) → o₂ ≡ put o₁ 24 (fixed_bytes made) → o₃ ≡ put o₂ 56 (links refs)
      → o₄ ≡ put o₃ (56 + 8 * n) (field_bytes made n) → o₅ ≡ put o₄ (56 + 8 * n + 8) (links values) → o₅ ≡ put o₀ 0 (block_bytes (inverse_of b) refs values)
  unfolding block_bytes put write_size
  inverse_put made o₀ o₁ o₂ o₃ o₄ o₅ m p q r s t =
      let x = inverse_of b in
      let size = write_size false (length refs) (length values) 0 in
      let long : 56 + 8 * n + 8 + 8 * n ≡ size = omega (arith, many, same) in
      let linked : 4 + n ≡ 4 + length refs = omega (arith, many) in
      let place : 56 + 8 * n ≡ 56 + 8 * length refs = omega (arith, many) in
      let front = front_bytes x refs (length values) size in
      let first : o₁ ≡ put o₀ 0 (header_bytes conversion_id 0 size (4 + length refs)) =
      p ∙ ap (λ (k : ℕ). put o₀ 0 (header_bytes conversion_id 0 k (4 + n))) long ∙ ap (λ (k : ℕ). put o₀ 0 (header_bytes conversion_id 0 size k)) linked in
      let fields : o₄ ≡ put o₃ (56 + 8 * length refs) (field_bytes x (length values)) =
      s ∙ ap (λ (k : ℕ). put o₃ k (field_bytes made n)) place ∙ ap (λ (k : ℕ). put o₃ (56 + 8 * length refs) (field_bytes made k)) (sym same)
      ∙ ap (λ (y : Block). put o₃ (56 + 8 * length refs) (field_bytes y (length values))) m in
      let before : o₄ ≡ put o₀ 0 front =
      front_parts x refs (length values) size o₀ first (q ∙ ap (λ (y : Block). put o₁ 24 (fixed_bytes y)) m) r fields refl in
      let behind : 56 + 8 * n + 8 ≡ 0 + length front = omega (arith, many, length_front x refs (length values) size) in
      two_puts front (links values) o₀ 0 before (t ∙ ap (λ (k : ℕ). put o₄ k (links values)) behind) ∙ ap (put o₀ 0) (sym (append-nil (front ++ links values)))

-- ---- the keys of a block that was parsed lie in its image
take_words : (s : List ℕ) (p n m : ℕ) → n ≤ m → take n (words s p m) ≡ words s p n
unfolding words
take_words s p zero m h = refl
take_words s p (suc n) zero h = absurd (omega arith)
take_words s p (suc n) (suc m) h = ap (λ (ws : List ℕ). word64 s p ∷ ws) (take_words s (p + 8) n m (omega arith))

module _ (img : List ℕ) (a : ℕ) (b : Block) (whole : parsed img a ≡ Ok b) where
  pub keys_in : KeysIn img (view_of b) b.valcount
  unfolding block_end val_count block_at fields_at
  keys_in =
      let w = parsed_whole img a b whole in
      let inner = w.fits in
      rw w.same (omega arith)

  pub key_places : b.valcount ≤ b.links - 4 → KeyPlaces b (length img) (64 + 16 * b.valcount)
  unfolding block_end values_place fields_place ref_count val_count block_at fields_at
  key_places few =
      let w = parsed_whole img a b whole in
      let inner = w.fits in
      let enough : (block_at img a).valcount ≤ (block_at img a).links - 4 = rw w.same at few in
      let refs : b.firstref + 8 * b.valcount ≤ length img = rw w.same (omega arith) in
      (refs, keys_in, omega arith)

  -- the references that are taken over are as many as there are keys
  pub block_is : b.valcount ≤ b.links - 4
      → inverse_bytes img b ≡ block_bytes (inverse_of b) (words img b.firstref b.valcount) (words img b.firstval b.valcount)
  unfolding inverse_bytes references value_words
  block_is few =
      ap (λ (rs : List ℕ). block_bytes (inverse_of b) rs (words img b.firstval b.valcount)) (take_words img b.firstref b.valcount (b.links - 4) few)

-- ---- what is answered after each test
module _ (img : List ℕ) (a : ℕ) (b : Block) (out : List ℕ) where
  pub other_type : (b.kind ≡ 7 → ⊥) → inverted img a b out ≡ write_call (Err (WrongType a)) out
  unfolding inverted
  other_type h = rw (ne_eqb b.kind 7 h)

  pub of_fault : b.kind ≡ 7 → (f : Result Unit Refusal) → first_fault img (view_of b) 0 b.valcount ≡ f → inverted img a b out ≡ unless_faulty f (inverse_bytes img b) out
  unfolding inverted
  of_fault h f e = rw (eq-eqb b.kind 7 h, e)

-- the first fault of a block, from that of its view
pub fault_seen : (img : List ℕ) (b : Block) (v : View) (r f : Result Unit Refusal) → v ≡ view_of b → r ≡ first_fault img v 0 v.valcount → r ≡ f
    → first_fault img (view_of b) 0 b.valcount ≡ f
fault_seen img b v r f p q e = ap (λ (w : View). first_fault img w 0 w.valcount) (sym p) ∙ sym q ∙ e
