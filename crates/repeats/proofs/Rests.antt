-- What is left of a text from a place on, and its byte there. Assumes nothing.
use mathlib.Core.Path.{◌≡◌, refl, sym, ap, ◌∙◌}
use mathlib.Core.Bool.{Bool, true, false}
use mathlib.Core.List.{List, []}
use Prim.Native.Nat.{ℕ, zero, suc, ◌+◌, ◌≤◌, ◌<◌}
use native.Mathlib.Omega.{arith}
use borrow.Author.Tests.{ltb-true, ltb-false, eqb-true, eqb-false}
use lib.Dec.{eqb, ltb}
use lib.ListN.{length, get_or, drop, get_or-eq_default}
use lib.Seq.{get_or-drop}
use Rattle.common.specs.Text.{text_bytes}
use Rattle.common.proofs.Texts.{bytes_zero, bytes_more, bytes_none, bytes_short}

-- the text of a run up to `to`
module _ (img : List ℕ) (to : ℕ) (inner : to ≤ length img) where
  -- from i on
  pub rest : (p i : ℕ) → i ≤ length (text_bytes img p to) → text_bytes img (p + i) to ≡ drop i (text_bytes img p to)
  rest p zero h = let e : p + 0 ≡ p = omega arith in rw e
  rest p (suc i) h = go (ltb p to) (eqb (get_or img p 0) 0) refl refl (rest (p + 1) i)
    where
      none : text_bytes img p to ≡ [] → ⊥
      none e = let z : length (text_bytes img p to) ≡ 0 = ap length e in omega arith

      go : (x z : Bool) → ltb p to ≡ x → eqb (get_or img p 0) 0 ≡ z
          → (i ≤ length (text_bytes img (p + 1) to) → text_bytes img (p + 1 + i) to ≡ drop i (text_bytes img (p + 1) to)) → text_bytes img (p + suc i) to ≡ drop (suc i) (text_bytes img p to)
      go false z ex ez again = absurd (none (bytes_none img p to (ltb-false _ _ ex)))
      go true true ex ez again = absurd (none (bytes_zero img p to (ltb-true _ _ ex) inner (eqb-true _ _ ez)))
      go true false ex ez again =
          let m = bytes_more img p to (ltb-true _ _ ex) inner (eqb-false _ _ ez) in
          let n : length (text_bytes img p to) ≡ suc (length (text_bytes img (p + 1) to)) = ap length m in
          let e : p + suc i ≡ p + 1 + i = omega arith in
          let r : text_bytes img (p + 1 + i) to ≡ drop i (text_bytes img (p + 1) to) = again (omega arith) in
          ap (λ (k : ℕ). text_bytes img k to) e ∙ r ∙ sym (ap (drop (suc i)) m)

  -- its byte there: that of the image, and 0 at its end
  pub byte_here : (p i : ℕ) → i ≤ length (text_bytes img p to) → p + i < to → get_or img (p + i) 0 ≡ get_or (text_bytes img p to) i 0
  byte_here p i h k = go (eqb (get_or img (p + i) 0) 0) refl
    where
      at : get_or (drop i (text_bytes img p to)) 0 0 ≡ get_or (text_bytes img p to) i 0
      at = let e : i + 0 ≡ i = omega arith in get_or-drop i (text_bytes img p to) 0 0 ∙ ap (λ (j : ℕ). get_or (text_bytes img p to) j 0) e

      go : (z : Bool) → eqb (get_or img (p + i) 0) 0 ≡ z → get_or img (p + i) 0 ≡ get_or (text_bytes img p to) i 0
      go true ez =
          let none = sym (rest p i h) ∙ bytes_zero img (p + i) to k inner (eqb-true _ _ ez) in
          eqb-true _ _ ez ∙ sym (ap (λ (l : List ℕ). get_or l 0 0) none) ∙ at
      go false ez =
          let more = sym (rest p i h) ∙ bytes_more img (p + i) to k inner (eqb-false _ _ ez) in
          sym (ap (λ (l : List ℕ). get_or l 0 0) more) ∙ at

  pub byte_end : (p i : ℕ) → to ≤ p + i → 0 ≡ get_or (text_bytes img p to) i 0
  byte_end p i k = sym (get_or-eq_default (text_bytes img p to) 0 (omega (arith, bytes_short img p to)))

  -- a byte that is 0 is its end
  pub ends : (p i : ℕ) → i ≤ length (text_bytes img p to) → get_or (text_bytes img p to) i 0 ≡ 0 → drop i (text_bytes img p to) ≡ []
  ends p i h e = go (ltb (p + i) to) refl
    where
      go : (x : Bool) → ltb (p + i) to ≡ x → drop i (text_bytes img p to) ≡ []
      go true ex = sym (rest p i h) ∙ bytes_zero img (p + i) to (ltb-true _ _ ex) inner (byte_here p i h (ltb-true _ _ ex) ∙ e)
      go false ex = sym (rest p i h) ∙ bytes_none img (p + i) to (ltb-false _ _ ex)
