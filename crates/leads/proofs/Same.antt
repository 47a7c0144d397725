-- Two texts compared byte by byte. Assumes nothing.
use mathlib.Core.Path.{◌≡◌, refl, sym, ap, ◌∙◌}
use mathlib.Core.Bool.{Bool, true, false, cond}
use mathlib.Core.List.{List, [], ◌∷◌}
use Prim.Native.Nat.{ℕ, suc, ◌+◌, ◌-◌, ◌≤◌, ◌<◌}
use native.Mathlib.Numerals.{add-one}
use native.Mathlib.Omega.{arith}
use borrow.Author.Tests.{eq-eqb, ne_eqb, eqb-true, eqb-false}
use lib.Dec.{eqb}
use lib.ListN.{length, get_or, drop, drop_of_length-le}
use lib.Seq.{drop-cons}
use Rattle.common.specs.Text.{text_bytes}
use Rattle.common.proofs.Texts.{bytes_zero, bytes_more, bytes_none, bytes_short}
use Rattle.leads.specs.Keys.{same_bytes}

same_unlike : (xs ys : List ℕ) → (length xs ≡ length ys → ⊥) → same_bytes xs ys ≡ false
unfolding same_bytes
same_unlike [] [] h = absurd (h refl)
same_unlike [] (y ∷ ys) h = refl
same_unlike (x ∷ xs) [] h = refl
same_unlike (x ∷ xs) (y ∷ ys) h = go (eqb x y) (same_unlike xs ys (λ e. h (ap suc e)))
  where
    go : (b : Bool) → same_bytes xs ys ≡ false → cond b (same_bytes xs ys) false ≡ false
    go true e = e
    go false e = refl

-- the text that runs in the image from p up to `to` against the question from i on
module _ (img text : List ℕ) (to : ℕ) (inner : to ≤ length img) where
  abbrev pub same_past : ℕ → ℕ → Bool
  same_past p i = same_bytes (text_bytes img p to) (drop i text)

  -- where it ends, and where it goes on
  pub end_run : (p : ℕ) → to ≤ p → same_bytes (text_bytes img p to) [] ≡ true
  unfolding same_bytes
  end_run p h = rw (bytes_none img p to h)

  pub end_zero : (p : ℕ) → p < to → get_or img p 0 ≡ 0 → same_bytes (text_bytes img p to) [] ≡ true
  unfolding same_bytes
  end_zero p h z = rw (bytes_zero img p to h inner z)

  pub end_not : (p : ℕ) → p < to → (get_or img p 0 ≡ 0 → ⊥) → same_bytes (text_bytes img p to) [] ≡ false
  unfolding same_bytes
  end_not p h z = rw (bytes_more img p to h inner z)

  pub end_byte : (p : ℕ) → p < to → eqb (get_or img p 0) 0 ≡ same_bytes (text_bytes img p to) []
  end_byte p h = go (eqb (get_or img p 0) 0) refl
    where
      go : (b : Bool) → eqb (get_or img p 0) 0 ≡ b → b ≡ same_bytes (text_bytes img p to) []
      go true e = sym (end_zero p h (eqb-true _ _ e))
      go false e = sym (end_not p h (eqb-false _ _ e))

  -- a text is no longer than its run
  pub same_longer : (p : ℕ) → to - p < length text → same_bytes (text_bytes img p to) text ≡ false
  same_longer p h = same_unlike (text_bytes img p to) text (λ e. omega (arith, e, bytes_short img p to))

  -- a zero byte where the question goes on
  pub same_ended : (p i : ℕ) → p < to → i < length text → get_or img p 0 ≡ 0 → same_past p i ≡ false
  unfolding same_bytes
  same_ended p i h k z = rw (bytes_zero img p to h inner z, drop-cons text i 0 k)

  step : (p i : ℕ) → p < to → i < length text → (get_or img p 0 ≡ 0 → ⊥)
      → same_past p i ≡ cond (eqb (get_or img p 0) (get_or text i 0)) (same_past (p + 1) (i + 1)) false
  unfolding same_bytes
  step p i h k z =
      let rest : drop i text ≡ get_or text i 0 ∷ drop (i + 1) text = drop-cons text i 0 k ∙ ap (λ (m : ℕ). get_or text i 0 ∷ drop m text) (sym (add-one i)) in
      rw (bytes_more img p to h inner z, rest)

  pub same_more : (p i : ℕ) → p < to → i < length text → get_or img p 0 ≡ get_or text i 0 → (get_or img p 0 ≡ 0 → ⊥) → same_past p i ≡ same_past (p + 1) (i + 1)
  same_more p i h k same z = step p i h k z ∙ rw (eq-eqb _ _ same)

  pub same_stop : (p i : ℕ) → p < to → i < length text → (get_or img p 0 ≡ get_or text i 0 → ⊥) → same_past p i ≡ false
  same_stop p i h k other = go (eqb (get_or img p 0) 0) refl
    where
      go : (b : Bool) → eqb (get_or img p 0) 0 ≡ b → same_past p i ≡ false
      go true e = same_ended p i h k (eqb-true _ _ e)
      go false e = step p i h k (eqb-false _ _ e) ∙ rw (ne_eqb _ _ other)

  -- the question has ended
  pub same_all : (p i : ℕ) → length text ≤ i → same_past p i ≡ same_bytes (text_bytes img p to) []
  same_all p i k = rw (drop_of_length-le text k)
