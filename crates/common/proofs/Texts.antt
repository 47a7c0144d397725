-- The text of a text block: its bytes one after the other, what is answered after each test, and what is known of an answer. Assumes nothing.
use mathlib.Core.Path.{◌≡◌, refl, sym, ap, ◌∙◌}
use mathlib.Core.Bool.{Bool, true, false, not, ◌&&◌, cond}
use mathlib.Core.List.{List, [], ◌∷◌}
use Prim.Native.Nat.{ℕ, suc, ◌+◌, ◌-◌, ◌≤◌, ◌<◌}
use native.Mathlib.Omega.{arith}
use native.Mathlib.Numerals.{add-one}
use borrow.Author.Tests.{le-leb, leb-true, ne_eqb}
use lib.Dec.{leb, eqb}
use lib.ListN.{length, get_or, take, drop, length-take}
use lib.Seq.{drop-cons, take-take}
use Rattle.std.specs.Prelude.{Option, Some, None}
use Rattle.words.specs.Words.{word64, part}
use Rattle.common.specs.Header.{inside, text_id, has_id}
use Rattle.common.specs.Text.{until_zero, is_whole_text, run_at, run_of, text_bytes, cut_off, text_of, shown, TextIn}
use Rattle.common.specs.declared.text.Span.{Span}

-- ---- the bytes from i up to `to` begin with the byte at i
first_byte : (img : List ℕ) (i to : ℕ) → i < to → to ≤ length img
    → part img i to ≡ get_or img i 0 ∷ part img (i + 1) to
first_byte img i to h k =
    let n : to - i ≡ suc (to - (i + 1)) = omega arith in
    let inner : i < length img = omega arith in
    ap (λ (m : ℕ). take m (drop i img)) n
    ∙ ap (λ (l : List ℕ). take (suc (to - (i + 1))) l) (drop-cons img i 0 inner)
    ∙ ap (λ (m : ℕ). get_or img i 0 ∷ take (to - (i + 1)) (drop m img)) (sym (add-one i))

-- a text's bytes from i on: none at a zero byte and at the run's end, else the byte at i and those behind it
pub bytes_zero : (img : List ℕ) (i to : ℕ) → i < to → to ≤ length img → get_or img i 0 ≡ 0 → text_bytes img i to ≡ []
unfolding text_bytes until_zero
bytes_zero img i to h k z = rw (first_byte img i to h k, z)

pub bytes_more : (img : List ℕ) (i to : ℕ) → i < to → to ≤ length img → (get_or img i 0 ≡ 0 → ⊥)
    → text_bytes img i to ≡ get_or img i 0 ∷ text_bytes img (i + 1) to
unfolding text_bytes until_zero
bytes_more img i to h k z = rw (first_byte img i to h k, ne_eqb _ _ z)

pub bytes_none : (img : List ℕ) (i to : ℕ) → to ≤ i → text_bytes img i to ≡ []
unfolding text_bytes until_zero
bytes_none img i to h = let e : to - i ≡ 0 = omega arith in rw e

-- ---- the answer after each test
module _ (id : ℕ) (img : List ℕ) (a : ℕ) where
  pub run_other : has_id id img a ≡ false → run_at id img a ≡ None
  unfolding run_at is_whole_text
  run_other t = rw t

  pub run_whole : has_id id img a ≡ true → 24 ≤ word64 img (a + 8) → a + word64 img (a + 8) ≤ length img
      → run_at id img a ≡ Some (record { from = a + 24; to = a + word64 img (a + 8) })
  unfolding run_at is_whole_text
  run_whole t h k = simp (t, le-leb _ _ h, le-leb _ _ k)

module _ (img : List ℕ) (a : ℕ) where
  pub run_nil : a ≡ 0 → run_of img a ≡ None
  unfolding run_of
  run_nil z = rw z

  pub run_outside : (a ≡ 0 → ⊥) → inside img a ≡ false → run_of img a ≡ None
  unfolding run_of
  run_outside z h = simp (ne_eqb a 0 z, h)

  pub run_inside : (a ≡ 0 → ⊥) → inside img a ≡ true → run_of img a ≡ run_at text_id img a
  unfolding run_of
  run_inside z h = simp (ne_eqb a 0 z, h)

-- ---- what an answer is worth: its part lies in the image, and shows the text's bytes
until_zero_short : (bs : List ℕ) → length (until_zero bs) ≤ length bs
unfolding until_zero
until_zero_short [] = omega arith
until_zero_short (b ∷ bs) = go (eqb b 0) (until_zero_short bs)
  where
    go : (z : Bool) → length (until_zero bs) ≤ length bs → length (cond z [] (b ∷ until_zero bs)) ≤ suc (length bs)
    go true r = omega arith
    go false r = omega arith

until_zero_front : (bs : List ℕ) → take (length (until_zero bs)) bs ≡ until_zero bs
unfolding until_zero
until_zero_front [] = refl
until_zero_front (b ∷ bs) = go (eqb b 0) (until_zero_front bs)
  where
    go : (z : Bool) → take (length (until_zero bs)) bs ≡ until_zero bs
        → take (length (cond z [] (b ∷ until_zero bs))) (b ∷ bs) ≡ cond z [] (b ∷ until_zero bs)
    go true r = refl
    go false r = ap (λ (l : List ℕ). b ∷ l) r

-- a text is no longer than its run
pub bytes_short : (img : List ℕ) (from to : ℕ) → length (text_bytes img from to) ≤ to - from
unfolding text_bytes
bytes_short img from to =
    omega (arith, until_zero_short (part img from to), length-take (to - from) (drop from img))

-- the part that is cut off where the text ends shows the text
pub text_shown : (img : List ℕ) (from to : ℕ) → shown img (Some (record { from = from; to = from + length (text_bytes img from to) })) ≡ text_bytes img from to
unfolding text_bytes
text_shown img from to =
    let bs = part img from to in
    let n : (from + length (until_zero bs)) - from ≡ length (until_zero bs) = omega arith in
    let few : length (until_zero bs) ≤ to - from = omega (arith, until_zero_short bs, length-take (to - from) (drop from img)) in
    ap (λ (k : ℕ). take k (drop from img)) n ∙ sym (take-take (length (until_zero bs)) (to - from) (drop from img) few) ∙ until_zero_front bs

-- what a link's text shows is the text of the run that the link leads to; where there is no run there is no text
pub text_of_shown : (img : List ℕ) (link : ℕ) (run : Span) → run_of img link ≡ Some run → shown img (text_of img link) ≡ text_bytes img run.from run.to
unfolding text_of
text_of_shown img link run e = ap (λ (t : Option Span). shown img (cut_off img t)) e ∙ text_shown img run.from run.to

pub text_of_none : (img : List ℕ) (link : ℕ) → run_of img link ≡ None → text_of img link ≡ None
unfolding text_of
text_of_none img link e = ap (cut_off img) e

pub run_at_within : (id : ℕ) (img : List ℕ) (a : ℕ) → TextIn img (run_at id img a)
unfolding run_at is_whole_text
run_at_within id img a = go (has_id id img a) (leb 24 (word64 img (a + 8))) (leb (a + word64 img (a + 8)) (length img)) refl refl
  where
    go : (t u v : Bool) → leb 24 (word64 img (a + 8)) ≡ u → leb (a + word64 img (a + 8)) (length img) ≡ v
        → TextIn img (cond (t && u && v) (Some (record { from = a + 24; to = a + word64 img (a + 8) })) None)
    go true true true p q = let h = leb-true 24 (word64 img (a + 8)) p in (omega arith, leb-true _ _ q)
    go true true false p q = tt
    go true false v p q = tt
    go false u v p q = tt

pub run_within : (img : List ℕ) (link : ℕ) → TextIn img (run_of img link)
unfolding run_of
run_within img link = go (not (eqb link 0) && inside img link) (run_at_within text_id img link)
  where
    go : (b : Bool) → TextIn img (run_at text_id img link) → TextIn img (cond b (run_at text_id img link) None)
    go true h = h
    go false h = tt

-- a run that is cut off lies in the image, too
pub cut_within : (img : List ℕ) (t : Option Span) → TextIn img t → TextIn img (cut_off img t)
cut_within img (Some run) h = (omega arith, omega (arith, h.0, h.1, bytes_short img run.from run.to))
cut_within img None h = tt

pub text_within : (img : List ℕ) (link : ℕ) → TextIn img (text_of img link)
unfolding text_of
text_within img link = cut_within img (run_of img link) (run_within img link)
