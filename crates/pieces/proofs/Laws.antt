-- Laws of writing: nothing, one byte, one text and then another, a part of a list byte by byte. Assumes nothing.
use Rattle.std.proofs.lemmas.Bool.{cases_lt}
use mathlib.Core.Path.{◌≡◌, refl, sym, ap, subst, ◌∙◌}
use mathlib.Core.Bool.{Bool, true, false, cond}
use mathlib.Core.Logic.{⊎_elim}
use mathlib.Core.List.{List, [], ◌∷◌, ◌++◌}
use Prim.Native.Nat.{ℕ, zero, suc, ◌+◌, ◌-◌, ◌≤◌, ◌<◌, min}
use native.Mathlib.Nat.{add-zero}
use native.Mathlib.Numerals.{add-one}
use native.Mathlib.Omega.{arith}
use lib.Dec.{eqb}
use lib.ListN.{length, get_or, take, drop, set, length-set, length-append, length-take, length-drop, get_or-append}
use lib.Seq.{take-suc, take_all, take-length, take-take, length-take-le, get_or-take, get_or-drop, get_or-set_same, get_or-set_other, get_or-append-add}
use Rattle.words.specs.Words.{part}
use Rattle.common.specs.Text.{until_zero, text_bytes}
use Rattle.common.proofs.Texts.{bytes_short, text_shown}
use Rattle.pieces.specs.Write.{sat, Wrote, PlaceIn, Put}
use Rattle.pieces.specs.declared.paste.Place.{Place}

pub none : (o : List ℕ) (pos lim : ℕ) → Wrote o o pos lim []
none o pos lim = record { same = refl; below = λ i h. refl; above = λ i h. refl; text = λ i h l. omega arith }

-- where a text was written, the empty text was
pub forget : {o p : List ℕ} {pos lim : ℕ} {t : List ℕ} → Wrote o p pos lim t → Wrote o p pos lim []
forget w = record { same = w.same; below = w.below; above = w.above; text = λ i h l. omega arith }

-- from the limit on nothing is written
pub past : (o : List ℕ) (pos lim : ℕ) (t : List ℕ) → lim ≤ pos → Wrote o o pos lim t
past o pos lim t h = record { same = refl; below = λ i k. refl; above = λ i k. refl; text = λ i k l. absurd (omega arith) }

pub one : (o : List ℕ) (pos lim b : ℕ) → pos < lim → lim ≤ length o → Wrote o (set o pos b) pos lim (b ∷ [])
one o pos lim b h l = record {
  same = length-set o pos b;
  below = λ i k. get_or-set_other o pos i b 0 (omega arith);
  above = λ i k. get_or-set_other o pos i b 0 (omega arith);
  text = λ i k m. first i (omega arith);
}
  where
    first : (i : ℕ) → i ≡ 0 → get_or (set o pos b) (pos + i) 0 ≡ get_or (b ∷ []) i 0
    first i e = rw (e, add-zero) (get_or-set_same o pos b 0 (omega arith))

-- a text, and then another from where the first ended
pub next : (o p q : List ℕ) (pos lim e : ℕ) (s t : List ℕ) → lim ≤ length o → e ≡ sat (length o) (pos + length s) → Wrote o p pos lim s → Wrote p q e lim t
    → Wrote o q pos lim (s ++ t)
next o p q pos lim e s t fits end w x = record {
  same = x.same ∙ w.same;
  below = λ i h. ⊎_elim (λ l. x.below i l ∙ w.below i h) (λ l. x.above i (omega arith) ∙ w.above i (omega arith)) (cases_lt i e);
  above = λ i h. x.above i h ∙ w.above i h;
  text = λ i h l. ⊎_elim (λ k. x.below (pos + i) (omega arith) ∙ w.text i k l ∙ sym (get_or-append s t 0 i k)) (λ k. late i (i - length s) (omega arith) (omega (arith, length-append s t)) l) (cases_lt i (length s));
}
  where
    late : (i j : ℕ) → i ≡ length s + j → j < length t → pos + i < lim → get_or q (pos + i) 0 ≡ get_or (s ++ t) i 0
    late i j a h l =
        ap (λ (k : ℕ). get_or q k 0) (omega arith)
        ∙ x.text j h (omega arith)
        ∙ sym (get_or-append-add s t j 0)
        ∙ ap (λ (k : ℕ). get_or (s ++ t) k 0) (sym a)

pub then : {o p q : List ℕ} {at e f : Place} {s t : List ℕ} → at.lim ≤ length o → Put o p at s e → Put p q e t f → Put o q at (s ++ t) f
then {o} {p} {q} {at} {e} {f} {s} {t} fits x y = record {
  end = simp length-append (omega (arith, x.end, x.wrote.same, y.end));
  limit = y.limit ∙ x.limit;
  wrote = next o p q at.pos at.lim e.pos s t fits x.end x.wrote (subst (λ (l : ℕ). Wrote p q e.pos l t) x.limit y.wrote);
}

pub empty : (o : List ℕ) (at : Place) → at.pos ≤ length o + 1 → Put o o at [] at
empty o at h = record { end = omega arith; limit = refl; wrote = none o at.pos at.lim }

-- the place behind lies in the output again
pub placed : {o p : List ℕ} {at e : Place} {t : List ℕ} → PlaceIn o at → Put o p at t e → PlaceIn p e
placed fits put = (omega (arith, fits.0, put.wrote.same, put.limit), omega (arith, put.wrote.same, put.end))

-- ---- the front of a list: one byte more, and all of it where the limit is met
module _ (o p : List ℕ) (pos lim : ℕ) (s : List ℕ) where
  pub one_more : (k n b e : ℕ) → k < length s → n ≡ k + 1 → b ≡ get_or s k 0 → e ≡ pos + k → e < lim → lim ≤ length o
      → Wrote o p pos lim (take k s) → Wrote o (set p e b) pos lim (take n s)
  one_more k n b e h hn hb he hl out w =
      let size : length (take k s) ≡ k = length-take-le k s (omega arith) in
      rw (hn, add-one, take-suc s k 0 h, ← hb)
      (next o p (set p e b) pos lim e (take k s) (b ∷ []) out (omega arith) w (one p e lim b hl (omega (arith, w.same))))

  pub longer : (k n : ℕ) → k ≤ length s → lim ≤ pos + k → Wrote o p pos lim (take k s) → Wrote o p pos lim (take n s)
  longer k n h l w = record { same = w.same; below = w.below; above = w.above; text = early }
    where
      early : (i : ℕ) → i < length (take n s) → pos + i < lim → get_or p (pos + i) 0 ≡ get_or (take n s) i 0
      early i hi hl =
          let short : i < n = omega (arith, length-take n s) in
          let there : i < k = omega arith in
          let held : i < length (take k s) = omega (arith, length-take k s) in
          w.text i held hl ∙ get_or-take k s i 0 there ∙ sym (get_or-take n s i 0 short)

-- ---- the part of s from one place on
pub part_more : (o p : List ℕ) (pos lim : ℕ) (s : List ℕ) (from k : ℕ) → from + k < length s → pos + k < lim → lim ≤ length o
    → Wrote o p pos lim (take k (drop from s)) → Wrote o (set p (pos + k) (get_or s (from + k) 0)) pos lim (take (k + 1) (drop from s))
part_more o p pos lim s from k h hl out w =
    one_more o p pos lim (drop from s) k (k + 1) (get_or s (from + k) 0) (pos + k) (omega (arith, length-drop from s)) refl (sym (get_or-drop from s k 0)) refl hl out w

-- ---- a text that runs in the image, looked at no further than one byte past the room
until_take : (n : ℕ) (bs : List ℕ) → until_zero (take n bs) ≡ take n (until_zero bs)
unfolding until_zero
until_take zero bs = refl
until_take (suc n) [] = refl
until_take (suc n) (b ∷ bs) = go (eqb b 0) (until_take n bs)
  where
    go : (z : Bool) → until_zero (take n bs) ≡ take n (until_zero bs)
        → cond z [] (b ∷ until_zero (take n bs)) ≡ take (suc n) (cond z [] (b ∷ until_zero bs))
    go true e = refl
    go false e = ap (λ (l : List ℕ). b ∷ l) e

-- the text of a shorter run is the front of the text
pub shorter_run : (img : List ℕ) (from n to : ℕ) → from + n ≤ to → text_bytes img from (from + n) ≡ take n (text_bytes img from to)
unfolding text_bytes
shorter_run img from n to h =
    let k : (from + n) - from ≡ n = omega arith in
    ap (λ (m : ℕ). until_zero (take m (drop from img))) k
    ∙ ap until_zero (sym (take-take n (to - from) (drop from img) (omega arith)))
    ∙ until_take n (part img from to)

-- what is looked at of a text: all of it, or one byte past the room
pub looked_at : (img : List ℕ) (from to n : ℕ) → from ≤ to → length (text_bytes img from (min to (from + n))) ≡ min (length (text_bytes img from to)) n
looked_at img from to n h = ⊎_elim
    (λ (l : from + n < to).
    let m : min to (from + n) ≡ from + n = omega arith in
    ap (λ (k : ℕ). length (text_bytes img from k)) m
    ∙ ap length (shorter_run img from n to (omega arith))
    ∙ length-take n (text_bytes img from to)
    ∙ (let e : min n (length (text_bytes img from to)) ≡ min (length (text_bytes img from to)) n = omega arith in e))
    (λ (l : to ≤ from + n).
    let m : min to (from + n) ≡ to = omega arith in
    ap (λ (k : ℕ). length (text_bytes img from k)) m
    ∙ (let e : length (text_bytes img from to) ≡ min (length (text_bytes img from to)) n = omega (arith, bytes_short img from to) in e))
    (cases_lt (from + n) to)

-- the part of the image that is looked at is the front of the text
pub looked_part : (img : List ℕ) (from to n : ℕ) → n ≤ length (text_bytes img from to) → take n (drop from img) ≡ take n (text_bytes img from to)
looked_part img from to n h =
    let t = text_bytes img from to in
    let all : (from + length t) - from ≡ length t = omega arith in
    sym (take-take n (length t) (drop from img) h) ∙ ap (take n) (ap (λ (k : ℕ). take k (drop from img)) (sym all) ∙ text_shown img from to)

-- a text is put where it is written as far as it was looked at
pub text_put : {o p part : List ℕ} {at e : Place} (t : List ℕ) (n : ℕ) → PlaceIn o at → n ≡ min (length t) (length o + 1 - at.pos) → e.pos ≡ at.pos + n
    → e.lim ≡ at.lim → part ≡ take n t → Wrote o p at.pos at.lim part → Put o p at t e
text_put {o} {p} {part} {at} {e} t n fits hn he hl front v =
    let w : Wrote o p at.pos at.lim (take n t) = rw front at v in
    record {
      end = omega arith;
      limit = hl;
      wrote = ⊎_elim
          (λ (l : n < length t). rw take-length at (longer o p at.pos at.lim t n (length t) (omega arith) (omega arith) w))
          (λ (l : length t ≤ n). rw (take_all n t l) at w)
          (cases_lt n (length t));
    }
