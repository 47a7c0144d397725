-- From what the engine ensures to what a call ensures: measured with a limit of 0, and then laid: copied from the image, or written with the limit at
-- the text's end. Assumes nothing.
use mathlib.Core.Path.{◌≡◌, refl, sym, ap, subst, ◌∙◌}
use mathlib.Core.Bool.{Bool}
use mathlib.Core.Logic.{⊎_elim}
use mathlib.Core.List.{List, [], ◌++◌}
use Prim.Native.Nat.{ℕ, ◌+◌, ◌-◌, ◌≤◌, ◌<◌}
use native.Mathlib.Nat.{zero-add}
use native.Mathlib.Omega.{arith}
use borrow.Author.Tests.{le-leb, lt-leb}
use lib.ListN.{length, get_or, drop, length-append, length-drop, get_or-append}
use lib.Seq.{ext_get_or, get_or-append-add, get_or-drop}
use Rattle.common.specs.declared.refusal.Refusal.TheVariants as refusal
use Rattle.pieces.specs.Write.{sat, sat32, Wrote}
use Rattle.pieces.specs.Answer as says
use Rattle.pieces.specs.Did.{Says, SaysText, laid, laid_text}
use Rattle.pieces.specs.declared.said.Said.{Said}
use Rattle.pieces.specs.declared.said.Said.TheVariants as said
use Rattle.std.proofs.lemmas.Bool.{cases_lt}
use Rattle.pieces.proofs.Laws.{next}
use Rattle.engine.specs.Apply.{Ap}
use Rattle.conversion.specs.Laid.{Laid, Answered}
use Rattle.conversion.specs.Entry.{call, answer_in, output_after, settled}
use Rattle.conversion.specs.declared.logic.Answer.{Answer}
use Rattle.conversion.specs.declared.logic.Answer.TheVariants as answer

-- a limit of 0: nothing is written
pub untouched : {o p t : List ℕ} {pos : ℕ} → Wrote o p pos 0 t → p ≡ o
untouched {o} {p} w = ext_get_or 0 p o w.same (λ i h. w.above i (omega arith))

-- a limit at the text's end: the text, and then what was there
whole : (o p t : List ℕ) (n : ℕ) → n ≡ length t → n ≤ length o → Wrote o p 0 n t → p ≡ t ++ drop n o
whole o p t n e h w = ext_get_or 0 p (t ++ drop n o) (w.same ∙ simp (length-append, length-drop) (omega arith)) at
  where
    at : (i : ℕ) → i < length p → get_or p i 0 ≡ get_or (t ++ drop n o) i 0
    at i l = ⊎_elim
        (λ (k : i < length t). (rw zero-add at (w.text i k (omega arith))) ∙ sym (get_or-append t (drop n o) 0 i k))
        (λ (k : length t ≤ i).
        let q : length t + (i - length t) ≡ i = omega arith in
        w.above i (omega arith) ∙ ap (λ (j : ℕ). get_or o j 0) (let r : i ≡ n + (i - length t) = omega arith in r)
        ∙ sym (get_or-drop n o (i - length t) 0) ∙ sym (get_or-append-add t (drop n o) (i - length t) 0) ∙ ap (λ (j : ℕ). get_or (t ++ drop n o) j 0) q)
        (cases_lt i (length t))

pub same_text : {o p s t : List ℕ} {pos lim : ℕ} → s ≡ t → Wrote o p pos lim s → Wrote o p pos lim t
same_text {o} {p} {pos = pos} {lim = lim} e w = subst (Wrote o p pos lim) e w

-- ---- a text, by its length
module _ (a : ℕ) (t o : List ℕ) where
  pub too_long : length o < length t → Answered a (says.text t) o o (answer.Refused refusal.Room)
  unfolding answer_in output_after
  too_long h = rw (lt-leb (length t) (length o) h) (refl, refl)

  pub fitting : (n : ℕ) {p : List ℕ} → n ≡ length t → n ≤ length o → Wrote o p 0 n t → Answered a (says.text t) o p (answer.Text n)
  unfolding answer_in output_after
  fitting n {p} e h w = rw (le-leb (length t) (length o) (omega arith), ← e) (refl, whole o p t n e h w)

-- ---- no text
-- the call's word for what was said
abbrev pub worded : ℕ → Said → Answer
worded a (said.Number x) = answer.Number x
worded a (said.Words run) = answer.Unchanged
worded a (said.Text e) = answer.Unchanged
worded a said.Unchanged = answer.Unchanged
worded a said.Unknown = answer.Unknown
worded a said.Formula = answer.Refused refusal.Formula
worded a said.Broken = answer.Refused (refusal.Short a)

abbrev pub NoText : Said → Type 0
NoText (said.Number x) = Unit {0}
NoText (said.Words run) = ⊥
NoText (said.Text e) = ⊥
NoText said.Unchanged = Unit {0}
NoText said.Unknown = Unit {0}
NoText said.Formula = Unit {0}
NoText said.Broken = Unit {0}

not_both : (img : List ℕ) (room : ℕ) (t : List ℕ) (s : Said) → SaysText img room 0 t s → NoText s → ⊥
not_both img room t (said.Number x) k n = k
not_both img room t (said.Words run) k n = n
not_both img room t (said.Text e) k n = n
not_both img room t said.Unchanged k n = k
not_both img room t said.Unknown k n = k
not_both img room t said.Formula k n = k
not_both img room t said.Broken k n = k

by_answer : (img : List ℕ) (a : ℕ) (x : says.Answer) (o : List ℕ) (s : Said) → Says img (length o) 0 x s → NoText s → Answered a x o o (worded a s)
unfolding answer_in output_after
by_answer img a (says.number y) o s k n = (ap (worded a) k, refl)
by_answer img a (says.text t) o s k n = absurd (not_both img (length o) t s k n)
by_answer img a says.unchanged o s k n = (ap (worded a) k, refl)
by_answer img a says.unknown o s k n = (ap (worded a) k, refl)
by_answer img a says.formula o s k n = (ap (worded a) k, refl)
by_answer img a says.broken o s k n = (ap (worded a) k, refl)

-- the answer to what was said, where that is no text
pub quietly : (img : List ℕ) (a : ℕ) (x : says.Answer) (o : List ℕ) (s t : Said) → t ≡ s → Says img (length o) 0 x t → NoText s
    → Answered a x o o (worded a s)
quietly img a x o s t e k n = by_answer img a x o s (subst (Says img (length o) 0 x) e k) n

-- ---- a text that was said
abbrev pub IsText : Said → Type 0
IsText (said.Number x) = ⊥
IsText (said.Words run) = Unit {0}
IsText (said.Text e) = Unit {0}
IsText said.Unchanged = ⊥
IsText said.Unknown = ⊥
IsText said.Formula = ⊥
IsText said.Broken = ⊥

-- the text that a writing pass has said, once it is laid
pub laid_whole : (img : List ℕ) (room : ℕ) (t : List ℕ) (e : ℕ) {o p q : List ℕ} (s : Said) → e ≡ length t → e ≤ length o → SaysText img room 0 t s
    → Wrote o p 0 e (laid_text t s) → Laid img e p q s → Wrote o q 0 e t
laid_whole img room t e (said.Number x) n f k w l = absurd k
laid_whole img room t e {o} {p} {q} (said.Words run) n f k w l =
    let start : 0 ≡ sat (length o) (0 + 0) = omega arith in
    next o p q 0 e 0 [] t f start w (subst (Wrote p q 0 e) (sym k.0) l)
laid_whole img room t e {o} {p} {q} (said.Text d) n f k w l = subst (λ (r : List ℕ). Wrote o r 0 e t) (sym l) w
laid_whole img room t e said.Unchanged n f k w l = absurd k
laid_whole img room t e said.Unknown n f k w l = absurd k
laid_whole img room t e said.Formula n f k w l = absurd k
laid_whole img room t e said.Broken n f k w l = absurd k

-- measured to be as long as the output's room allows, and written by a second pass
pub written : (img : List ℕ) (a : ℕ) (x : says.Answer) (o : List ℕ) (e : ℕ) {p q : List ℕ} (s : Said) → Says img (length o) 0 x (said.Text e) → e ≤ length o
    → Says img (length o) 0 x s → Wrote o p 0 e (laid x s) → Laid img e p q s → Answered a x o q (answer.Text e)
written img a (says.text t) o e {p} {q} s told room k w l =
    let size : e ≡ length t = omega (arith, told) in
    fitting a t o e size room (laid_whole img (length o) t e s size room k w l)
written img a (says.number y) o e s told room k w l = absurd (subst IsText told tt)
written img a says.unchanged o e s told room k w l = absurd (subst IsText told tt)
written img a says.unknown o e s told room k w l = absurd (subst IsText told tt)
written img a says.formula o e s told room k w l = absurd (subst IsText told tt)
written img a says.broken o e s told room k w l = absurd (subst IsText told tt)

pub no_room : (img : List ℕ) (a : ℕ) (x : says.Answer) (o : List ℕ) (e : ℕ) → Says img (length o) 0 x (said.Text e) → length o < e
    → Answered a x o o (answer.Refused refusal.Room)
no_room img a (says.text t) o e told full = too_long a t o (omega (arith, told))
no_room img a (says.number y) o e told full = absurd (subst IsText told tt)
no_room img a says.unchanged o e told full = absurd (subst IsText told tt)
no_room img a says.unknown o e told full = absurd (subst IsText told tt)
no_room img a says.formula o e told full = absurd (subst IsText told tt)
no_room img a says.broken o e told full = absurd (subst IsText told tt)

-- ---- the call
-- the measuring pass has left the output as it was
pub answered_from : (a : ℕ) (x : says.Answer) {o p q : List ℕ} {w : Answer} → p ≡ o → Answered a x p q w → Answered a x o q w
answered_from a x {q = q} {w = w} e h = subst (λ (l : List ℕ). Answered a x l q w) e h

pub settle : (A : Ap) (n a : ℕ) (few : length A.begun ≤ 4294967295) (o p : List ℕ) (m : ℕ) (odd : Bool) (w : Answer) → m ≡ sat32 (length A.begun)
    → odd ≡ A.malformed → Answered a A.says o p w → call (record { answer = w; checked = n; applied = m; malformed = odd }) p ≡ settled n a A o
unfolding settled
settle A n a few o p m odd w hm hf h = let l : m ≡ length A.begun = omega arith in rw (l, hf, h.0, h.1)
