-- Laws of what is said: a plain answer, a text that was put, a part of the image that is put where it is needed, and an answer behind other bytes.
-- Assumes nothing.
use mathlib.Core.Path.{◌≡◌, refl, sym, subst, ◌∙◌}
use mathlib.Core.Bool.{Bool, false}
use mathlib.Core.List.{List, [], ◌∷◌, ◌++◌}
use Prim.Native.Nat.{ℕ, suc, ◌+◌, ◌≤◌}
use native.Mathlib.Omega.{arith}
use denote.Enum.Declared.{tag_of}
use types.Run.{OneOf, miss}
use lib.ListN.{length, length-append}
use Rattle.words.proofs.Clash.{clash}
use Rattle.common.specs.Text.{text_bytes}
use Rattle.steps.specs.Plain.{PlainIn}
use Rattle.steps.specs.declared.plain.Plain.{Plain}
use Rattle.steps.specs.declared.plain.Plain.TheVariants as plain
use Rattle.pieces.specs.Write.{sat, sat32, Wrote, PlaceIn, Put}
use Rattle.pieces.specs.declared.paste.Place.{Place}
use Rattle.common.specs.declared.text.Span.{Span}
use Rattle.pieces.specs.Answer.{Answer, number, text, unchanged, unknown, formula, broken, spelled, prefixed}
use Rattle.pieces.specs.Did.{Says, SaysText, SaidIn, laid, laid_text, Did, NoWords, quiet_of, counted_of, told_of}
use Rattle.pieces.specs.declared.said.Said.{Said}
use Rattle.pieces.specs.declared.said.Said.TheVariants as said
use Rattle.pieces.specs.declared.said.Outcome.{Outcome}
use Rattle.pieces.specs.contracts.said.Said as saids
use Rattle.pieces.proofs.Laws.{none, forget, next, then}

-- a plain answer writes nothing
told_did : (img o : List ℕ) (pos lim : ℕ) (p : Plain) → PlainIn img p → Did img o o pos lim (spelled img p) 0 false (told_of p)
told_did img o pos lim (plain.Number x) h = record { says = refl; count = refl; flag = refl; wrote = none o pos lim }
told_did img o pos lim (plain.Words run) h = record { says = (refl, h); count = refl; flag = refl; wrote = none o pos lim }
told_did img o pos lim plain.Unchanged h = record { says = refl; count = refl; flag = refl; wrote = none o pos lim }
told_did img o pos lim plain.Unknown h = record { says = refl; count = refl; flag = refl; wrote = none o pos lim }
told_did img o pos lim plain.Formula h = record { says = refl; count = refl; flag = refl; wrote = none o pos lim }
told_did img o pos lim plain.Broken h = record { says = refl; count = refl; flag = refl; wrote = none o pos lim }

pub told_as : (img o : List ℕ) (pos lim : ℕ) (p : Plain) {r : Outcome} → PlainIn img p → r ≡ told_of p → Did img o o pos lim (spelled img p) 0 false r
told_as img o pos lim p h e = subst (λ (r : Outcome). Did img o o pos lim (spelled img p) 0 false r) (sym e) (told_did img o pos lim p h)

-- nothing is said but a word
pub quiet_did : {img : List ℕ} (x : Answer) (o : List ℕ) (pos lim : ℕ) {s : Said} {r : Outcome} → r ≡ quiet_of s → Says img (length o) pos x s → laid x s ≡ []
    → Did img o o pos lim x 0 false r
quiet_did {img} x o pos lim e says nothing =
    subst (λ (r : Outcome). Did img o o pos lim x 0 false r) (sym e) (record { says = says; count = refl; flag = refl; wrote = rw nothing (none o pos lim) })

-- the same with one block more
pub counted_did : {img o p : List ℕ} {pos lim n : ℕ} {odd : Bool} {x : Answer} {r s : Outcome} → Did img o p pos lim x n odd r → s ≡ counted_of r
    → Did img o p pos lim x (suc n) odd s
counted_did {img} {o} {p} {pos} {lim} {n} {odd} {x} {r} did e =
    let count : sat32 (1 + r.visits) ≡ sat32 (suc n) = omega (arith, did.count) in
    subst (λ (s : Outcome). Did img o p pos lim x (suc n) odd s) (sym e) (record { says = did.says; count = count; flag = did.flag; wrote = did.wrote })

text_in : (img : List ℕ) (room pos : ℕ) (t : List ℕ) (s : Said) → SaysText img room pos t s → SaidIn img s
text_in img room pos t (said.Number x) k = tt
text_in img room pos t (said.Words run) k = k.1
text_in img room pos t (said.Text e) k = tt
text_in img room pos t said.Unchanged k = tt
text_in img room pos t said.Unknown k = tt
text_in img room pos t said.Formula k = tt
text_in img room pos t said.Broken k = tt

pub said_in : (img : List ℕ) (room pos : ℕ) (x : Answer) (s : Said) → Says img room pos x s → SaidIn img s
said_in img room pos (number y) s k = subst (SaidIn img) (sym k) tt
said_in img room pos (text t) s k = text_in img room pos t s k
said_in img room pos unchanged s k = subst (SaidIn img) (sym k) tt
said_in img room pos unknown s k = subst (SaidIn img) (sym k) tt
said_in img room pos formula s k = subst (SaidIn img) (sym k) tt
said_in img room pos broken s k = subst (SaidIn img) (sym k) tt

pub did_in : {img o p : List ℕ} {pos lim n : ℕ} {odd : Bool} {x : Answer} {r : Outcome} → Did img o p pos lim x n odd r → SaidIn img r.said
did_in {img} {o} {pos = pos} {x = x} {r = r} did = said_in img (length o) pos x r.said did.says

-- a text that was put is told by its end
pub put_did : {img o p t : List ℕ} {at e : Place} {n : ℕ} {odd : Bool} {r : Outcome} → r.said ≡ said.Text e.pos → r.visits ≡ sat32 n → r.malformed ≡ odd → Put o p at t e
    → Did img o p at.pos at.lim (text t) n odd r
put_did told count flag put = record { says = rw told put.end; count = count; flag = flag; wrote = rw told put.wrote }

-- a part of the image, once it is put
pub pasted_did : {img o p q : List ℕ} {at e : Place} (run : Span) {n : ℕ} {odd : Bool} (x : Answer) {r s : Outcome} → PlaceIn o at
    → Did img o p at.pos at.lim x n odd r → r.said ≡ said.Words run → Put p q at (text_bytes img run.from run.to) e → s.said ≡ said.Text e.pos
    → s.visits ≡ r.visits → s.malformed ≡ r.malformed → Did img o q at.pos at.lim x n odd s
pasted_did run (number y) fits did told put end count flag = let z : said.Words run ≡ said.Number y = sym told ∙ did.says in clash cc
pasted_did {img} {o} {p} {q} {at} {e} run (text t) fits did told put end count flag =
    let part : SaysText img (length o) at.pos t (said.Words run) = subst (SaysText img (length o) at.pos t) told did.says in
    let before : Wrote o p at.pos at.lim [] = subst (λ (s : Said). Wrote o p at.pos at.lim (laid_text t s)) told did.wrote in
    let both = then {s = []} fits.0 (record { end = omega arith; limit = refl; wrote = before }) put in
    put_did end (count ∙ did.count) (flag ∙ did.flag) (subst (λ (u : List ℕ). Put o q at u e) (sym part.0) both)
pasted_did run unchanged fits did told put end count flag = let z : said.Words run ≡ said.Unchanged = sym told ∙ did.says in clash cc
pasted_did run unknown fits did told put end count flag = let z : said.Words run ≡ said.Unknown = sym told ∙ did.says in clash cc
pasted_did run formula fits did told put end count flag = let z : said.Words run ≡ said.Formula = sym told ∙ did.says in clash cc
pasted_did run broken fits did told put end count flag = let z : said.Words run ≡ said.Broken = sym told ∙ did.says in clash cc

-- ---- behind other bytes
says_behind : (img pre t : List ℕ) (room pos e : ℕ) (s : Said) → NoWords s → e ≡ sat room (pos + length pre) → SaysText img room e t s → SaysText img room pos (pre ++ t) s
says_behind img pre t room pos e (said.Number x) n h k = k
says_behind img pre t room pos e (said.Words run) n h k = absurd n
says_behind img pre t room pos e (said.Text f) n h k = simp length-append (omega (arith, h, k))
says_behind img pre t room pos e said.Unchanged n h k = k
says_behind img pre t room pos e said.Unknown n h k = k
says_behind img pre t room pos e said.Formula n h k = k
says_behind img pre t room pos e said.Broken n h k = k

prefixed_says : (img pre : List ℕ) (room pos e : ℕ) (x : Answer) (s : Said) → NoWords s → e ≡ sat room (pos + length pre) → Says img room e x s → Says img room pos (prefixed pre x) s
prefixed_says img pre room pos e (number y) s n h k = k
prefixed_says img pre room pos e (text t) s n h k = says_behind img pre t room pos e s n h k
prefixed_says img pre room pos e unchanged s n h k = k
prefixed_says img pre room pos e unknown s n h k = k
prefixed_says img pre room pos e formula s n h k = k
prefixed_says img pre room pos e broken s n h k = k

-- what is put behind other bytes; only a text keeps them
module _ (img : List ℕ) {o p q pre : List ℕ} {at e : Place} (fits : at.lim ≤ length o) (put : Put o p at pre e) where
  behind : (t : List ℕ) → Wrote p q e.pos e.lim t → Wrote o q at.pos at.lim (pre ++ t)
  behind t w = next _ _ _ _ _ _ _ _ fits put.end put.wrote (subst (λ (l : ℕ). Wrote p q e.pos l t) put.limit w)

  laid_behind : (t : List ℕ) (s : Said) → SaysText img (length p) e.pos t s → Wrote p q e.pos e.lim (laid_text t s) → Wrote o q at.pos at.lim (laid_text (pre ++ t) s)
  laid_behind t (said.Number x) k w = absurd k
  laid_behind t (said.Words run) k w = forget (behind [] w)
  laid_behind t (said.Text f) k w = behind t w
  laid_behind t said.Unchanged k w = absurd k
  laid_behind t said.Unknown k w = absurd k
  laid_behind t said.Formula k w = absurd k
  laid_behind t said.Broken k w = absurd k

  prefixed_laid : (x : Answer) (s : Said) → Says img (length p) e.pos x s → Wrote p q e.pos e.lim (laid x s) → Wrote o q at.pos at.lim (laid (prefixed pre x) s)
  prefixed_laid (number y) s k w = forget (behind [] w)
  prefixed_laid (text t) s k w = laid_behind t s k w
  prefixed_laid unchanged s k w = forget (behind [] w)
  prefixed_laid unknown s k w = forget (behind [] w)
  prefixed_laid formula s k w = forget (behind [] w)
  prefixed_laid broken s k w = forget (behind [] w)

  pub prefixed_did : {x : Answer} {n : ℕ} {odd : Bool} {r : Outcome} → NoWords r.said → Did img p q e.pos e.lim x n odd r
      → Did img o q at.pos at.lim (prefixed pre x) n odd r
  prefixed_did {x = x} {r = r} plain did = record {
    says = prefixed_says img pre (length o) at.pos e.pos x r.said plain put.end (subst (λ (m : ℕ). Says img m e.pos x r.said) put.wrote.same did.says);
    count = did.count;
    flag = did.flag;
    wrote = prefixed_laid x r.said did.says did.wrote;
  }

-- any word but a part of the image
pub no_words : (s : Said) → OneOf (0 ∷ 2 ∷ 3 ∷ 4 ∷ 5 ∷ 6 ∷ []) (tag_of saids.the_type s) → NoWords s
no_words (said.Number x) h = tt
no_words (said.Words run) h = absurd (miss (0 ∷ 2 ∷ 3 ∷ 4 ∷ 5 ∷ 6 ∷ []) 1 tt h)
no_words (said.Text e) h = tt
no_words said.Unchanged h = tt
no_words said.Unknown h = tt
no_words said.Formula h = tt
no_words said.Broken h = tt
