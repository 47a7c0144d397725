-- Demand 3 of an application after an accepted check, and that a refusal leaves the output as it was. Assumes nothing.
use Rattle.std.specs.Prelude.{Err, Ok, Result}
use mathlib.Core.Path.{◌≡◌, refl, sym, ap, subst, ◌∙◌}
use mathlib.Core.Bool.{Bool, true, false, cond}
use mathlib.Core.Logic.{◌⊎◌, inl, inr}
use mathlib.Core.List.{List, ◌++◌}
use Prim.Native.Nat.{ℕ, ◌≤◌}
use native.Mathlib.Omega.{arith}
use lib.Dec.{leb}
use lib.ListN.{length, drop}
use Rattle.words.proofs.Clash.{clash}
use Rattle.common.specs.Refusal.{number_of}
use Rattle.common.specs.declared.refusal.Refusal.{Refusal}
use Rattle.common.specs.declared.refusal.Refusal.TheVariants.{Room, Formula}
use Rattle.rules.specs.declared.number.Value.{Value}
use Rattle.steps.specs.declared.mode.Mode.{Mode}
use Rattle.steps.specs.declared.mode.Edition.{Edition}
use Rattle.steps.specs.declared.mode.Edition.TheVariants.{Mdf410}
use Rattle.tree.specs.Walk.{checked}
use Rattle.tree.proofs.Acceptance.{acceptance, raised}
use Rattle.pieces.specs.Answer as says
use Rattle.engine.specs.Apply.{applied}
use Rattle.conversion.specs.Entry.{Call, answer_in, output_after, settled, by_check, applying}
use Rattle.conversion.specs.Reach.{NoGroups}
use Rattle.conversion.specs.declared.logic.Answer.TheVariants.{Text, Refused}
use Rattle.conversion.proofs.Reach.{Groupless, groupless, reach, shallow}

-- ---- the blocks that applying reaches
-- after an accepted check applying meets no block that cannot be opened: none is short, and the 21 levels suffice
pub no_broken : (mode : Mode) (img t : List ℕ) (a l n : ℕ) (v : Value) → checked img a l ≡ Ok n → (applied 21 mode img t a v).says ≡ says.broken → ⊥
no_broken mode img t a l n v e = (reach 21 mode img t a v (acceptance img a l n e).sound).2

-- 1 <= M <= N: applying begins some block, and no more blocks than the check
pub visits : (mode : Mode) (img t : List ℕ) (a l n : ℕ) (v : Value) → checked img a l ≡ Ok n
    → (1 ≤ length (applied 21 mode img t a v).begun) × (length (applied 21 mode img t a v).begun ≤ n)
visits mode img t a l n v e =
    let k = acceptance img a l n e in
    let r = reach 21 mode img t a v k.sound in
    (r.0, omega (arith, r.1, k.count))

-- M <= 21 where no block of type 11 is reached
pub few_visits : (mode : Mode) (img t : List ℕ) (a l n : ℕ) (v : Value) → checked img a l ≡ Ok n
    → NoGroups img (applied 21 mode img t a v).begun → length (applied 21 mode img t a v).begun ≤ 21
few_visits mode img t a l n v e none =
    shallow 21 mode img t a v (acceptance img a l n e).sound (groupless mode.edition img (applied 21 mode img t a v).begun none)

-- ---- what a call answers
-- a call whose check accepts answers what applying says
pub after_check : (mode : Mode) (img : List ℕ) (a l n : ℕ) (v : Value) (t out : List ℕ) → checked img a l ≡ Ok n
    → applying mode img a l v t out ≡ settled n a (applied 21 mode img t a v) out
unfolding applying
after_check mode img a l n v t out e = ap (λ (c : Result ℕ Refusal). by_check c (λ m. settled m a (applied 21 mode img t a v) out) out) e

seven_eight : (room a : ℕ) (x : says.Answer) (r : Refusal) → (x ≡ says.broken → ⊥) → answer_in room a x ≡ Refused r
    → (number_of r ≡ 7) ⊎ (number_of r ≡ 8)
unfolding answer_in
seven_eight room a (says.number x) r h p = clash cc
seven_eight room a (says.text t) r h p = go (leb (length t) room) p
  where
    go : (b : Bool) → cond b (Text (length t)) (Refused Room) ≡ Refused r → (number_of r ≡ 7) ⊎ (number_of r ≡ 8)
    go true q = clash cc
    go false q = let same : r ≡ Room = cc in inr (ap number_of same)
seven_eight room a says.unchanged r h p = clash cc
seven_eight room a says.unknown r h p = clash cc
seven_eight room a says.formula r h p = let same : r ≡ Formula = cc in inl (ap number_of same)
seven_eight room a says.broken r h p = absurd (h refl)

-- after an accepted check the only refusals are 7, a formula, and 8, the output is too small: none for depth, a loop, few links, a short block or the limit
pub refused_only : (mode : Mode) (img : List ℕ) (a l n : ℕ) (v : Value) (t out : List ℕ) (r : Refusal) → checked img a l ≡ Ok n
    → (applying mode img a l v t out).result.answer ≡ Refused r → (number_of r ≡ 7) ⊎ (number_of r ≡ 8)
unfolding settled
refused_only mode img a l n v t out r e p =
    seven_eight (length out) a (applied 21 mode img t a v).says r (no_broken mode img t a l n v e)
    (ap (λ (c : Call). c.result.answer) (sym (after_check mode img a l n v t out e)) ∙ p)

-- raising the limit changes neither the answer, N, M, the flag of a malformed table nor the output
pub same_when_raised : (mode : Mode) (img : List ℕ) (a l m n : ℕ) (v : Value) (t out : List ℕ) → checked img a l ≡ Ok n → l ≤ m
    → applying mode img a m v t out ≡ applying mode img a l v t out
same_when_raised mode img a l m n v t out e h =
    after_check mode img a m n v t out (raised img a l n e m h) ∙ sym (after_check mode img a l n v t out e)

kept : (room a : ℕ) (out : List ℕ) (x : says.Answer) (r : Refusal) → room ≡ length out → answer_in room a x ≡ Refused r → output_after out x ≡ out
unfolding answer_in output_after
kept room a out (says.number x) r same p = refl
kept room a out (says.text t) r same p = rw (← same) (go (leb (length t) room) p)
  where
    go : (b : Bool) → cond b (Text (length t)) (Refused Room) ≡ Refused r → cond b (t ++ drop (length t) out) out ≡ out
    go true q = clash cc
    go false q = refl
kept room a out says.unchanged r same p = refl
kept room a out says.unknown r same p = refl
kept room a out says.formula r same p = refl
kept room a out says.broken r same p = refl

-- a refusal leaves the output as it was
pub untouched : (mode : Mode) (img : List ℕ) (a l : ℕ) (v : Value) (t out : List ℕ) (r : Refusal)
    → (applying mode img a l v t out).result.answer ≡ Refused r → (applying mode img a l v t out).output ≡ out
unfolding applying settled
untouched mode img a l v t out r = go (checked img a l)
  where
    go : (c : Result ℕ Refusal) → (by_check c (λ m. settled m a (applied 21 mode img t a v) out) out).result.answer ≡ Refused r
        → (by_check c (λ m. settled m a (applied 21 mode img t a v) out) out).output ≡ out
    go (Ok n) p = kept (length out) a out (applied 21 mode img t a v).says r refl p
    go (Err s) p = refl

-- in edition 4.10, which does not know bit groups, M <= 21 for every image, with no condition: where the check refuses, M is 0
pub few_visits_410 : (mode : Mode) (img : List ℕ) (a l : ℕ) (v : Value) (t out : List ℕ) → mode.edition ≡ Mdf410
    → (applying mode img a l v t out).result.applied ≤ 21
unfolding applying settled
few_visits_410 mode img a l v t out older = go (checked img a l) refl
  where
    go : (c : Result ℕ Refusal) → checked img a l ≡ c → (by_check c (λ m. settled m a (applied 21 mode img t a v) out) out).result.applied ≤ 21
    go (Ok n) e =
        shallow 21 mode img t a v (acceptance img a l n e).sound
        (subst (λ (x : Edition). Groupless x img (applied 21 mode img t a v).begun) (sym older) tt)
    go (Err r) e = omega arith

-- M fits its number
pub visits_fit : (mode : Mode) (img t : List ℕ) (a l n : ℕ) (v : Value) → checked img a l ≡ Ok n → l ≤ 4294967295
    → length (applied 21 mode img t a v).begun ≤ 4294967295
visits_fit mode img t a l n v e h = omega (arith, (visits mode img t a l n v e).1, (acceptance img a l n e).few)
