-- One level of an application, and an answer behind other bytes. Assumes nothing.
use mathlib.Core.Path.{◌≡◌, refl, sym, ap}
use mathlib.Core.Bool.{Bool}
use mathlib.Core.List.{List, ◌++◌, append_assoc}
use Prim.Native.Nat.{ℕ, zero, suc, ◌-◌, ◌≤◌}
use native.Mathlib.Omega.{arith}
use lib.ListN.{length}
use Rattle.rules.specs.declared.number.Value.{Value}
use Rattle.steps.specs.Step.{step_of}
use Rattle.steps.specs.declared.mode.Mode.{Mode}
use Rattle.pieces.specs.Write.{Put}
use Rattle.pieces.specs.declared.paste.Place.{Place}
use Rattle.pieces.specs.Answer.{Answer, number, text, unchanged, unknown, formula, broken, prefixed}
use Rattle.pieces.specs.Did.{Did, NoWords}
use Rattle.pieces.specs.declared.said.Outcome.{Outcome}
use Rattle.pieces.proofs.Answers.{prefixed_did}
use Rattle.engine.specs.Apply.{begin, ruled, applied}

-- where a level is left, the block's step says what is done, with one level less
pub level : (d : ℕ) (mode : Mode) (img t : List ℕ) (a : ℕ) (v : Value) → (d ≡ 0 → ⊥)
    → applied d mode img t a v ≡ begin a (ruled (applied (d - 1) mode img t) img v (step_of mode img t a v))
unfolding applied
level zero mode img t a v h = absurd (h refl)
level (suc d) mode img t a v h =
    ap (λ (k : ℕ). begin a (ruled (applied k mode img t) img v (step_of mode img t a v))) (let e : d ≡ suc d - 1 = omega arith in e)

-- the parts of what stands before a part's text
two_prefixes : (p q : List ℕ) (x : Answer) → prefixed p (prefixed q x) ≡ prefixed (p ++ q) x
two_prefixes p q (number x) = refl
two_prefixes p q (text t) = ap text (sym (append_assoc p q t))
two_prefixes p q unchanged = refl
two_prefixes p q unknown = refl
two_prefixes p q formula = refl
two_prefixes p q broken = refl

-- an answer behind "|" and a name
pub labelled_did : {img o p q : List ℕ} (pre name : List ℕ) {at e : Place} {n : ℕ} {odd : Bool} (x : Answer) {r : Outcome} → at.lim ≤ length o → NoWords r.said
    → Put o p at (pre ++ name) e → Did img p q e.pos e.lim x n odd r → Did img o q at.pos at.lim (prefixed pre (prefixed name x)) n odd r
labelled_did pre name x fits plain put did = rw (two_prefixes pre name x) (prefixed_did _ fits put plain did)
