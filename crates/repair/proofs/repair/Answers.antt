-- `repair::repair` meets its contract. Assumes nothing.
use mathlib.Core.Path.{sym, ap, ◌∙◌}
use mathlib.Core.Logic.{⊎_elim}
use mathlib.Core.List.{List}
use Prim.Native.Nat.{ℕ}
use native.Mathlib.Omega.{arith}
use Rattle.common.specs.Written.{holding}
use Rattle.repair.specs.Repair.{refused_line}
use Rattle.repair.proofs.Reading.{refused_with, too_long, fitting}
use Rattle.repair.proofs.repair.Goals as goal

pub returns-then-input-gt-MOST : goal.returns-then-input-gt-MOST
returns-then-input-gt-MOST c =
    c.say.ensures ∙ ap (λ (p : List ℕ). holding p c.args.out.now) (sym (too_long c.args.input.now c.if-input-gt-MOST.true))

pub rewrite-requires : goal.rewrite-requires
rewrite-requires c = (c.if-input-gt-MOST.false, sym c.parse_for_repair.ensures ∙ c.in-Ok.is)

pub say_refused-requires : goal.say_refused-requires
say_refused-requires c =
    let number = c.number.ensures in
    ⊎_elim (λ one. omega (arith, one, number)) (λ more. ⊎_elim (λ two. omega (arith, two, number)) (λ four. omega (arith, four, number)) more)
    (refused_with _ 0 _ (sym c.parse_for_repair.ensures ∙ c.in-Err.is))

pub returns-in-Ok : goal.returns-in-Ok
returns-in-Ok c =
    c.rewrite.ensures
    ∙ ap (λ (p : List ℕ). holding p c.args.out.now) (sym (fitting c.args.input.now c.if-input-gt-MOST.false _ (sym c.parse_for_repair.ensures ∙ c.in-Ok.is)))

pub returns-in-Err : goal.returns-in-Err
returns-in-Err c =
    let out = c.args.out.now in
    c.say_refused.ensures
    ∙ ap (λ (n : ℕ). holding (refused_line n) out) c.number.ensures
    ∙ ap (λ (p : List ℕ). holding p out) (sym (fitting c.args.input.now c.if-input-gt-MOST.false _ (sym c.parse_for_repair.ensures ∙ c.in-Err.is)))
