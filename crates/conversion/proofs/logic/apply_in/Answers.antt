-- `conversion::logic::apply_in` meets its contract. Assumes nothing.
use Rattle.std.specs.Prelude.{ℕ, Result}
use mathlib.Core.Path.{sym, ap, ◌∙◌}
use Rattle.common.specs.declared.refusal.Refusal.{Refusal}
use Rattle.engine.specs.Apply.{applied}
use Rattle.conversion.specs.Entry.{call, by_check, settled, applying}
use Rattle.conversion.specs.declared.logic.Applied.{Applied}
use Rattle.conversion.proofs.logic.apply_in.Goals as goal

pub returns-in-Ok : goal.returns-in-Ok
unfolding applying
returns-in-Ok c =
    let s = c.args in
    let x = applied 21 s.mode s.image.now s.text.now s.address s.value in
    c.apply_checked.ensures
    ∙ ap (λ (k : Result ℕ Refusal). by_check k (λ n. settled n s.address x s.out.now) s.out.now) (sym c.in-Ok.is ∙ c.check.ensures)

pub returns-in-Err : goal.returns-in-Err
unfolding applying
returns-in-Err c =
    let s = c.args in
    let x = applied 21 s.mode s.image.now s.text.now s.address s.value in
    ap (λ (r : Applied). call r s.out.now) c.refused.ensures
    ∙ ap (λ (k : Result ℕ Refusal). by_check k (λ n. settled n s.address x s.out.now) s.out.now) (sym c.in-Err.is ∙ c.check.ensures)
