-- `repair::say` meets its contract. Assumes nothing.
use mathlib.Core.Path.{refl, sym, ◌∙◌}
use Rattle.common.proofs.Holding.{none_held, all_held}
use Rattle.repair.proofs.say.Goals as goal

pub returns-then-out-line : goal.returns-then-out-line
returns-then-out-line c =
    let a = c.args in
    sym (none_held a.line.now a.out.now c.if-out-line.true)

pub returns : goal.returns
returns c =
    let a = c.args in
    rw c.copy_from_slice.ensures.after refl ∙ sym (all_held a.line.now a.out.now c.if-out-line.false)
