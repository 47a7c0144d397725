-- `keys::is_empty_run` meets its contract. Assumes nothing.
use mathlib.Core.Path.{sym, ◌∙◌}
use Prim.Native.Nat.{◌≤◌}
use borrow.Author.Tests.{le-leb}
use native.Mathlib.Omega.{arith}
use Rattle.keys.proofs.Faults.{empty_run, first_byte_tells}
use Rattle.keys.proofs.is_empty_run.Goals as goal

pub returns-then-run : goal.returns-then-run
returns-then-run c =
    let a = c.args in
    let none : a.run.to ≤ a.run.from = omega arith in
    le-leb _ _ none ∙ sym (empty_run a.image.now a.run.from a.run.to (omega arith) none)

pub returns-else-run : goal.returns-else-run
returns-else-run c =
    let a = c.args in
    first_byte_tells a.image.now a.run.from a.run.to (omega arith) (omega arith)
