-- The loop of `lines::read::Operands::numbers`: what stays true from turn to turn. Assumes nothing.
use Rattle.std.proofs.Common.{◌≤◌, length}
use Rattle.lines.proofs.read.Operands.numbers.Given as goal

abbrev pub invariant-loop-number : goal.invariant-loop-number
invariant-loop-number g l = length l.self.rest.now ≤ length l.fn.self.rest.now
