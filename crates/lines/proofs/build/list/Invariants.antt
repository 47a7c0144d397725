-- The loop of `lines::build::list`: what stays true from turn to turn, and the measure. Assumes nothing.
use Rattle.std.proofs.Common.{◌≡◌, ◌≤◌, length}
use Rattle.lines.proofs.build.list.Given as goal

abbrev pub invariant-loop-number : goal.invariant-loop-number
invariant-loop-number l = (l.fn.start ≤ l.at) × (length l.mem ≡ length l.fn.mem)

abbrev pub decreases-loop-number : goal.decreases-loop-number
decreases-loop-number l = length l.operands.rest.now
