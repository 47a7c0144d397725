-- The loop of `cases::all`: its measure. Assumes nothing.
use Rattle.std.proofs.Common.{length}
use Rattle.cases.proofs.all.Given as goal

abbrev pub decreases-loop-marked : goal.decreases-loop-marked
decreases-loop-marked g l = length l.rest
