-- The loops of `repeats::compare`: what stays true from turn to turn, and the measure. Assumes nothing.
use Prim.Native.Nat.{◌-◌, ◌≤◌}
use lib.ListN.{length}
use Rattle.repeats.specs.Scan.{in_common, run_text}
use Rattle.repeats.proofs.compare.Given as goal

abbrev pub invariant-loop-x : goal.invariant-loop-x
invariant-loop-x l = l.i ≤ in_common (run_text l.image l.x) (run_text l.image l.y)

abbrev pub decreases-loop-x : goal.decreases-loop-x
decreases-loop-x l = length (run_text l.image l.x) - l.i
