-- The loops of `repeats::first_repeat`: what stays true from turn to turn, and the measure. Assumes nothing.
use Prim.Native.Nat.{◌-◌}
use Rattle.repeats.specs.Scan.{FirstRepeat}
use Rattle.repeats.proofs.first_repeat.Given as goal

abbrev pub invariant-loop-start : goal.invariant-loop-start
invariant-loop-start l = FirstRepeat l.image l.b 0 l.start l.n l.bound

abbrev pub decreases-loop-start : goal.decreases-loop-start
decreases-loop-start l = l.bound - l.start
