-- The loops of `repeats::largest`: what stays true from turn to turn. Assumes nothing.
use Prim.Native.Nat.{◌<◌}
use Rattle.repeats.proofs.largest.Given as goal

abbrev pub invariant-loop-k : goal.invariant-loop-k
invariant-loop-k l = l.best < l.k
