-- The loops of `words::put_zeros`: what stays true from turn to turn, and the measure. Assumes nothing.
use mathlib.Core.Path.{◌≡◌}
use Prim.Native.Nat.{◌-◌, ◌≤◌}
use lib.ListN.{length}
use Rattle.words.specs.Words.{put, zeros}
use Rattle.words.proofs.put_zeros.Given as goal

abbrev pub invariant-loop-i : goal.invariant-loop-i
invariant-loop-i l = (l.i ≤ l.count) × (length l.out ≡ length l.initial.out) × (l.out ≡ put l.initial.out l.at (zeros l.i))

abbrev pub decreases-loop-i : goal.decreases-loop-i
decreases-loop-i l = l.count - l.i
