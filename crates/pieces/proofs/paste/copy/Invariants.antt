-- The loop of `pieces::paste::copy`: the bytes before i stand in the output. Assumes nothing.
use Prim.Native.Nat.{◌≤◌}
use lib.ListN.{take, drop}
use Rattle.pieces.specs.Write.{Wrote}
use Rattle.pieces.proofs.paste.copy.Given as goal

abbrev pub invariant-loop-i : goal.invariant-loop-i
invariant-loop-i l = (l.i ≤ l.n) × Wrote l.fn.out l.out l.place.pos l.place.lim (take l.i (drop l.span.from l.image))
