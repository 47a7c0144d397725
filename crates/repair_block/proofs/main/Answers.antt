-- `repair_block::main` meets its contract. Assumes nothing.
use mathlib.Core.Path.{sym}
use native.Mathlib.Omega.{arith}
use Prim.Native.Nat.{◌≤◌}
use lib.ListN.{length}
use lib.Seq.{length-take-le}
use Rattle.common.proofs.Holding.{held}
use Rattle.repair_block.proofs.main.Goals as goal

pub slice_bounds-out-end : goal.slice_bounds-out-end
slice_bounds-out-end c =
    let h = held _ _ _ _ _ c.repair.ensures c.in-Ok.is in
    omega (arith, h.fits)

pub slice_bounds-write_all-end : goal.slice_bounds-write_all-end
slice_bounds-write_all-end c =
    let h = held _ _ _ _ _ c.repair.ensures c.in-Ok.is in
    let fits : c.in-Ok.length ≤ length c.repair.new.out = omega (arith, h.fits) in
    sym (length-take-le _ _ fits)
