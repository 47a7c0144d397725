-- `steps::mode::low_bits` meets its contract. Assumes nothing.
use Rattle.steps.proofs.Low.{low_of}
use Rattle.steps.proofs.mode.low_bits.Goals as goal

pub returns : goal.returns
returns c = low_of c.args.bits c.args.width c.unbounded_shl.result c.ranges.bits.fits c.unbounded_shl.ensures
