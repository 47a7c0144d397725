-- `floats::from_u64` meets its contract. Assumes nothing.
use Rattle.std.proofs.Common.{pos}
use Rattle.floats.proofs.Whole.{read_as, no_nan_read}
use Rattle.floats.proofs.from_u64.Goals as goal

pub float_from_bits-result : goal.float_from_bits-result
float_from_bits-result c = no_nan_read c.nearest_bits.result (pos c.args.n) c.nearest_bits.ensures

pub returns : goal.returns
returns c = read_as c.nearest_bits.result (pos c.args.n) c.nearest_bits.ensures
