-- `floats::from_bits` meets its contract. Assumes nothing.
use Rattle.std.proofs.Common.{◌≡◌, true, false, sym, ◌∙◌}
use lib.Ieee.{binary64, nan_bits}
use Rattle.floats.proofs.Nan.{nan_of_pattern, not_true, zero_by_zero}
use Rattle.floats.proofs.from_bits.Goals as goal

pub float_from_bits-result : goal.float_from_bits-result
float_from_bits-result c =
    let plain : nan_bits binary64 c.args.bits ≡ false = cc in
    not_true _ plain

pub returns-then-is_nan_pattern : goal.returns-then-is_nan_pattern
returns-then-is_nan_pattern c =
    let n = c.args.bits in
    let spelled : nan_bits binary64 n ≡ true = cc in
    zero_by_zero ∙ sym (nan_of_pattern n spelled)
