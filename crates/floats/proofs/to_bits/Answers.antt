-- `floats::to_bits` meets its contract. Assumes nothing.
use Rattle.std.proofs.Common.{sym, refl, ap, ◌∙◌}
use lib.Ieee.{binary64, to_bits, is_nan}
use Rattle.floats.proofs.Nan.{one_nan, not_true, bits_of_nan}
use Rattle.floats.proofs.to_bits.Goals as goal

pub float_to_bits-result : goal.float_to_bits-result
float_to_bits-result c =
    not_true (is_nan c.args.x) (sym c.is_nan.ensures.value ∙ c.if-is_nan.false)

pub returns-then-is_nan : goal.returns-then-is_nan
returns-then-is_nan c =
    sym (ap (to_bits binary64) (one_nan c.args.x (sym c.is_nan.ensures.value ∙ c.if-is_nan.true)) ∙ bits_of_nan)

pub returns-else-is_nan : goal.returns-else-is_nan
returns-else-is_nan c = refl
