-- `floats::rounded` meets its contract. Assumes nothing.
use Rattle.std.proofs.Common.{sym, ◌∙◌, add-one, arith}
use Rattle.floats.proofs.Whole.{rounded_down, rounded_up, tie_to_even}
use Rattle.floats.proofs.rounded.Goals as goal

pub returns-then-dropped-lt1024 : goal.returns-then-dropped-lt1024
returns-then-dropped-lt1024 c = sym (rounded_down c.args.m c.if-dropped-lt1024.true)

pub returns-then-dropped-gt1024 : goal.returns-then-dropped-gt1024
returns-then-dropped-gt1024 c = add-one _ ∙ sym (rounded_up c.args.m c.if-dropped-gt1024.true)

pub returns-else-dropped-gt1024 : goal.returns-else-dropped-gt1024
returns-else-dropped-gt1024 c = sym (tie_to_even c.args.m (omega arith))
