-- `writer::is_read_as_range` meets its contract. Assumes nothing.
use mathlib.Core.Path.{refl, sym, ap}
use mathlib.Core.Bool.{Bool}
use Rattle.writer.specs.Write.{read_as_range}
use Rattle.writer.proofs.is_read_as_range.Goals as goal

pub returns-then-not-ranged : goal.returns-then-not-ranged
returns-then-not-ranged c = ap (λ (r : Bool). read_as_range r c.args.excess) (sym c.if-not-ranged.true)

pub returns-else-not-ranged : goal.returns-else-not-ranged
returns-else-not-ranged c = rw c.if-not-ranged.false refl
