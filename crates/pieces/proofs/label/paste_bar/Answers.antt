-- `pieces::label::paste_bar` meets its contract. Assumes nothing.
use native.Mathlib.Omega.{arith}
use Rattle.pieces.specs.Label.{bar}
use Rattle.pieces.proofs.Laws.{empty}
use Rattle.pieces.proofs.label.paste_bar.Goals as goal

pub returns-then-started : goal.returns-then-started
unfolding bar
returns-then-started c = rw c.if-started.true c.paste_byte.ensures

pub returns-else-started : goal.returns-else-started
unfolding bar
returns-else-started c = rw c.if-started.false (empty _ _ (omega arith))
