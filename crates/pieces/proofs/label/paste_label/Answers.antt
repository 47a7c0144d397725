-- `pieces::label::paste_label` meets its contract. Assumes nothing.
use native.Mathlib.Omega.{arith}
use Rattle.pieces.specs.Label.{label}
use Rattle.pieces.proofs.Laws.{then}
use Rattle.pieces.proofs.label.paste_label.Goals as goal

pub returns : goal.returns
unfolding label
returns c = then (omega arith) c.paste_bar-behind.ensures c.paste_name.ensures
