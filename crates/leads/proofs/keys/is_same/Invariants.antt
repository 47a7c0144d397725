-- The loops of `leads::keys::is_same`: what stays true from turn to turn. Assumes nothing.
use mathlib.Core.Path.{◌≡◌}
use Prim.Native.Nat.{◌+◌}
use lib.ListN.{drop}
use Rattle.common.specs.Text.{text_bytes}
use Rattle.leads.specs.Keys.{same_bytes}
use Rattle.leads.proofs.keys.is_same.Given as goal

abbrev pub invariant-loop-i : goal.invariant-loop-i
invariant-loop-i l = same_bytes (text_bytes l.image l.run.from l.run.to) l.text ≡ same_bytes (text_bytes l.image (l.run.from + l.i) l.run.to) (drop l.i l.text)
