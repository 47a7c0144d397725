-- The loops of `keys::is_repeated_key`: what stays true from turn to turn. Assumes nothing.
use mathlib.Core.Path.{◌≡◌}
use Rattle.keys.specs.Keys.{key_among}
use Rattle.keys.proofs.is_repeated_key.Given as goal

abbrev pub invariant-loop-j : goal.invariant-loop-j
invariant-loop-j l = l.found ≡ key_among l.image l.b l.i l.j
