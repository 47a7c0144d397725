-- The loop of `texts::write::holds_zero`: before each turn the bytes from this one on are still to be looked at. Assumes nothing.
use mathlib.Core.Path.{◌≡◌}
use mathlib.Core.Bool.{◌||◌}
use lib.ListN.{drop}
use Rattle.texts.specs.Write.{holds_zero}
use Rattle.texts.proofs.write.holds_zero.Given as goal

abbrev pub invariant-loop-byte : goal.invariant-loop-byte
invariant-loop-byte l = holds_zero l.text ≡ (l.found || holds_zero (drop l.byte-index l.text))
