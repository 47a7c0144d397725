-- The loops of `repeats::hash_of`: what stays true from turn to turn. Assumes nothing.
use mathlib.Core.Path.{◌≡◌}
use lib.ListN.{drop}
use Rattle.common.specs.Text.{until_zero}
use Rattle.repeats.specs.Scan.{hash_from, hash_of, run_text}
use Rattle.repeats.proofs.hash_of.Given as goal

abbrev pub invariant-loop-byte : goal.invariant-loop-byte
invariant-loop-byte l = hash_from l.h (until_zero (drop l.byte-index l.byte-items)) ≡ hash_of (run_text l.fn.image l.fn.q)
