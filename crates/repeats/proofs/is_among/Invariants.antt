-- The loops of `repeats::is_among`: what stays true from turn to turn. Assumes nothing.
use Rattle.repeats.specs.Scan.{NoneIs}
use Rattle.repeats.proofs.is_among.Given as goal

abbrev pub invariant-loop-hash : goal.invariant-loop-hash
invariant-loop-hash l = NoneIs l.hashes l.hash-index l.h l.found
