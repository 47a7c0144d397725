-- The loops of `repeats::Chunk::search`: what stays true from turn to turn. Assumes nothing.
use Rattle.repeats.specs.Scan.{Behind}
use Rattle.repeats.proofs.Chunk.search.Given as goal

abbrev pub invariant-loop-i : goal.invariant-loop-i
invariant-loop-i l = Behind l.self.image.now l.self.b l.self.start l.stop l.i
