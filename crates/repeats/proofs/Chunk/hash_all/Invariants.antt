-- The loops of `repeats::Chunk::hash_all`: what stays true from turn to turn. Assumes nothing.
use Rattle.repeats.specs.Scan.{Hashed}
use Rattle.repeats.proofs.Chunk.hash_all.Given as goal

abbrev pub invariant-loop-k : goal.invariant-loop-k
invariant-loop-k l = Hashed l.self.image.now l.self.b l.self.start l.k l.hashes
