-- The loops of `repeats::Chunk::hold`: what stays true from turn to turn. Assumes nothing.
use Rattle.repeats.specs.Scan.{run_text, Agreed}
use Rattle.repeats.proofs.Chunk.hold.Given as goal

abbrev pub invariant-loop-k : goal.invariant-loop-k
invariant-loop-k l = Agreed l.self.image.now l.self.b l.self.start (run_text l.self.image.now l.q) l.agree l.k
