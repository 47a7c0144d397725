-- `repeats::Chunk::search` meets its contract. The texts before the i-th are none of the chunk's. Assumes nothing.
use native.Mathlib.Omega.{arith}
use Rattle.repeats.proofs.Chunks.{comes_again, is_new, behind_more}
use Rattle.repeats.proofs.Chunk.search.Goals as goal

pub returns-then-is_one_of : goal.returns-then-is_one_of
returns-then-is_one_of c =
    let s = c.args.self.now in
    let l = c.loop-i in
    record {
      least = omega arith;
      most = omega arith;
      apart = l.invariant;
      again = λ less. comes_again s.image.now s.b s.start c.run_at.result s.count l.i c.run_at.ensures (omega arith) c.if-is_one_of.ensures;
    }

pub loop-i-preserved : goal.loop-i-preserved
loop-i-preserved c =
    let s = c.args.self.now in
    let l = c.loop-i in
    behind_more s.image.now s.b s.start c.args.stop l.i l.invariant
    (λ j low high. is_new s.image.now s.b s.start c.run_at.result s.count l.i c.run_at.ensures (omega arith) c.if-is_one_of.ensures j low (omega arith))
