-- `repeats::Chunk::fill` meets its contract. The texts before the i-th have their numbers. Assumes nothing.
use mathlib.Core.Bool.{false}
use Prim.Native.Nat.{◌+◌}
use native.Mathlib.Omega.{arith}
use Rattle.repeats.specs.Scan.{run_text, Told, Apart}
use Rattle.repeats.proofs.Chunks.{after, both, comes_again, is_new, apart_more}
use Rattle.repeats.proofs.Chunk.fill.Goals as goal

pub returns-then-hold : goal.returns-then-hold
returns-then-hold c =
    let l = c.loop-i in
    let s = l.self in
    record {
      same = l.invariant.0;
      first =
          record {
            most = omega arith;
            apart = l.invariant.2;
            again = λ less. comes_again s.image.now s.b s.start c.run_at-q.result s.count l.i c.run_at-q.ensures (omega arith) c.if-hold.ensures;
          };
      numbers = l.invariant.1;
    }

pub loop-i-preserved : goal.loop-i-preserved
loop-i-preserved c =
    let l = c.loop-i in
    let s = l.self in
    let same = c.note.ensures.0 in
    let none : Told s.image.now s.b s.start (run_text s.image.now c.run_at-q.result) s.count false = λ k less. (c.if-hold.ensures k less).1 in (
      both c.args.self.now s c.note.new.self l.invariant.0 same,
      omega arith,
      after same (λ img b start. Apart img b start c.args.stop (l.i + 1)) (
          apart_more s.image.now s.b s.start c.args.stop l.i l.invariant.2
          (λ j low high. is_new s.image.now s.b s.start c.run_at-q.result s.count l.i c.run_at-q.ensures (omega arith) none j low (omega arith))
          ),
    )
