-- The loops of `repeats::Chunk::fill`: what stays true from turn to turn. Assumes nothing.
use mathlib.Core.Path.{◌≡◌}
use Prim.Native.Nat.{◌+◌}
use Rattle.repeats.specs.Scan.{Apart}
use Rattle.repeats.specs.Chunk.{SameTexts}
use Rattle.repeats.proofs.Chunk.fill.Given as goal

abbrev pub invariant-loop-i : goal.invariant-loop-i
invariant-loop-i l = SameTexts l.fn.self l.self × (l.i + 1 ≡ l.self.start + l.self.count)
    × Apart l.self.image.now l.self.b l.self.start l.stop l.i
