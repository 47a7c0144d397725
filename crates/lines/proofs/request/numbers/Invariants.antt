-- The loop of `lines::request::numbers`: the numbers before the i-th are read. Assumes nothing.
use mathlib.Core.Path.{◌≡◌}
use lib.ListN.{length, take}
use Rattle.words.specs.Words.{words}
use Rattle.lines.proofs.request.numbers.Given as goal

abbrev pub invariant-loop-i : goal.invariant-loop-i
invariant-loop-i g l = (take l.i l.number-items ≡ words l.bytes 0 l.i) × (l.i-end ≡ g.row.N) × (length l.number-items ≡ g.row.N)
