-- What stays true from turn to turn of the loop of `common::text::text_end`. Assumes nothing.
use mathlib.Core.Path.{◌≡◌}
use mathlib.Core.List.{List}
use Prim.Native.Nat.{ℕ, ◌+◌}
use lib.ListN.{length}
use Rattle.common.specs.Text.{text_bytes}
use Rattle.common.proofs.text.text_end.Given as goal

-- how many bytes of the text are left
abbrev pub left : List ℕ → ℕ → ℕ → ℕ
left img i to = length (text_bytes img i to)

abbrev pub invariant-loop-i : goal.invariant-loop-i
invariant-loop-i l = l.run.from + left l.image l.run.from l.run.to ≡ l.i + left l.image l.i l.run.to
