-- The loop of `rules::search::range_index`: what stays true from turn to turn. Assumes nothing.
use mathlib.Core.Path.{◌≡◌}
use Prim.Native.Nat.{◌+◌, ◌*◌}
use lib.ListN.{drop}
use Rattle.rules.specs.Stored.{listed}
use Rattle.rules.specs.Search.{first_range}
use Rattle.rules.proofs.search.range_index.Given as goal

abbrev pub invariant-loop-i : goal.invariant-loop-i
invariant-loop-i l = first_range l.whole (listed l.values) l.x ≡ l.i + first_range l.whole (drop (2 * l.i) (listed l.values)) l.x
