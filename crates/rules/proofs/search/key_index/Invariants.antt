-- The loop of `rules::search::key_index`: what stays true from turn to turn. Assumes nothing.
use mathlib.Core.Path.{◌≡◌}
use Prim.Native.Nat.{◌+◌}
use lib.ListN.{drop}
use Rattle.rules.specs.Stored.{listed}
use Rattle.rules.specs.Search.{first_key}
use Rattle.rules.proofs.search.key_index.Given as goal

abbrev pub invariant-loop-i : goal.invariant-loop-i
invariant-loop-i l = first_key (listed l.values) l.x ≡ l.i + first_key (drop l.i (listed l.values)) l.x
