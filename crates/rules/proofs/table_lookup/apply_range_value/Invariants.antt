-- The loop of `rules::table_lookup::apply_range_value`: what stays true from turn to turn. Assumes nothing.
use mathlib.Core.Path.{◌≡◌}
use Prim.Native.Nat.{◌*◌}
use lib.ListN.{drop}
use Rattle.rules.specs.Stored.{listed}
use Rattle.rules.specs.Table.{first_triple}
use Rattle.rules.proofs.table_lookup.apply_range_value.Given as goal

abbrev pub invariant-loop-i : goal.invariant-loop-i
invariant-loop-i l = first_triple l.whole (listed l.values) l.x ≡ first_triple l.whole (drop (3 * l.i) (listed l.values)) l.x
