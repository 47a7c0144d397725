-- The loop of `rules::table_lookup::apply_scan`: the lower key is that of the pair before, and the answer is the one from that pair on. Assumes
-- nothing.
use mathlib.Core.Path.{◌≡◌}
use Prim.Native.Nat.{◌-◌, ◌*◌}
use lib.ListN.{drop}
use Rattle.rules.specs.Stored.{listed, stored_value}
use Rattle.rules.specs.Table.{scan}
use Rattle.rules.proofs.table_lookup.apply_scan.Given as goal

abbrev pub invariant-loop-i : goal.invariant-loop-i
invariant-loop-i l =
    scan l.near (stored_value l.values 0) (stored_value l.values 1) (drop 2 (listed l.values)) l.x
    ≡ scan l.near l.k0 (stored_value l.values (2 * l.i - 1)) (drop (2 * l.i) (listed l.values)) l.x
