-- `rules::table_lookup::is_held_at` meets its contract. Assumes nothing.
use mathlib.Core.Path.{sym, ap, ◌∙◌}
use Prim.Native.Nat.{◌+◌}
use lib.Ieee.{Float, le}
use Rattle.rules.specs.Stored.{stored_value}
use Rattle.rules.proofs.Steps.{held_under, held_over}
use Rattle.rules.proofs.table_lookup.is_held_at.Goals as goal

pub returns-then-is_under_at : goal.returns-then-is_under_at
returns-then-is_under_at c =
    let a = c.args in
    ap (λ (f : Float). le f a.x) c.at.ensures
    ∙ sym (held_under a.whole (stored_value a.values a.i) (stored_value a.values (a.i + 1)) a.x (sym c.is_under_at.ensures ∙ c.if-is_under_at.true))

pub returns-else-is_under_at : goal.returns-else-is_under_at
returns-else-is_under_at c =
    let a = c.args in
    c.if-is_under_at.false
    ∙ sym (held_over a.whole (stored_value a.values a.i) (stored_value a.values (a.i + 1)) a.x (sym c.is_under_at.ensures ∙ c.if-is_under_at.false))
