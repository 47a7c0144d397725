-- `rules::table_lookup::apply_range_value` meets its contract. Assumes nothing.
use mathlib.Core.Path.{◌≡◌, sym, ◌∙◌}
use mathlib.Core.Logic.{inl, inr}
use Prim.Native.Nat.{◌+◌, ◌-◌, ◌*◌}
use native.Mathlib.Omega.{arith}
use lib.ListN.{length}
use Rattle.rules.specs.Stored.{listed}
use Rattle.rules.proofs.Steps.{values_length, triple_last, triple_hit, triple_miss, range_value_bad, range_value_good}
use Rattle.rules.proofs.table_lookup.apply_range_value.Goals as goal
use Rattle.rules.proofs.table_lookup.apply_range_value.Goals.{then-n-lt4-via-then-n-lt4, then-n-lt4-via-else-n-lt4+then-n-ne1}

pub returns-then-n-lt4 : goal.returns-then-n-lt4
returns-then-n-lt4 c =
    let a = c.args in
    let v = c.args.values in
    let len : length (listed v) ≡ v.count = values_length v.image.now v.first v.count in
    elim c.then-n-lt4.branch [
      | then-n-lt4-via-then-n-lt4 w ↦ sym (range_value_bad (listed v) a.whole a.x v.count len (inl w.if-n-lt4.true))
      | then-n-lt4-via-else-n-lt4+then-n-ne1 w ↦ sym (range_value_bad (listed v) a.whole a.x v.count len (inr w.if-n-ne1.true))
    ]

pub returns-then-is_held_at : goal.returns-then-is_held_at
returns-then-is_held_at c =
    let a = c.args in
    let v = c.args.values in
    let len : length (listed v) ≡ v.count = values_length v.image.now v.first v.count in
    let l = c.loop-i in
    c.at.ensures
    ∙ sym
    (range_value_good (listed v) a.whole a.x v.count len (omega arith) (omega arith)
    ∙ l.invariant
    ∙ triple_hit (listed v) a.whole a.x (3 * l.i) (omega arith) (sym c.is_held_at.ensures ∙ c.if-is_held_at.true))

pub loop-i-preserved : goal.loop-i-preserved
loop-i-preserved c =
    let a = c.args in
    let v = c.args.values in
    let len : length (listed v) ≡ v.count = values_length v.image.now v.first v.count in
    let l = c.loop-i in
    let next : 3 * (l.i + 1) ≡ 3 * l.i + 3 = omega arith in
    rw next
    (l.invariant ∙ triple_miss (listed v) a.whole a.x (3 * l.i) (omega arith) (sym c.is_held_at.ensures ∙ c.if-is_held_at.false))

pub returns : goal.returns
returns c =
    let a = c.args in
    let v = c.args.values in
    let len : length (listed v) ≡ v.count = values_length v.image.now v.first v.count in
    let l = c.loop-i in
    let last : v.count - 1 ≡ 3 * l.i = omega arith in
    rw (c.at-2.ensures, last)
    (sym
    (range_value_good (listed v) a.whole a.x v.count len (omega arith) (omega arith)
    ∙ l.invariant
    ∙ triple_last (listed v) a.whole a.x (3 * l.i) (omega arith)))
