-- `rules::table_lookup::apply_table` meets its contract. Assumes nothing.
use mathlib.Core.Path.{◌≡◌, sym, ◌∙◌}
use mathlib.Core.Logic.{inl, inr}
use mathlib.Core.Bool.{true, false}
use Prim.Native.Nat.{◌-◌}
use lib.ListN.{length}
use lib.Ieee.{le}
use Rattle.rules.specs.Stored.{listed, stored_value}
use Rattle.rules.proofs.Steps.{values_length, table_bad, table_first, table_last, table_scan}
use Rattle.rules.proofs.table_lookup.apply_table.Goals as goal
use Rattle.rules.proofs.table_lookup.apply_table.Goals.{then-n-lt2-via-then-n-lt2, then-n-lt2-via-else-n-lt2+then-n-eq1}

pub returns-then-n-lt2 : goal.returns-then-n-lt2
returns-then-n-lt2 c =
    let a = c.args in
    let v = c.args.values in
    let len : length (listed v) ≡ v.count = values_length v.image.now v.first v.count in
    elim c.then-n-lt2.branch [
      | then-n-lt2-via-then-n-lt2 w ↦ sym (table_bad a.near a.x (listed v) (rw len (inl w.if-n-lt2.true)))
      | then-n-lt2-via-else-n-lt2+then-n-eq1 w ↦ sym (table_bad a.near a.x (listed v) (rw len (inr w.if-n-eq1.true)))
    ]

pub returns-then-x-at : goal.returns-then-x-at
returns-then-x-at c =
    let a = c.args in
    let v = c.args.values in
    let len : length (listed v) ≡ v.count = values_length v.image.now v.first v.count in
    let t : le a.x (stored_value v 0) ≡ true = rw (sym c.at.ensures) c.if-x-at.true in
    c.at-then-x-at.ensures ∙ sym (table_first a.near a.x (listed v) v.count len c.if-n-lt2.false c.if-n-eq1.false t)

pub returns-then-x-at-2 : goal.returns-then-x-at-2
returns-then-x-at-2 c =
    let a = c.args in
    let v = c.args.values in
    let len : length (listed v) ≡ v.count = values_length v.image.now v.first v.count in
    let t : le a.x (stored_value v 0) ≡ false = rw (sym c.at.ensures) c.if-x-at.false in
    let u : le (stored_value v (v.count - 2)) a.x ≡ true = rw (sym c.at-2.ensures) c.if-x-at-2.true in
    c.at-then-x-at-2.ensures ∙ sym (table_last a.near a.x (listed v) v.count len c.if-n-lt2.false c.if-n-eq1.false t u)

pub returns : goal.returns
returns c =
    let a = c.args in
    let v = c.args.values in
    let len : length (listed v) ≡ v.count = values_length v.image.now v.first v.count in
    let t : le a.x (stored_value v 0) ≡ false = rw (sym c.at.ensures) c.if-x-at.false in
    let u : le (stored_value v (v.count - 2)) a.x ≡ false = rw (sym c.at-2.ensures) c.if-x-at-2.false in
    c.apply_scan.ensures ∙ sym (table_scan a.near a.x (listed v) v.count len c.if-n-lt2.false c.if-n-eq1.false t u)
