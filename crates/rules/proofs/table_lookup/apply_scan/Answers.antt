-- `rules::table_lookup::apply_scan` meets its contract. Assumes nothing.
use mathlib.Core.Path.{◌≡◌, sym, ap, ◌∙◌}
use mathlib.Core.Bool.{true, false, ◌&&◌}
use Prim.Native.Nat.{◌+◌, ◌-◌, ◌*◌}
use native.Mathlib.Omega.{arith}
use lib.ListN.{length, drop}
use lib.Ieee.{Float, le}
use Rattle.rules.specs.Stored.{listed, stored_value}
use Rattle.rules.specs.Table.{scan}
use Rattle.rules.proofs.Steps.{values_length, scan_none, scan_hit, scan_miss}
use Rattle.rules.proofs.table_lookup.apply_scan.Goals as goal

pub loop-i-init : goal.loop-i-init
loop-i-init c =
    let v = c.args.values in
    ap (λ (k : Float). scan c.args.near k (stored_value v 1) (drop 2 (listed v)) c.args.x) (sym c.at-k0.ensures)

pub returns-then-is_between : goal.returns-then-is_between
returns-then-is_between c =
    let a = c.args in
    let v = c.args.values in
    let len : length (listed v) ≡ v.count = values_length v.image.now v.first v.count in
    let l = c.loop-i in
    let t : (le l.k0 a.x && le a.x (stored_value v (2 * l.i))) ≡ true = rw (sym c.at-k1.ensures) (sym c.is_between.ensures ∙ c.if-is_between.true) in
    c.at_between.ensures
    ∙ rw (c.at-k1.ensures, c.at.ensures, c.at-then-is_between.ensures)
    (sym (l.invariant ∙ scan_hit (listed v) a.near a.x l.k0 (stored_value v (2 * l.i - 1)) (2 * l.i) (omega arith) t))

pub loop-i-preserved : goal.loop-i-preserved
loop-i-preserved c =
    let a = c.args in
    let v = c.args.values in
    let len : length (listed v) ≡ v.count = values_length v.image.now v.first v.count in
    let l = c.loop-i in
    let t : (le l.k0 a.x && le a.x (stored_value v (2 * l.i))) ≡ false = rw (sym c.at-k1.ensures) (sym c.is_between.ensures ∙ c.if-is_between.false) in
    let next : 2 * (l.i + 1) ≡ 2 * l.i + 2 = omega arith in
    let behind : 2 * l.i + 2 - 1 ≡ 2 * l.i + 1 = omega arith in
    rw (c.at-k1.ensures, next, behind)
    (l.invariant ∙ scan_miss (listed v) a.near a.x l.k0 (stored_value v (2 * l.i - 1)) (2 * l.i) (omega arith) t)

pub returns : goal.returns
returns c =
    let a = c.args in
    let v = c.args.values in
    let len : length (listed v) ≡ v.count = values_length v.image.now v.first v.count in
    let l = c.loop-i in
    sym (l.invariant ∙ scan_none (listed v) a.near a.x l.k0 (stored_value v (2 * l.i - 1)) (2 * l.i) (omega arith))
