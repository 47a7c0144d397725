-- `rules::search::range_index` meets its contract. Assumes nothing.
use mathlib.Core.Path.{◌≡◌, sym, ◌∙◌}
use Prim.Native.Nat.{◌+◌, ◌*◌}
use native.Mathlib.Omega.{arith}
use lib.ListN.{length}
use Rattle.rules.specs.Stored.{listed}
use Rattle.rules.proofs.Steps.{values_length, range_none, range_hit, range_miss}
use Rattle.rules.proofs.search.range_index.Goals as goal

pub returns-then-is_held_at : goal.returns-then-is_held_at
returns-then-is_held_at c =
    let v = c.args.values in
    let len : length (listed v) ≡ v.count = values_length v.image.now v.first v.count in
    let f = range_hit (listed v) c.args.whole c.args.x (2 * c.loop-i.i) (omega arith) (sym c.is_held_at.ensures ∙ c.if-is_held_at.true) in
    omega arith

pub loop-i-preserved : goal.loop-i-preserved
loop-i-preserved c =
    let v = c.args.values in
    let len : length (listed v) ≡ v.count = values_length v.image.now v.first v.count in
    let next : 2 * (c.loop-i.i + 1) ≡ 2 * c.loop-i.i + 2 = omega arith in
    let f = range_miss (listed v) c.args.whole c.args.x (2 * c.loop-i.i) (omega arith) (sym c.is_held_at.ensures ∙ c.if-is_held_at.false) in
    rw next (omega arith)

pub returns : goal.returns
returns c =
    let v = c.args.values in
    let len : length (listed v) ≡ v.count = values_length v.image.now v.first v.count in
    let f = range_none (listed v) c.args.whole c.args.x (2 * c.loop-i.i) (omega arith) in
    omega arith
