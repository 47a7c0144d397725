-- `rules::search::key_index` meets its contract. Assumes nothing.
use mathlib.Core.Path.{◌≡◌, sym, ◌∙◌}
use native.Mathlib.Omega.{arith}
use lib.ListN.{length}
use Rattle.rules.specs.Stored.{listed}
use Rattle.rules.proofs.Steps.{values_length, key_none, key_hit, key_miss}
use Rattle.rules.proofs.search.key_index.Goals as goal

pub returns-then-is_key_at : goal.returns-then-is_key_at
returns-then-is_key_at c =
    let v = c.args.values in
    let len : length (listed v) ≡ v.count = values_length v.image.now v.first v.count in
    let f = key_hit (listed v) c.args.x c.loop-i.i (omega arith) (sym c.is_key_at.ensures ∙ c.if-is_key_at.true) in
    omega arith

pub loop-i-preserved : goal.loop-i-preserved
loop-i-preserved c =
    let v = c.args.values in
    let len : length (listed v) ≡ v.count = values_length v.image.now v.first v.count in
    let f = key_miss (listed v) c.args.x c.loop-i.i (omega arith) (sym c.is_key_at.ensures ∙ c.if-is_key_at.false) in
    omega arith

pub returns : goal.returns
returns c =
    let v = c.args.values in
    let len : length (listed v) ≡ v.count = values_length v.image.now v.first v.count in
    let f = key_none (listed v) c.args.x c.loop-i.i (omega arith) in
    omega arith
