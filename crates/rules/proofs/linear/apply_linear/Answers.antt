-- `rules::linear::apply_linear` meets its contract. Assumes nothing.
use mathlib.Core.Path.{◌≡◌, sym}
use native.Mathlib.Omega.{arith}
use lib.ListN.{length}
use Rattle.rules.specs.Stored.{listed}
use Rattle.rules.proofs.Steps.{values_length, linear_few, linear_two}
use Rattle.rules.proofs.linear.apply_linear.Goals as goal

pub returns-then-values-lt2 : goal.returns-then-values-lt2
returns-then-values-lt2 c =
    let v = c.args.values in
    let len : length (listed v) ≡ v.count = values_length v.image.now v.first v.count in
    sym (linear_few (listed v) c.args.x (omega arith))

pub returns : goal.returns
returns c =
    let v = c.args.values in
    let len : length (listed v) ≡ v.count = values_length v.image.now v.first v.count in
    rw (c.at.ensures, c.at-2.ensures) (sym (linear_two (listed v) c.args.x (omega arith)))
