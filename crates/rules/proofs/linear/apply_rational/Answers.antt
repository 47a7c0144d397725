-- `rules::linear::apply_rational` meets its contract. Assumes nothing.
use mathlib.Core.Path.{◌≡◌, sym}
use native.Mathlib.Omega.{arith}
use lib.ListN.{length}
use Rattle.rules.specs.Stored.{listed}
use Rattle.rules.proofs.Steps.{values_length, rational_few, rational_six}
use Rattle.rules.proofs.linear.apply_rational.Goals as goal

pub returns-then-values-lt6 : goal.returns-then-values-lt6
returns-then-values-lt6 c =
    let v = c.args.values in
    let len : length (listed v) ≡ v.count = values_length v.image.now v.first v.count in
    sym (rational_few (listed v) c.args.x (omega arith))

pub returns : goal.returns
returns c =
    let v = c.args.values in
    let len : length (listed v) ≡ v.count = values_length v.image.now v.first v.count in
    rw (c.polynomial.ensures, c.polynomial-2.ensures) (sym (rational_six (listed v) c.args.x (omega arith)))
