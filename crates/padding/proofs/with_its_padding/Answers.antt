-- `padding::with_its_padding` meets its contract. Assumes nothing.
use native.Mathlib.Omega.{arith}
use Rattle.padding.specs.Kept.{read_end}
use Rattle.padding.proofs.Keeping.{kept_whole, kept_short}
use Rattle.padding.proofs.with_its_padding.Goals as goal

pub returns-then-excess-image : goal.returns-then-excess-image
unfolding read_end
returns-then-excess-image c =
    let a = c.args in
    kept_short a.image.now a.address a.block c.requires _ (omega arith) c.if-excess-image.true

pub returns : goal.returns
unfolding read_end
returns c =
    let a = c.args in
    kept_whole a.image.now a.address a.block c.requires _ (omega arith) _ _ c.if-excess-image.false c.u32_at-reserved.ensures c.with_padding.ensures
