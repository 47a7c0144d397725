-- `blocks::fixed_at` meets its contract. Assumes nothing.
use mathlib.Core.Path.{◌≡◌}
use Prim.Native.Nat.{◌+◌}
use native.Mathlib.Omega.{arith}
use Rattle.blocks.specs.Block.{fixed_at}
use Rattle.blocks.proofs.fixed_at.Goals as goal

pub returns : goal.returns
unfolding fixed_at
returns c =
    let at = c.args.at in
    let unit : c.read_link-name.result.1.at ≡ at + 8 = omega arith in
    let comment : c.read_link-unit.result.1.at ≡ at + 16 = omega arith in
    let inverse : c.read_link-comment.result.1.at ≡ at + 24 = omega arith in
    cc
