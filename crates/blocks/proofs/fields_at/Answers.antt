-- `blocks::fields_at` meets its contract. Assumes nothing.
use mathlib.Core.Path.{◌≡◌}
use Prim.Native.Nat.{◌+◌}
use native.Mathlib.Omega.{arith}
use Rattle.blocks.specs.Block.{fields_at}
use Rattle.blocks.proofs.fields_at.Goals as goal

pub returns : goal.returns
unfolding fields_at
returns c =
    let at = c.args.at in
    let precision : c.read_u8-kind.result.1.at ≡ at + 1 = omega arith in
    let flags : c.read_u8-precision.result.1.at ≡ at + 2 = omega arith in
    let refcount : c.read_u16-flags.result.1.at ≡ at + 4 = omega arith in
    let valcount : c.read_u16-refcount.result.1.at ≡ at + 6 = omega arith in
    cc
