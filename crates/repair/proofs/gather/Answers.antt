-- `repair::gather` meets its contract. Assumes nothing.
use mathlib.Core.Path.{refl}
use native.Mathlib.Omega.{arith}
use Rattle.words.specs.Words.{words}
use Rattle.words.proofs.Slices.{gathered}
use Rattle.repair.proofs.gather.Goals as goal

pub loop-i-init : goal.loop-i-init
unfolding words
loop-i-init c = refl

pub loop-i-preserved : goal.loop-i-preserved
loop-i-preserved c =
    gathered c.args.input.now c.args.first c.loop-i.i _ c.loop-i.room (omega (arith, c.loop-i.auto.room)) c.loop-i.invariant c.u64_at.ensures
