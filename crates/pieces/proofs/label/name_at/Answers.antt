-- `pieces::label::name_at` meets its contract. Assumes nothing.
use mathlib.Core.Path.{ap, ◌∙◌}
use Prim.Native.Nat.{◌+◌}
use native.Mathlib.Omega.{arith}
use lib.ListN.{length}
use borrow.Author.Tests.{le-leb, lt-leb}
use Rattle.common.specs.Text.{run_of}
use Rattle.pieces.specs.Label.{name_at}
use Rattle.pieces.proofs.label.name_at.Goals as goal

pub returns-then-image-from-lt32 : goal.returns-then-image-from-lt32
unfolding name_at
returns-then-image-from-lt32 c =
    let a = c.args in
    rw (lt-leb (a.at + 32) (length a.image.now) (omega arith))

pub returns : goal.returns
unfolding name_at
returns c =
    let a = c.args in
    rw (le-leb (a.at + 32) (length a.image.now) (omega arith)) (c.run_of.ensures ∙ ap (run_of a.image.now) c.u64_at.ensures)
