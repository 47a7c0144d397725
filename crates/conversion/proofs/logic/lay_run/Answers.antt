-- `conversion::logic::lay_run` meets its contract. Assumes nothing.
use mathlib.Core.Path.{◌≡◌, ◌∙◌}
use Prim.Native.Nat.{◌-◌}
use native.Mathlib.Omega.{arith}
use lib.ListN.{length}
use lib.Seq.{take_all}
use Rattle.common.specs.Text.{text_bytes}
use Rattle.common.proofs.Texts.{bytes_short}
use Rattle.pieces.proofs.Laws.{looked_part}
use Rattle.conversion.proofs.Settling.{too_long, fitting, same_text}
use Rattle.conversion.proofs.logic.lay_run.Goals as goal

pub returns-then-out-size : goal.returns-then-out-size
returns-then-out-size c =
    let a = c.args in
    too_long a.address (text_bytes a.image.now a.run.from a.run.to) a.out.now (omega (arith, c.measure.ensures, c.if-out-size.true))

pub copy-requires : goal.copy-requires
copy-requires c =
    let a = c.args in
    let m = c.measure.ensures in
    (omega (arith, c.if-out-size.false), (omega (arith, m), omega (arith, m, bytes_short a.image.now a.run.from a.run.to)))

pub returns : goal.returns
returns c =
    let a = c.args in
    let img = a.image.now in
    let t = text_bytes img a.run.from a.run.to in
    let n = c.measure.result - a.run.from in
    let size : n ≡ length t = omega (arith, c.measure.ensures, c.if-out-size.false) in
    fitting a.address t a.out.now n size (omega (arith, c.if-out-size.false))
    (same_text (looked_part img a.run.from a.run.to n (omega arith) ∙ take_all n t (omega arith)) c.copy.ensures)
