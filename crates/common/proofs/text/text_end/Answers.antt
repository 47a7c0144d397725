-- `common::text::text_end` meets its contract. Assumes nothing.
use mathlib.Core.Path.{ap}
use native.Mathlib.Omega.{arith}
use lib.ListN.{length}
use Rattle.common.proofs.Texts.{bytes_zero, bytes_more, bytes_none}
use Rattle.common.proofs.text.text_end.Goals as goal

pub returns-then-image-i-eq0 : goal.returns-then-image-i-eq0
returns-then-image-i-eq0 c =
    let z = ap length (bytes_zero c.args.image.now c.loop-i.i c.args.run.to (omega arith) (omega arith) c.if-image-i-eq0.true) in
    omega arith

pub loop-i-preserved : goal.loop-i-preserved
loop-i-preserved c =
    let more = ap length (bytes_more c.args.image.now c.loop-i.i c.args.run.to (omega arith) (omega arith) c.if-image-i-eq0.false) in
    omega arith

pub returns : goal.returns
returns c =
    let none = ap length (bytes_none c.args.image.now c.loop-i.i c.args.run.to (omega arith)) in
    omega arith
