-- `repeats::first_repeat` meets its contract. The chunks before `start` have been gone through. Assumes nothing.
use Rattle.repeats.proofs.Chunks.{first_more}
use Rattle.repeats.proofs.Firsts.{first_found}
use Rattle.repeats.proofs.first_repeat.Goals as goal

pub loop-start-preserved : goal.loop-start-preserved
loop-start-preserved c =
    let s = c.args in
    let l = c.loop-start in
    first_more s.image.now s.b s.n l.start l.bound c.repeat_of-bound.result l.invariant c.repeat_of-bound.ensures

pub returns : goal.returns
returns c =
    let s = c.args in
    let l = c.loop-start in
    first_found s.image.now s.b l.start s.n l.bound c.loop-start-test.false l.invariant
