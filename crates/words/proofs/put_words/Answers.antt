-- `words::put_words` meets its contract. Assumes nothing.
use mathlib.Core.Path.{refl}
use Rattle.std.proofs.lemmas.List.{take_all}
use Rattle.words.specs.Words.{put, links}
use Rattle.words.proofs.Laws.{put_next}
use Rattle.words.proofs.put_words.Goals as goal

pub loop-i-init : goal.loop-i-init
unfolding put links
loop-i-init g c = refl

pub loop-i-preserved : goal.loop-i-preserved
loop-i-preserved g c =
    let v = c.index-vs-i.result in
    let more = put_next g.W.Word.bits c.args.vs.now c.loop-i.i v c.args.out.now c.args.at c.loop-i-test.true c.index-vs-i.is in
    cc more

pub returns : goal.returns
returns g c = cc (take_all c.loop-i.i c.args.vs.now c.loop-i-test.false)
