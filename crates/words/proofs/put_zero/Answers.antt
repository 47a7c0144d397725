-- `words::put_zero` meets its contract. Assumes nothing.
use mathlib.Core.Path.{refl, sym}
use Rattle.words.specs.Words.{put}
use Rattle.words.proofs.Laws.{set_zero}
use Rattle.words.proofs.put_zero.Goals as goal

pub returns-then-out-at-ne0 : goal.returns-then-out-at-ne0
unfolding put
returns-then-out-at-ne0 c = refl

pub returns-else-out-at-ne0 : goal.returns-else-out-at-ne0
unfolding put
returns-else-out-at-ne0 c = let a = c.args in sym (set_zero a.out.now a.at c.if-out-at-ne0.false)
