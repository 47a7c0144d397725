-- `inverse::put_words` meets its contract. Assumes nothing.
use mathlib.Core.Path.{◌≡◌, refl}
use native.Mathlib.Omega.{arith}
use Rattle.words.specs.Words.{put, words, links}
use Rattle.inverse.proofs.Writing.{put_word_more}
use Rattle.inverse.proofs.put_words.Goals as goal

pub loop-i-init : goal.loop-i-init
unfolding put words links
loop-i-init c = refl

pub loop-i-preserved : goal.loop-i-preserved
loop-i-preserved c = cc (put_word_more c.args.image.now c.args.first c.loop-i.i c.args.out.now c.args.at)

pub returns : goal.returns
returns c = let all : c.loop-i.i ≡ c.args.count = omega arith in cc
