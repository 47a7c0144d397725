-- The loop of `words::put_words`: before each turn the first i words are out. Assumes nothing.
use Rattle.std.proofs.Common.{◌≡◌, map, take}
use Rattle.words.specs.Words.{put, links}
use Rattle.words.proofs.put_words.Given as goal

abbrev pub invariant-loop-i : goal.invariant-loop-i
invariant-loop-i g l = l.out ≡ put l.initial.out l.at (links (map g.W.Word.bits (take l.i l.vs)))
