-- The loop of `inverse::put_words`: before each turn the first i words are out. Assumes nothing.
use mathlib.Core.Path.{◌≡◌}
use Rattle.words.specs.Words.{put, words, links}
use Rattle.inverse.proofs.put_words.Given as goal

abbrev pub invariant-loop-i : goal.invariant-loop-i
invariant-loop-i l = l.out ≡ put l.initial.out l.at (links (words l.image l.first l.i))
