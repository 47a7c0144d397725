-- The loop of `texts::write::put_text`: before each turn the bytes from i on are still to be put. Assumes nothing.
use mathlib.Core.Path.{◌≡◌}
use Prim.Native.Nat.{◌+◌}
use lib.ListN.{drop}
use Rattle.words.specs.Words.{put}
use Rattle.texts.proofs.write.put_text.Given as goal

abbrev pub invariant-loop-i : goal.invariant-loop-i
invariant-loop-i l = put l.initial.out 24 l.text ≡ put l.out (24 + l.i) (drop l.i l.text)
