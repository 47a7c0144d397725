-- `texts::write::put_text` meets its contract. Before each turn the bytes from i on are still to be put. Assumes nothing.
use mathlib.Core.Path.{◌≡◌, sym, ap, ◌∙◌}
use Prim.Native.Nat.{ℕ, suc, ◌+◌}
use native.Mathlib.Numerals.{add-one}
use native.Mathlib.Omega.{arith}
use lib.ListN.{get_or, drop, set, drop_of_length-le}
use lib.Seq.{drop-cons}
use Rattle.words.specs.Words.{put}
use Rattle.texts.proofs.write.put_text.Goals as goal

-- the byte at i, and then those behind it
pub loop-i-preserved : goal.loop-i-preserved
unfolding put
loop-i-preserved c =
    let text = c.args.text.now in
    let i = c.loop-i.i in
    let next : (24 + i) + 1 ≡ 24 + (i + 1) = omega arith in
    let out = set c.loop-i.out (24 + i) (get_or text i 0) in
    c.loop-i.invariant ∙ ap (put c.loop-i.out (24 + i)) (drop-cons text i 0 (omega arith))
    ∙ ap (λ (k : ℕ). put out k (drop (suc i) text)) next ∙ ap (λ (k : ℕ). put out (24 + (i + 1)) (drop k text)) (sym (add-one i))

pub returns : goal.returns
unfolding put
returns c =
    let text = c.args.text.now in
    sym (c.loop-i.invariant ∙ ap (put c.loop-i.out (24 + c.loop-i.i)) (drop_of_length-le text (omega arith)))
