-- `texts::write::holds_zero` meets its contract. Before each turn the bytes from this one on are still to be looked at. Assumes nothing.
use mathlib.Core.Path.{◌≡◌, refl, sym, ap, ◌∙◌}
use mathlib.Core.Bool.{Bool, true, false, ◌||◌}
use mathlib.Core.List.{List}
use native.Mathlib.Omega.{arith}
use lib.ListN.{drop_of_length-le}
use Rattle.texts.specs.Write.{holds_zero}
use Rattle.texts.proofs.Writing.{zero_found}
use Rattle.texts.proofs.write.holds_zero.Goals as goal

-- nothing found is nothing to add
found_all : (found : Bool) → (found || false) ≡ found
found_all true = refl
found_all false = refl

pub loop-byte-preserved : goal.loop-byte-preserved
loop-byte-preserved c = c.loop-byte.invariant ∙ zero_found c.args.text.now c.loop-byte.byte-index c.loop-byte.found (omega arith)

pub returns : goal.returns
unfolding holds_zero
returns c =
    let text = c.args.text.now in
    sym (c.loop-byte.invariant ∙ ap (λ (bs : List _). c.loop-byte.found || holds_zero bs) (drop_of_length-le text (omega arith)) ∙ found_all c.loop-byte.found)
