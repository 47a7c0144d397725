-- `keys::is_repeated_key` meets its contract. Before each turn it is known whether one of the first j is equal. Assumes nothing.
use mathlib.Core.Path.{refl}
use Rattle.keys.specs.Keys.{key_among}
use Rattle.keys.proofs.Faults.{among_more}
use Rattle.keys.proofs.is_repeated_key.Goals as goal

pub loop-j-init : goal.loop-j-init
unfolding key_among
loop-j-init c = refl

pub loop-j-preserved : goal.loop-j-preserved
loop-j-preserved c =
    let l = c.loop-j in
    let a = c.args in
    among_more a.image.now a.b a.i l.j l.invariant c.number_at.ensures c.number_at-key.ensures
