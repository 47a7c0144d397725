-- The loops of `leads::keys::find_text`: what stays true from turn to turn. Assumes nothing.
use mathlib.Core.Path.{◌≡◌}
use Prim.Native.Nat.{◌-◌}
use Rattle.leads.specs.Keys.{first_text}
use Rattle.leads.proofs.keys.find_text.Given as goal

abbrev pub invariant-loop-j : goal.invariant-loop-j
invariant-loop-j l = first_text l.image l.b l.text l.stride 0 l.n ≡ first_text l.image l.b l.text l.stride l.j (l.n - l.j)
