-- What cannot be. Where two things are told apart and said to be equal, `cc` finds 0 equal to 1; from that everything follows.
use mathlib.Core.Path.{◌≡◌}
use Prim.Native.Nat.{ℕ}
use native.Mathlib.Omega.{arith}

pub clash : {A : Type 0} → ◌≡◌ {A = ℕ} 0 1 → A
clash p = absurd (omega (arith, p))
