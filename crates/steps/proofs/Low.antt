-- The mask of the low bits of a 64-bit word, for a width below 64 and for any other. Assumes nothing.
use Rattle.std.specs.Prelude.{nat_lt, if◌then◌else◌, bit_and}
use Rattle.std.proofs.lemmas.Bool.{cases_lt}
use Rattle.std.proofs.lemmas.Nat.{and_mask, pow_pos}
use mathlib.Core.Path.{◌≡◌, sym, ap, ◌∙◌}
use mathlib.Core.Logic.{⊎_elim}
use Prim.Native.Nat.{ℕ, ◌-◌, ◌*◌, ◌%◌, ◌^◌, ◌≤◌, ◌<◌}
use native.Mathlib.Nat.{mod-eq_of_lt, lt_of_lt_of_le}
use native.Mathlib.Omega.{arith}
use borrow.Author.Tests.{lt-ltb, le-ltb}
use lib.Pow.{pow-lt, pow_mono}

-- all ones, shifted left by w: what it leaves is the mask
below_64 : (n w s : ℕ) → w < 64 → s ≡ 18446744073709551615 * 2 ^ w % 18446744073709551616 → bit_and n (18446744073709551615 - s) ≡ n % 2 ^ w
below_64 n w s h e =
    let small : 2 ^ w < 18446744073709551616 = pow-lt {i = w} {j = 64} h in
    let some : 0 < 2 ^ w = pow_pos w in
    let mask : 18446744073709551615 - s ≡ 2 ^ w - 1 = omega arith in
    ap (bit_and n) mask ∙ and_mask n w

from_64 : (n w s : ℕ) → n < 18446744073709551616 → 64 ≤ w → s ≡ 0 → bit_and n (18446744073709551615 - s) ≡ n % 2 ^ w
from_64 n w s h k e =
    let all : bit_and n 18446744073709551615 ≡ n % 18446744073709551616 = and_mask n 64 in
    rw e (all ∙ mod-eq_of_lt h ∙ sym (mod-eq_of_lt (lt_of_lt_of_le h (pow_mono {i = 64} {j = w} k))))

pub low_of : (n w s : ℕ) → n < 18446744073709551616 → s ≡ (if nat_lt w 64 then (18446744073709551615 * 2 ^ w) % 18446744073709551616 else 0)
    → bit_and n (18446744073709551615 - s) ≡ n % 2 ^ w
low_of n w s h e = ⊎_elim
    (λ (l : w < 64). below_64 n w s l (rw (lt-ltb w 64 l) at e))
    (λ (l : 64 ≤ w). from_64 n w s h l (rw (le-ltb w 64 l) at e))
    (cases_lt w 64)
