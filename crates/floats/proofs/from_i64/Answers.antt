-- `floats::from_i64` meets its contract. Assumes nothing.
use Rattle.std.proofs.Common.{◌≡◌, ℕ, ◌+◌, ◌^◌, ◌<◌, ℤ, pos, nat_abs, sym, ap, ◌∙◌, subst, w64}
use lib.Ieee.{binary64, of_int, to_bits}
use lib.Ieee.Bits.{to_bits-lt}
use lib.Ieee.Fits.{of_int-fits}
use mir.ValLaws.{to_z-of_z}
use Rattle.floats.proofs.Signed.{not_negative, float_turned}
use Rattle.floats.proofs.Whole.{read_as, no_nan_read}
use Rattle.floats.proofs.from_i64.Goals as goal
use Rattle.floats.proofs.from_i64.Goals.{After-nearest_bits-below_sign, Else-n-ge0, Then-n-ge0}

-- the bits of the size of the number that was given
given : (c : After-nearest_bits-below_sign) → c.nearest_bits-below_sign.result ≡ to_bits binary64 (of_int binary64 (pos (nat_abs c.args.n)))
given c =
    let n = c.args.n in
    c.nearest_bits-below_sign.ensures
    ∙ ap (λ (k : ℕ). to_bits binary64 (of_int binary64 (pos k))) (c.unsigned_abs.ensures.value ∙ ap nat_abs (to_z-of_z w64 n c.ranges.n))

-- the bits of its float, which of a negative number have the sign
plain : (c : Then-n-ge0) → c.nearest_bits-below_sign.result ≡ to_bits binary64 (of_int binary64 c.args.n)
plain c =
    given c.before
    ∙ ap (λ (z : ℤ). to_bits binary64 (of_int binary64 z)) (not_negative c.args.n c.ranges.n c.if-n-ge0.true)

signed : (c : Else-n-ge0) → 2 ^ 63 + c.nearest_bits-below_sign.result ≡ to_bits binary64 (of_int binary64 c.args.n)
signed c =
    ap (λ (b : ℕ). 2 ^ 63 + b) (given c.before)
    ∙ float_turned c.args.n c.ranges.n c.if-n-ge0.false

pub float_from_bits-result : goal.float_from_bits-result
float_from_bits-result c = no_nan_read c.nearest_bits-below_sign.result c.args.n (plain c)

pub overflow_add-result : goal.overflow_add-result
overflow_add-result c =
    let x = of_int binary64 c.args.n in
    record { fits = subst (λ (b : ℕ). b < 2 ^ 64) (sym (signed c)) (to_bits-lt binary64 x (of_int-fits binary64 c.args.n)) }

pub float_from_bits-result-else-n-ge0 : goal.float_from_bits-result-else-n-ge0
float_from_bits-result-else-n-ge0 c = no_nan_read (2 ^ 63 + c.nearest_bits-below_sign.result) c.args.n (signed c)

pub returns-then-n-ge0 : goal.returns-then-n-ge0
returns-then-n-ge0 c = read_as c.nearest_bits-below_sign.result c.args.n (plain c)

pub returns-else-n-ge0 : goal.returns-else-n-ge0
returns-else-n-ge0 c = read_as (2 ^ 63 + c.nearest_bits-below_sign.result) c.args.n (signed c)
