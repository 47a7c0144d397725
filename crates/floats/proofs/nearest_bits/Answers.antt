-- `floats::nearest_bits` meets its contract. Assumes nothing.
use Rattle.std.proofs.Common.{◌≡◌, ℕ, ◌+◌, ◌-◌, ◌*◌, ◌%◌, ◌^◌, ◌<◌, pos, sym, ap, ◌∙◌, arith}
use lib.Count.{count_leading_zeros}
use lib.Ieee.{binary64, of_int, to_bits}
use lib.Ieee.Nearest.{closest}
use Rattle.floats.proofs.Whole.{moved_up, digits_fit, bits_of_whole, bits_of_zero}
use Rattle.floats.proofs.nearest_bits.Goals as goal
use Rattle.floats.proofs.nearest_bits.Goals.{After-rounded, Else-n-eq0}

-- n is not 0, and so has fewer than 64 leading zeros
some : (c : Else-n-eq0) → 0 < c.args.n
some c = omega arith

few : (c : Else-n-eq0) → count_leading_zeros 64 c.args.n < 64
few c = (moved_up c.args.n (some c) c.ranges.n.fits).2

-- the shift loses nothing
digits : (c : After-rounded) → c.rounded.result ≡ closest (c.args.n * 2 ^ count_leading_zeros 64 c.args.n) 2048
digits c =
    let n = c.args.n in
    let m = n * 2 ^ count_leading_zeros 64 n in
    let small : m < 2 ^ 64 = (moved_up n (some c.before) c.ranges.n.fits).1 in
    let whole : m % 2 ^ 64 ≡ m = omega arith in
    c.rounded.ensures ∙ ap (λ (x : ℕ). closest x 2048) whole

pub returns-then-n-eq0 : goal.returns-then-n-eq0
returns-then-n-eq0 c = bits_of_zero ∙ ap (λ (n : ℕ). to_bits binary64 (of_int binary64 (pos n))) (sym c.if-n-eq0.true)

pub overflow_cast-result : goal.overflow_cast-result
overflow_cast-result c = omega (arith, few c)

pub overflow_sub-result : goal.overflow_sub-result
overflow_sub-result c = omega (arith, few c)

pub overflow_cast-zeros : goal.overflow_cast-zeros
overflow_cast-zeros c = omega (arith, few c)

pub overflow_shl-n : goal.overflow_shl-n
overflow_shl-n c = few c

pub overflow_add-result : goal.overflow_add-result
overflow_add-result c =
    let d = digits_fit c.args.n (some c.before) c.ranges.n.fits in
    omega (arith, digits c, d.1)

pub returns : goal.returns
returns c =
    let n = c.args.n in
    ap (λ (q : ℕ). (1085 - count_leading_zeros 64 n) * 2 ^ 52 + q) (digits c) ∙ bits_of_whole n (some c.before) c.ranges.n.fits
