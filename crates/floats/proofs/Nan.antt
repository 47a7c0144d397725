-- The one NaN, and the patterns of bits that spell it. Assumes nothing.
use Rattle.std.proofs.Common.{◌≡◌, ℕ, Bool, true, false, not, T, sym, refl, ◌∙◌, subst}
use mathlib.Core.Bool.{false≢true}
use lib.Ieee.{Float, nan, inf, fin, binary64, is_nan, nan_bits, of_bits, to_bits, div}
use lib.Ieee.Bits.{nan_bits_is}

-- there is one NaN
pub one_nan : (x : Float) → is_nan x ≡ true → x ≡ nan
unfolding is_nan
one_nan nan h = refl
one_nan (inf s) h = absurd (false≢true h)
one_nan (fin s m e) h = absurd (false≢true h)

pub nan_of_pattern : (n : ℕ) → nan_bits binary64 n ≡ true → of_bits binary64 n ≡ nan
nan_of_pattern n h = one_nan (of_bits binary64 n) (sym (nan_bits_is binary64 n) ∙ h)

pub not_true : (b : Bool) → b ≡ false → T (not b)
not_true b h = subst (λ (x : Bool). T (not x)) (sym h) tt

-- 0.0 / 0.0, as the code makes its NaN
pub zero_by_zero : div binary64 (of_bits binary64 0) (of_bits binary64 0) ≡ nan
unfolding div of_bits
zero_by_zero = refl

pub bits_of_nan : to_bits binary64 nan ≡ 0x7ff8_0000_0000_0000
unfolding to_bits
bits_of_nan = refl
