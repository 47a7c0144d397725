-- A signed number by its size and its sign, as the code has them: the machine reads a number back from its bits after each step, and for numbers in
-- range that changes nothing. Then its 64 bits and its float's bits. Assumes nothing.
use Rattle.std.proofs.Common.{◌≡◌, ◌+◌, ◌^◌, true, false, ℤ, pos, negsuc, nat_abs, sym, refl, ap, ◌∙◌, subst, true≢false, w64, SFits, to_z, of_z}
use mathlib.Core.Bool.{false≢true}
use lib.Dec.{leb-zero}
use lib.Signed.{le_z}
use lib.Ieee.{binary64, of_int, to_bits}
use mir.ValLaws.{to_z-of_z}
use Rattle.floats.specs.Twos.{twos}
use Rattle.floats.proofs.Whole.{sign_is_a_bit}

abbrev read : ℤ → ℤ
read z = to_z w64 (of_z w64 z)

-- what the code's test of the sign says of the number that it was given
pub not_negative : (z : ℤ) → SFits w64 z → le_z (pos 0) (read z) ≡ true → pos (nat_abs z) ≡ z
not_negative (pos n) F t = refl
not_negative (negsuc k) F t = absurd (false≢true (subst (λ (y : ℤ). le_z (pos 0) y ≡ true) (to_z-of_z w64 (negsuc k) F) t))

-- ---- its 64 bits, and those of its float

pub bits_are_twos : (z : ℤ) → of_z w64 z ≡ twos z
unfolding twos
bits_are_twos (pos n) = refl
bits_are_twos (negsuc k) = refl

-- as the machine gives them
pub bits_as_read : (z : ℤ) → SFits w64 z → of_z w64 (read z) ≡ twos z
bits_as_read z F = ap (of_z w64) (to_z-of_z w64 z F) ∙ bits_are_twos z

pub float_turned : (z : ℤ) → SFits w64 z → le_z (pos 0) (read z) ≡ false
    → 2 ^ 63 + to_bits binary64 (of_int binary64 (pos (nat_abs z))) ≡ to_bits binary64 (of_int binary64 z)
float_turned (pos n) F t =
    absurd (true≢false (sym (leb-zero n) ∙ subst (λ (y : ℤ). le_z (pos 0) y ≡ false) (to_z-of_z w64 (pos n) F) t))
float_turned (negsuc k) F t = sym (sign_is_a_bit k)
