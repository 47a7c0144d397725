-- The bits of the float nearest to a whole number, as `nearest_bits` adds them up: the exponent's field, from the count of leading zeros, and the 53
-- leading digits, rounded. That a negative number has one bit more, and that none of these bits are a NaN's. Assumes nothing.
use Rattle.std.proofs.Common.{◌≡◌, ℕ, zero, suc, ◌+◌, ◌-◌, ◌*◌, ◌/◌, ◌%◌, ◌^◌, ◌<◌, ◌≤◌, Bool, true, false, cond, not, T, ltb, ℤ, pos, negsuc, sym, refl, ap, ◌∙◌, subst, ⊎_elim, true≢false, le_trans, le_of_eq, lt_of_le_of_lt, le_of_lt, mul-le-mul_right, mul_assoc, suc-add, eq-or-lt_of_le, mul-le-mul_left, mul-pos, one-mul, lt_of_not-le, zero-add, not-le_of_lt, div-one, mul-div_cancel, arith, lit<, lit≤, eqb→eq, leb→le, pow_pos, pow_mono, pow-add, shl_lt}
use Prim.Native.Nat.{compare, Ordering}
use native.Mathlib.Nat.{add-sub_cancel_left, pow-succ'}
use lib.Dec.{is_le, compare_is_eq, nleb→lt}
use lib.Count.{count_leading_zeros, leading_top}
use lib.Ieee.{Float, nan, inf, fin, binary64, is_nan, nan_bits, nearest, odd, units, round, of_int, of_bits, to_bits, size, down}
use lib.Ieee.Bits.{of_bits-to_bits, nan_bits_is}
use lib.Ieee.Digits.{size-lt, size-le}
use lib.Ieee.Exact.{HasValue}
use lib.Ieee.Fits.{down_pos, nearest-le, round_is, of_int-fits}
use lib.Ieee.Nearest.{closest, closest_same, nearest-ge}
use lib.Ieee.Order.{drop, kept}
use lib.Ieee.Scale.{grid, overflow, round_val}
use Rattle.floats.proofs.Nan.{not_true}

-- ---- a rounding by 2048, by what is dropped

by_order : (q a b : ℕ) → (a < b → nearest q (compare a b) ≡ q) × (b < a → nearest q (compare a b) ≡ suc q)
by_order q a b = go (compare a b) (leb→le a b) (nleb→lt a b) (eqb→eq a b)
  where
    go : (o : Ordering) → (T (is_le o) → a ≤ b) → (T (not (is_le o)) → b < a) → (T (compare_is_eq o) → a ≡ b) → (a < b → nearest q o ≡ q) × (b < a → nearest q o ≡ suc q)
    go Ordering.lt h k e = (λ l. refl, λ g. absurd (not-le_of_lt g (h tt)))
    go Ordering.eq h k e = (λ l. absurd (not-le_of_lt l (le_of_eq (sym (e tt)))), λ g. absurd (not-le_of_lt g (h tt)))
    go Ordering.gt h k e = (λ l. absurd (not-le_of_lt l (le_of_lt (k tt))), λ g. refl)

pub rounded_down : (m : ℕ) → m % 2048 < 1024 → closest m 2048 ≡ m / 2048
rounded_down m h = (by_order (m / 2048) (m % 2048 * 2) 2048).0 (omega arith)

pub rounded_up : (m : ℕ) → 1024 < m % 2048 → closest m 2048 ≡ suc (m / 2048)
rounded_up m h = (by_order (m / 2048) (m % 2048 * 2) 2048).1 (omega arith)

pub tie_to_even : (m : ℕ) → m % 2048 ≡ 1024 → closest m 2048 ≡ m / 2048 + m / 2048 % 2
tie_to_even m h = rw h

-- ---- the digits of a number

size_is : (n j : ℕ) → 2 ^ j ≤ n → n < 2 ^ suc j → size n ≡ suc j
size_is n j a b =
    let up : size n ≤ suc j = size-le n (suc j) b in
    let low : j < size n = lt_of_not-le (λ (g : size n ≤ j). not-le_of_lt (size-lt n) (le_trans (pow_mono g) a)) in
    omega arith

size_shifted : (n j k : ℕ) → 2 ^ j ≤ n → n < 2 ^ suc j → size (n * 2 ^ k) ≡ suc j + k
size_shifted n j k a b =
    let e : suc j + k ≡ suc (j + k) = suc-add j k in
    size_is (n * 2 ^ k) (j + k) (le_trans (le_of_eq (pow-add 2 j k)) (mul-le-mul_right (2 ^ k) a)) (subst (λ (i : ℕ). n * 2 ^ k < 2 ^ i) e (shl_lt (suc j) k b))
    ∙ sym e

-- ---- the bits of g units of the smallest float

-- the exponent's field says how many digits are dropped, and the 53 that are left are added to it
abbrev fields : ℕ → ℕ
fields g = (size g - 53) * 2 ^ 52 + g / 2 ^ (size g - 53)

bits_of_units : (x : Float) (g : ℕ) → HasValue x false g (2 ^ 1074) → to_bits binary64 x ≡ fields g
unfolding to_bits
bits_of_units nan g h = absurd h
bits_of_units (inf s) g h = absurd h
bits_of_units (fin true m e) g h = absurd (true≢false h.0)
bits_of_units (fin false m e) g h =
    ap (λ (n : ℕ). 0 + (size n - 53) * 2 ^ 52 + n / 2 ^ (size n - 53)) (ap (λ (n : ℕ). n / down e) h.1 ∙ mul-div_cancel g (down_pos e))
    ∙ ap (λ (n : ℕ). n + g / 2 ^ (size g - 53)) (zero-add ((size g - 53) * 2 ^ 52))

at_53_digits : (q k : ℕ) → 2 ^ 52 ≤ q → q < 2 ^ 53 → fields (q * 2 ^ k) ≡ k * 2 ^ 52 + q
at_53_digits q k a b =
    let s : size (q * 2 ^ k) - 53 ≡ k = ap (λ (s : ℕ). s - 53) (size_shifted q 52 k a b) ∙ add-sub_cancel_left 53 k in
    ap (λ (s : ℕ). s * 2 ^ 52 + q * 2 ^ k / 2 ^ s) s ∙ ap (λ (d : ℕ). k * 2 ^ 52 + d) (mul-div_cancel q (pow_pos k))

-- where rounding has reached 2 ^ 53, the digits are those of 2 ^ 52 and one more is dropped: the carry has run into the field
at_the_next_power : (k : ℕ) → fields (2 ^ 53 * 2 ^ k) ≡ k * 2 ^ 52 + 2 ^ 53
at_the_next_power k =
    ap (λ (g : ℕ). fields g) (mul_assoc (2 ^ 52) 2 (2 ^ k) ∙ ap (λ (x : ℕ). 2 ^ 52 * x) (sym (pow-succ' 2 k)))
    ∙ at_53_digits (2 ^ 52) (suc k) (lit≤ tt) (lit< tt)
    ∙ omega arith

fields_are : (q k : ℕ) → 2 ^ 52 ≤ q → q ≤ 2 ^ 53 → fields (q * 2 ^ k) ≡ k * 2 ^ 52 + q
fields_are q k a b =
    ⊎_elim (λ (e : q ≡ 2 ^ 53). subst (λ (d : ℕ). fields (d * 2 ^ k) ≡ k * 2 ^ 52 + d) (sym e) (at_the_next_power k)) (at_53_digits q k a) (eq-or-lt_of_le b)

-- ---- n, moved up by its leading zeros

abbrev lead : ℕ → ℕ
lead n = count_leading_zeros 64 n

-- its leading one is the highest of 64 bits, and no bit is lost
pub moved_up : (n : ℕ) → 0 < n → n < 2 ^ 64 → (2 ^ 63 ≤ n * 2 ^ lead n) × (n * 2 ^ lead n < 2 ^ 64) × (lead n < 64)
moved_up n p h =
    let t = leading_top 64 n p h in
    let z = lead n in
    let w : t.0 + z ≡ 63 = omega (arith, t.1) in (
      le_trans (le_of_eq (ap (λ (x : ℕ). 2 ^ x) (sym w) ∙ pow-add 2 t.0 z)) (mul-le-mul_right (2 ^ z) t.2),
      subst (λ (x : ℕ). n * 2 ^ z < 2 ^ x) (let v : suc t.0 + z ≡ 64 = omega (arith, t.1) in v) (shl_lt (suc t.0) z t.3),
      omega (arith, t.1),
    )

-- of these 64 bits the upper 53, rounded
pub digits_fit : (n : ℕ) → 0 < n → n < 2 ^ 64 → (2 ^ 52 ≤ closest (n * 2 ^ lead n) 2048) × (closest (n * 2 ^ lead n) 2048 ≤ 2 ^ 53)
digits_fit n p h =
    let m = n * 2 ^ lead n in
    let t = moved_up n p h in
    let g : m / 2048 ≤ closest m 2048 = nearest-ge (m / 2048) (compare (m % 2048 * 2) 2048) in
    let l : closest m 2048 ≤ suc (m / 2048) = nearest-le (m / 2048) (compare (m % 2048 * 2) 2048) in
    (omega (arith, t.0), omega (arith, t.1))

-- rounding n in units of the smallest float by 2 ^ k is rounding these 64 bits by 2048
same_fraction : (n z k : ℕ) → z + k ≡ 1085 → n * 2 ^ 1074 * 2048 ≡ n * 2 ^ z * (1 * 2 ^ k)
same_fraction n z k e =
    mul_assoc n (2 ^ 1074) 2048
    ∙ ap (λ (x : ℕ). n * x) (ap (λ (x : ℕ). 2 ^ x) (sym e) ∙ pow-add 2 z k ∙ ap (λ (x : ℕ). 2 ^ z * x) (sym (one-mul (2 ^ k))))
    ∙ sym (mul_assoc n (2 ^ z) (1 * 2 ^ k))

rounded_units : (n : ℕ) → 0 < n → n < 2 ^ 64 → grid binary64 n 1 ≡ closest (n * 2 ^ lead n) 2048 * 2 ^ (1085 - lead n)
rounded_units n p h =
    let t = leading_top 64 n p h in
    let z = lead n in
    let s : size (n * 2 ^ 1074 / 1) ≡ suc t.0 + 1074 = ap size (div-one (n * 2 ^ 1074)) ∙ size_shifted n t.0 1074 t.2 t.3 in
    let k : size (n * 2 ^ 1074 / 1) - 53 ≡ 1085 - z = omega (arith, s, t.1) in
    let e : z + (1085 - z) ≡ 1085 = omega (arith, t.1) in
    ap (λ (d : ℕ). closest (n * 2 ^ 1074) (1 * 2 ^ d) * 2 ^ d) k
    ∙ ap (λ (q : ℕ). q * 2 ^ (1085 - z))
    (closest_same (n * 2 ^ 1074) (1 * 2 ^ (1085 - z)) (n * 2 ^ z) 2048 (mul-pos (lit< tt) (pow_pos (1085 - z))) (lit< tt) (same_fraction n z (1085 - z) e))

-- what the code adds up is the float's bits
pub bits_of_whole : (n : ℕ) → 0 < n → n < 2 ^ 64
    → (1085 - lead n) * 2 ^ 52 + closest (n * 2 ^ lead n) 2048 ≡ to_bits binary64 (of_int binary64 (pos n))
unfolding of_int
bits_of_whole n p h =
    let q = closest (n * 2 ^ lead n) 2048 in
    let k = 1085 - lead n in
    let d = digits_fit n p h in
    let u = rounded_units n p h in
    let k-le : k ≤ 1085 = omega arith in
    let under : q * 2 ^ k < overflow binary64 = lt_of_le_of_lt (le_trans (mul-le-mul_right (2 ^ k) d.1) (mul-le-mul_left (2 ^ 53) (pow_mono k-le))) (lit< tt) in
    sym
    (bits_of_units (round binary64 false n 1) (grid binary64 n 1) (round_val binary64 n 1 (subst (λ (g : ℕ). g < overflow binary64) (sym u) under))
    ∙ ap (λ (g : ℕ). fields g) u
    ∙ fields_are q k d.0 d.1)

pub bits_of_zero : 0 ≡ to_bits binary64 (of_int binary64 (pos 0))
unfolding to_bits of_int
bits_of_zero = refl

-- ---- a negative number has one bit more

sign_of_units : (q k : ℕ) → to_bits binary64 (units binary64 true q k) ≡ 2 ^ 63 + to_bits binary64 (units binary64 false q k)
unfolding units odd to_bits
sign_of_units q k = go (ltb (q * 2 ^ k) (overflow binary64)) q
  where
    go : (b : Bool) (q : ℕ) → to_bits binary64 (cond b (odd 54 true q k 1074) (inf true)) ≡ 2 ^ 63 + to_bits binary64 (cond b (odd 54 false q k 1074) (inf false))
    go true zero = refl
    go true (suc q) = omega arith
    go false q = refl

pub sign_is_a_bit : (n : ℕ) → to_bits binary64 (of_int binary64 (negsuc n)) ≡ 2 ^ 63 + to_bits binary64 (of_int binary64 (pos (suc n)))
unfolding of_int
sign_is_a_bit n =
    let m = suc n * 2 ^ 1074 in
    ap (to_bits binary64) (round_is binary64 true (suc n) 1)
    ∙ sign_of_units (kept 53 m 1) (drop 53 m 1)
    ∙ ap (λ (x : Float). 2 ^ 63 + to_bits binary64 x) (sym (round_is binary64 false (suc n) 1))

-- ---- the bits read as a float

no_nan : (s : Bool) (n : ℕ) → is_nan (round binary64 s n 1) ≡ false
unfolding units odd is_nan
no_nan s n =
    let m = n * 2 ^ 1074 in
    let k = drop 53 m 1 in
    ap is_nan (round_is binary64 s n 1) ∙ go k (ltb (kept 53 m 1 * 2 ^ k) (overflow binary64)) (kept 53 m 1)
  where
    go : (k : ℕ) (b : Bool) (q : ℕ) → is_nan (cond b (odd 54 s q k 1074) (inf s)) ≡ false
    go k true zero = refl
    go k true (suc q) = refl
    go k false q = refl

of_int_lem : (z : ℤ) → is_nan (of_int binary64 z) ≡ false
unfolding of_int
of_int_lem (pos n) = no_nan false n
of_int_lem (negsuc n) = no_nan true (suc n)

pub read_as : (b : ℕ) (z : ℤ) → b ≡ to_bits binary64 (of_int binary64 z) → of_bits binary64 b ≡ of_int binary64 z
read_as b z e = ap (of_bits binary64) e ∙ of_bits-to_bits binary64 (of_int binary64 z) (of_int-fits binary64 z)

pub no_nan_read : (b : ℕ) (z : ℤ) → b ≡ to_bits binary64 (of_int binary64 z) → T (not (nan_bits binary64 b))
no_nan_read b z e = not_true (nan_bits binary64 b) (nan_bits_is binary64 b ∙ ap is_nan (read_as b z e) ∙ of_int_lem z)
