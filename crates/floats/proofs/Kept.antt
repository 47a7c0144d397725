-- Laws of `kept_bits`: what it is in each case, that it reads back as the float, and that of a float that was read it is the word read.
-- Assumes nothing.
use Rattle.std.proofs.Common.{◌≡◌, ℕ, ◌^◌, ◌<◌, Bool, true, false, cond, ◌&&◌, T, sym, refl, ◌∙◌, subst}
use lib.Ieee.{Float, binary64, is_nan, nan_bits, of_bits, to_bits, fits}
use lib.Ieee.Bits.{of_bits-to_bits, to_bits-of_bits, to_bits-lt, nan_bits_is}
use Rattle.floats.specs.Kept.{kept_bits}
use Rattle.floats.proofs.Nan.{one_nan, nan_of_pattern, not_true}

pub kept_word : (x : Float) (w : ℕ) → is_nan x ≡ true → nan_bits binary64 w ≡ true → kept_bits x w ≡ w
unfolding kept_bits
kept_word x w p q = rw (p, q)

pub own_if_plain : (x : Float) (w : ℕ) → nan_bits binary64 w ≡ false → kept_bits x w ≡ to_bits binary64 x
unfolding kept_bits
own_if_plain x w q = go (is_nan x)
  where
    go : (b : Bool) → cond (b && nan_bits binary64 w) w (to_bits binary64 x) ≡ to_bits binary64 x
    go true = rw q
    go false = refl

pub own_if_number : (x : Float) (w : ℕ) → is_nan x ≡ false → kept_bits x w ≡ to_bits binary64 x
unfolding kept_bits
own_if_number x w p = rw p

-- which of the three it is
cases : (P : ℕ → Type 0) (x : Float) (w : ℕ) → (is_nan x ≡ true → nan_bits binary64 w ≡ true → P w) → P (to_bits binary64 x) → P (kept_bits x w)
cases P x w its own = go (is_nan x) (nan_bits binary64 w) refl refl
  where
    go : (b d : Bool) → is_nan x ≡ b → nan_bits binary64 w ≡ d → P (kept_bits x w)
    go true true p q = subst P (sym (kept_word x w p q)) (its p q)
    go true false p q = subst P (sym (own_if_plain x w q)) own
    go false d p q = subst P (sym (own_if_number x w p)) own

-- what is written for a float reads back as that float
pub kept_reads_back : (x : Float) (w : ℕ) → T (fits binary64 x) → of_bits binary64 (kept_bits x w) ≡ x
kept_reads_back x w f =
    cases (λ (n : ℕ). of_bits binary64 n ≡ x) x w (λ p q. nan_of_pattern w q ∙ sym (one_nan x p)) (of_bits-to_bits binary64 x f)

-- and has 64 bits
pub kept_small : (x : Float) (w : ℕ) → T (fits binary64 x) → w < 2 ^ 64 → kept_bits x w < 2 ^ 64
kept_small x w f h = cases (λ (n : ℕ). n < 2 ^ 64) x w (λ p q. h) (to_bits-lt binary64 x f)

-- of a float that was read from a word it is that word, a NaN's too
pub kept_of_read : (n : ℕ) → n < 2 ^ 64 → kept_bits (of_bits binary64 n) n ≡ n
kept_of_read n h = go (nan_bits binary64 n) refl
  where
    go : (b : Bool) → nan_bits binary64 n ≡ b → kept_bits (of_bits binary64 n) n ≡ n
    go true q = kept_word (of_bits binary64 n) n (sym (nan_bits_is binary64 n) ∙ q) q
    go false q =
        own_if_plain (of_bits binary64 n) n q
        ∙ to_bits-of_bits binary64 n h (not_true (is_nan (of_bits binary64 n)) (sym (nan_bits_is binary64 n) ∙ q))
