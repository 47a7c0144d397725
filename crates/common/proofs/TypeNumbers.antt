-- A type's number and the type of a number undo each other. Assumes nothing.
use mathlib.Core.Path.{◌≡◌, refl, ap, ◌∙◌}
use mathlib.Core.List.{List, [], ◌∷◌}
use Prim.Native.Nat.{ℕ, zero, suc, ◌+◌, ◌≤◌}
use native.Mathlib.Omega.{arith}
use lib.ListN.{get_or, get_or-eq_default}
use Rattle.common.specs.Types.{types, type_of, number_of_type}
use Rattle.common.specs.declared.types.ConversionType.{ConversionType}
use Rattle.common.specs.declared.types.ConversionType.TheVariants.{Identity, Linear, Rational, Formula, TableInterpolated, TableNearest, RangeToValue, ValueToText, RangeToText, TextToValue, TextToText, BitGroups, Unknown}

-- the list is numbered upwards from k
abbrev Numbered : ℕ → List ConversionType → Type 0
Numbered k [] = Unit {0}
Numbered k (t ∷ ts) = (number_of_type t ≡ k) × Numbered (suc k) ts

numbered : (ts : List ConversionType) (k n : ℕ) → Numbered k ts → number_of_type (get_or ts n (Unknown (k + n))) ≡ k + n
numbered [] k n h = refl
numbered (t ∷ ts) k zero h = h.0 ∙ omega arith
numbered (t ∷ ts) k (suc n) h =
    let e : k + suc n ≡ suc k + n = omega arith in
    ap (λ (m : ℕ). number_of_type (get_or ts n (Unknown m))) e ∙ numbered ts (suc k) n h.1 ∙ omega arith

pub type_number : (n : ℕ) → number_of_type (type_of n) ≡ n
unfolding type_of
type_number n =
    let e : 0 + n ≡ n = omega arith in
    rw e at (numbered types 0 n (refl, (refl, (refl, (refl, (refl, (refl, (refl, (refl, (refl, (refl, (refl, (refl, tt)))))))))))))

-- but for an unknown type with a number of the twelve, which no number gives
pub number_type : (t : ConversionType) → ((n : ℕ) → t ≡ Unknown n → 12 ≤ n) → type_of (number_of_type t) ≡ t
unfolding type_of
number_type Identity h = refl
number_type Linear h = refl
number_type Rational h = refl
number_type Formula h = refl
number_type TableInterpolated h = refl
number_type TableNearest h = refl
number_type RangeToValue h = refl
number_type ValueToText h = refl
number_type RangeToText h = refl
number_type TextToValue h = refl
number_type TextToText h = refl
number_type BitGroups h = refl
number_type (Unknown n) h = get_or-eq_default types (Unknown n) (h n refl)
