-- The types of a conversion and their numbers (document 01, "Types (S)"). Assumes nothing: these are definitions.
use Rattle.std.specs.Prelude.{ℕ, List, [], ◌∷◌, get_or}
use Rattle.common.specs.declared.types.ConversionType.{ConversionType}
use Rattle.common.specs.declared.types.ConversionType.TheVariants.{Identity, Linear, Rational, Formula, TableInterpolated, TableNearest, RangeToValue, ValueToText, RangeToText, TextToValue, TextToText, BitGroups, Unknown}

-- the twelve types, from number 0 on
abbrev pub types : List ConversionType
types =
    Identity
    ∷ Linear
    ∷ Rational
    ∷ Formula
    ∷ TableInterpolated
    ∷ TableNearest
    ∷ RangeToValue
    ∷ ValueToText
    ∷ RangeToText
    ∷ TextToValue
    ∷ TextToText
    ∷ BitGroups
    ∷ []

-- the type of a number; a number past the twelve is unknown, and kept
unfoldable pub type_of : ℕ → ConversionType
type_of n = get_or types n (Unknown n)

abbrev pub number_of_type : ConversionType → ℕ
number_of_type Identity = 0
number_of_type Linear = 1
number_of_type Rational = 2
number_of_type Formula = 3
number_of_type TableInterpolated = 4
number_of_type TableNearest = 5
number_of_type RangeToValue = 6
number_of_type ValueToText = 7
number_of_type RangeToText = 8
number_of_type TextToValue = 9
number_of_type TextToText = 10
number_of_type BitGroups = 11
number_of_type (Unknown n) = n
