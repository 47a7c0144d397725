-- A block's values as a list of floats, read from the image by place; and the operations on them, each rounded once.
-- Assumes nothing: these are definitions.
use Rattle.std.specs.Prelude.{ℕ, zero, suc, ◌+◌, List, [], ◌∷◌, Float}
use Rattle.std.specs.Float.{binary64}
use Rattle.std.specs.Float.Ieee.{add, sub, mul, div}
use Rattle.words.specs.Words.{value_at}

-- n values from place p on
unfoldable pub values : List ℕ → ℕ → ℕ → List Float
values img p zero = []
values img p (suc n) = value_at img p ∷ values img (p + 8) n

abbrev pub plus : Float → Float → Float
plus = add binary64

abbrev pub minus : Float → Float → Float
minus = sub binary64

abbrev pub times : Float → Float → Float
times = mul binary64

abbrev pub over : Float → Float → Float
over = div binary64
