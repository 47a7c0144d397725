-- Little-endian numbers in a list of bytes (document 01, "Bytes of a block": "All numbers are little-endian"), a part of a list, and bytes put into
-- one. Assumes nothing: these are definitions.
use Rattle.std.specs.Prelude.{ℕ, zero, suc, ◌+◌, ◌-◌, ◌*◌, ◌/◌, ◌%◌, ◌≤◌, List, [], ◌∷◌, ◌++◌, length, get_or, set, take, drop, replicate, Float}
use Rattle.std.specs.Float.{binary64}
use Rattle.std.specs.Float.Ieee.{of_bits}

-- the number that stands at a place: each is made of its two halves
unfoldable pub word16 : List ℕ → ℕ → ℕ
word16 s at = get_or s at 0 + get_or s (at + 1) 0 * 256

unfoldable pub word32 : List ℕ → ℕ → ℕ
word32 s at = word16 s at + word16 s (at + 2) * 65536

unfoldable pub word64 : List ℕ → ℕ → ℕ
word64 s at = word32 s at + word32 s (at + 4) * 4294967296

-- the f64 that stands at a place
unfoldable pub value_at : List ℕ → ℕ → Float
value_at s at = of_bits binary64 (word64 s at)

-- the n numbers of 64 bits from a place on
unfoldable pub words : List ℕ → ℕ → ℕ → List ℕ
words s at zero = []
words s at (suc n) = word64 s at ∷ words s (at + 8) n

-- the bytes of a number
abbrev pub bytes2 : ℕ → List ℕ
bytes2 v = v % 256 ∷ v / 256 % 256 ∷ []

abbrev pub bytes4 : ℕ → List ℕ
bytes4 v = bytes2 (v % 65536) ++ bytes2 (v / 65536)

abbrev pub bytes8 : ℕ → List ℕ
bytes8 v = bytes4 (v % 4294967296) ++ bytes4 (v / 4294967296)

-- the bytes of numbers of 64 bits, one behind the other
unfoldable pub links : List ℕ → List ℕ
links [] = []
links (v ∷ vs) = bytes8 v ++ links vs

-- so many zero bytes
abbrev pub zeros : ℕ → List ℕ
zeros n = replicate n 0

-- the part of a list from a place up to another, and that it lies in the list
abbrev pub part : List ℕ → ℕ → ℕ → List ℕ
part s from to = take (to - from) (drop from s)

abbrev pub PartIn : List ℕ → ℕ → ℕ → Type 0
PartIn s from to = (from ≤ to) × (to ≤ length s)

-- the list with bs put in from a place on; what passes its end is lost
unfoldable pub put : List ℕ → ℕ → List ℕ → List ℕ
put out at [] = out
put out at (b ∷ bs) = put (set out at b) (at + 1) bs
