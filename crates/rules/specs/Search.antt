-- The searches of types 7 and 8 (document 01, "Value to text", "Range to text"), over the list of a block's values. That a malformed table is told
-- is request [5]. Assumes nothing: these are definitions.
use Rattle.std.specs.Prelude.{ℕ, suc, ◌/◌, ◌%◌, List, [], ◌∷◌, Bool, true, false, ◌||◌, cond, length, ltb, eqb, Float}
use Rattle.std.specs.Float.Ieee.{eq}
use Rattle.rules.specs.Table.{holds}
use Rattle.rules.specs.declared.search.Searched.{Searched}
use Rattle.rules.specs.declared.search.Searched.TheVariants.{Matched, Unmatched, Malformed}

-- the index whose reference decides: of a malformed table it is 0
abbrev pub deciding : Searched → ℕ
deciding (Matched i) = i
deciding (Unmatched i) = i
deciding (Malformed matched) = 0

-- whether that counts as a match; a malformed table says so itself
abbrev pub is_match : Searched → Bool
is_match (Matched i) = true
is_match (Unmatched i) = false
is_match (Malformed matched) = matched

abbrev pub is_malformed : Searched → Bool
is_malformed (Matched i) = false
is_malformed (Unmatched i) = false
is_malformed (Malformed matched) = true

-- an index below n is a match
abbrev pub searched : ℕ → ℕ → Searched
searched i n = cond (ltb i n) (Matched i) (Unmatched i)

-- value to text: index of the first value equal to x, else the number of values
unfoldable pub first_key : List Float → Float → ℕ
first_key [] x = 0
first_key (k ∷ ks) x = cond (eq k x) 0 (suc (first_key ks x))

unfoldable pub key_search : List Float → Float → Searched
key_search vs x = searched (first_key vs x) (length vs)

-- how many ranges stand before the first that holds x; all of them if none does
unfoldable pub first_range : Bool → List Float → Float → ℕ
first_range whole (low ∷ high ∷ vs) x = cond (holds whole low high x) 0 (suc (first_range whole vs x))
first_range whole (low ∷ []) x = 0
first_range whole [] x = 0

-- range to text, as document 01 has it: n is half the length rounded down. Length 0, 1 or odd: index 0. Else the first range that holds x, or n.
-- Matched means index < n. The search decides by this index and this match: `same_index`, `same_match`
unfoldable pub range_index : Bool → List Float → Float → ℕ
range_index whole vs x = cond (eqb (length vs % 2) 1) 0 (first_range whole vs x)

-- a table of ranges is malformed: length 0, 1 or odd
abbrev pub malformed : ℕ → Bool
malformed n = ltb n 2 || eqb (n % 2) 1

-- range to text in three ways: matched at an index, no match, or malformed, which counts as a match from length 3 on
unfoldable pub range_search : Bool → List Float → Float → Searched
range_search whole vs x = cond (malformed (length vs)) (Malformed (ltb 2 (length vs))) (searched (first_range whole vs x) (length vs / 2))
