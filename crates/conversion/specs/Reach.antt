-- Which blocks an application reaches (demand 3: "If no bit-group block is reached"), and which of them have a malformed table (request [5]: "whether a
-- malformed table was consulted"). Assumes nothing: these are definitions.
use Rattle.std.specs.Prelude.{◌≡◌, Bool, true, false, ◌&&◌, ◌||◌, List, [], ◌∷◌, ℕ, eqb, None, Option, Some}
use Rattle.blocks.specs.Block.{block_at}
use Rattle.blocks.specs.declared.Block.{Block}
use Rattle.rules.specs.Numbers.{taken}
use Rattle.rules.specs.Search.{malformed}
use Rattle.rules.specs.declared.number.Value.{Value}
use Rattle.rules.specs.declared.number.Taken.{Taken}

-- none of the blocks has type 11
unfoldable pub NoGroups : List ℕ → List ℕ → Type 0
NoGroups img [] = Unit {0}
NoGroups img (a ∷ rest) = ((block_at img a).kind ≡ 11 → ⊥) × NoGroups img rest

-- a type 8 block whose table is malformed
abbrev pub has_malformed : Block → Bool
has_malformed b = eqb b.kind 8 && malformed b.valcount

-- one of the blocks is such a block
unfoldable pub some_malformed : List ℕ → List ℕ → Bool
some_malformed img [] = false
some_malformed img (a ∷ rest) = has_malformed (block_at img a) || some_malformed img rest

abbrev pub has_number : Option Taken → Bool
has_number (Some t) = true
has_number None = false

-- one of the blocks begun was begun with a number, and is such a block. A value that is no number begins the root alone (`alone`); and from a number
-- types 7 and 8 hand on that number, and bit groups an integer, so that every block has one
abbrev pub consulted : List ℕ → Value → List ℕ → Bool
consulted img v begun = has_number (taken v) && some_malformed img begun
