-- Small images for document 01's cases: blocks in a row, each with its references and nothing else. Assumes nothing: these are definitions.
use Rattle.std.specs.Prelude.{ℕ, zero, suc, ◌+◌, ◌*◌, List, [], ◌∷◌, ◌++◌, length, replicate}
use Rattle.words.specs.Words.{bytes4, bytes8, links}
use Rattle.common.specs.Header.{conversion_id}

-- a block with these references: NIL fixed links, type 0, no range, no values
unfoldable pub bare : List ℕ → List ℕ
bare refs =
    bytes4 conversion_id ++ bytes4 0 ++ bytes8 (64 + 8 * length refs) ++ bytes8 (4 + length refs) ++ replicate 32 0 ++ links refs ++ replicate 8 0

-- a root at 0 with two references to one leaf at 80
unfoldable pub two_links : List ℕ
two_links = bare (80 ∷ 80 ∷ []) ++ bare []

-- n blocks and one more in a row from `at` on, each but the last with a reference to the next
unfoldable pub chain : ℕ → ℕ → List ℕ
chain zero at = bare (0 ∷ [])
chain (suc n) at = bare ((at + 72) ∷ []) ++ chain n (at + 72)
