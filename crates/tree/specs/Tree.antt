-- The unfolded conversion tree, with no path and no limit: how many blocks it has, repeats included, and that each is whole and has the four fixed
-- links (demand 3; request [11]). Assumes nothing: these are definitions.
use Rattle.std.specs.Prelude.{◌≡◌, Bool, true, false, cond, ℕ, zero, suc, ◌+◌, ◌≤◌, List, [], ◌∷◌, eqb, Ok}
use Rattle.common.specs.Header.{inside, is_conversion}
use Rattle.blocks.specs.Block.{opened, block_at}
use Rattle.blocks.specs.Place.{references}

-- the reference r leads to a block of the tree
unfoldable pub leads_in : List ℕ → ℕ → Bool
leads_in img r = cond (eqb r 0) false (cond (inside img r) (is_conversion img r) false)

-- the sum over the references that lead to a block
unfoldable pub sizes : (ℕ → ℕ) → (ℕ → Bool) → List ℕ → ℕ
sizes g k [] = 0
sizes g k (r ∷ rs) = cond (k r) (g r) 0 + sizes g k rs

-- the blocks of the tree at a, down to d levels
unfoldable pub size : ℕ → List ℕ → ℕ → ℕ
size zero img a = 0
size (suc d) img a = 1 + sizes (size d img) (leads_in img) (references img (block_at img a))

-- P holds of each reference that leads to a block
unfoldable pub Each : (ℕ → Type 0) → (ℕ → Bool) → List ℕ → Type 0
Each P k [] = Unit {0}
Each P k (r ∷ rs) = (k r ≡ true → P r) × Each P k rs

-- the tree at a has at most d levels, and each block of it has at least four links and is whole
unfoldable pub Sound : ℕ → List ℕ → ℕ → Type 0
Sound zero img a = ⊥
Sound (suc d) img a =
    (4 ≤ (block_at img a).links)
    × (opened img a ≡ Ok (block_at img a))
    × Each (Sound d img) (leads_in img) (references img (block_at img a))
