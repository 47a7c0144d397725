-- The blocks on the way from the root down to the one at hand, as the code has them. Assumes nothing: a definition.
use Rattle.std.specs.Prelude.{◌≡◌, ℕ, List, take}
use Rattle.tree.specs.declared.path.Path.{Path}

-- their addresses, the root's first
abbrev pub walked : Path → List ℕ
walked p = take p.depth p.addresses

-- a path is left as it was
abbrev pub Same : Path → Path → Type 0
Same p q = (q.depth ≡ p.depth) × (walked q ≡ walked p)
