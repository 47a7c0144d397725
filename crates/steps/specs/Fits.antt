-- What is known of a whole block that is seen in an image; for inner contracts. Assumes nothing: a definition.
use Rattle.std.specs.Prelude.{ℕ, ◌+◌, ◌*◌, ◌≤◌, List}
use Rattle.std.proofs.Math.ListN as ListN
use Rattle.blocks.specs.declared.view.View.{View}

-- the values lie in the image, and there are no more references than it has bytes
abbrev pub Fits : List ℕ → View → Type 0
Fits img b = (b.firstval + b.valcount * 8 ≤ ListN.length img) × (b.refs ≤ ListN.length img)
