-- For inner contracts: a chunk before and after a step. Assumes nothing: these are definitions.
use Rattle.std.specs.Prelude.{ℕ, ◌+◌, ◌≡◌}
use Rattle.repeats.specs.Scan.{FirstRepeat}
use Rattle.repeats.specs.declared.Chunk.{Chunk}

-- of the same texts, from the same index on
abbrev pub SameTexts : Chunk → Chunk → Type 0
SameTexts x y = (x.image ≡ y.image) × (x.b ≡ y.b) × (x.start ≡ y.start)

-- the chunk's own texts gone through up to r, which have their numbers
pub record Filled (x y : Chunk) (stop r : ℕ) : Type 0 where
  pub same : SameTexts x y
  pub first : FirstRepeat y.image.now y.b y.start stop stop r
  pub numbers : r + 1 ≡ y.start + y.count
