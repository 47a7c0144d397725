-- What a run of writes leaves in a lent output (for inner contracts). Assumes nothing: these are definitions.
use Rattle.std.specs.Prelude.{◌≡◌, List, ℕ, ◌+◌, ◌≤◌, ◌<◌, min, length, get_or}
use Rattle.pieces.specs.declared.paste.Place.{Place}

-- a place in an output of so much room, which stops one behind it
abbrev pub sat : ℕ → ℕ → ℕ
sat room n = min n (room + 1)

-- a count of visits, which stops at the largest u32
abbrev pub sat32 : ℕ → ℕ
sat32 n = min n 4294967295

-- o became p: the text t stands in it from pos on, as far as lim; what is below pos, and what is from lim on, is as it was.
-- Nothing is said of what lies behind the text and below lim.
pub record Wrote (o p : List ℕ) (pos lim : ℕ) (t : List ℕ) : Type 0 where
  pub same : length p ≡ length o
  pub below : (i : ℕ) → i < pos → get_or p i 0 ≡ get_or o i 0
  pub above : (i : ℕ) → lim ≤ i → get_or p i 0 ≡ get_or o i 0
  pub text : (i : ℕ) → i < length t → pos + i < lim → get_or p (pos + i) 0 ≡ get_or t i 0

-- a place lies in an output, or one behind it, and its limit in it
abbrev pub PlaceIn : List ℕ → Place → Type 0
PlaceIn o at = (at.lim ≤ length o) × (at.pos ≤ length o + 1)

-- the same, and r is the place behind the text, or one behind the room, with the same limit
pub record Put (o p : List ℕ) (at : Place) (t : List ℕ) (r : Place) : Type 0 where
  pub end : r.pos ≡ sat (length o) (at.pos + length t)
  pub limit : r.lim ≡ at.lim
  pub wrote : Wrote o p at.pos at.lim t
