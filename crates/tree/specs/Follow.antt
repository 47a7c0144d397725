-- What the inner contracts of the walk speak of: the path, one reference of a block, and what is remembered of one. Assumes nothing: these are
-- definitions.
use Rattle.std.specs.Prelude.{◌≡◌, true, List, ℕ, length, Err, Ok, Result}
use Rattle.common.specs.Header.{inside, is_conversion}
use Rattle.tree.specs.Walk.{Walk, complete, on, classed, followed, walk, answer}
use Rattle.tree.specs.declared.Tally.{Tally}
use Rattle.common.specs.declared.refusal.Refusal.{Refusal}

-- each address on the path is a ##CC block's
abbrev pub Standing : List ℕ → List ℕ → Type 0
Standing img path = (r : ℕ) → on r path ≡ true → (inside img r ≡ true) × (is_conversion img r ≡ true)

-- the walk of one reference of the block that path ends with, with d levels left below it
unfoldable pub reached : ℕ → List ℕ → List ℕ → ℕ → Walk
reached d img path r = followed (walk d img path) (classed img path r) r

-- the walk of the remembered reference is complete, and begins as many visits as it is said to cost
abbrev pub Known : ℕ → List ℕ → List ℕ → Tally → Type 0
Known d img path t = ((reached d img path t.last).ending ≡ complete) × (length (reached d img path t.last).visits ≡ t.cost)

-- after v visits, with the limit l, the walk of a reference is answered by this step
abbrev pub Led : ℕ → List ℕ → List ℕ → ℕ → ℕ → ℕ → Result Tally Refusal → Type 0
Led d img path r l v (Ok t) = (answer l v (reached d img path r) ≡ Ok t.visits) × Known d img path t
Led d img path r l v (Err x) = answer l v (reached d img path r) ≡ Err x
