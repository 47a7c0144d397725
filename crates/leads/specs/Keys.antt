-- Texts as keys (document 01, "Text to value", "Text to text"). Assumes nothing: these are definitions.
use Rattle.std.specs.Prelude.{ℕ, zero, suc, ◌+◌, ◌-◌, ◌*◌, ◌/◌, Bool, true, false, cond, List, [], ◌∷◌, eqb, ltb}
use Rattle.common.specs.Text.{text_bytes}
use Rattle.blocks.specs.declared.view.View.{View}
use Rattle.leads.specs.Lead.{lead_at}
use Rattle.leads.specs.declared.lead.Lead.{Lead}
use Rattle.leads.specs.declared.lead.Lead.TheVariants.{Words, Nested, Nil, Elsewhere}

unfoldable pub same_bytes : List ℕ → List ℕ → Bool
same_bytes [] [] = true
same_bytes [] (y ∷ ys) = false
same_bytes (x ∷ xs) [] = false
same_bytes (x ∷ xs) (y ∷ ys) = cond (eqb x y) (same_bytes xs ys) false

-- a reference leads to a text that equals t
abbrev pub is_key : List ℕ → List ℕ → Lead → Bool
is_key img t (Words run) = same_bytes (text_bytes img run.from run.to) t
is_key img t (Nested a) = false
is_key img t Nil = false
is_key img t Elsewhere = false

-- the first of n keys from the j-th on whose text equals t, the keys standing at every stride-th reference; j + n if there is none
unfoldable pub first_text : List ℕ → View → List ℕ → ℕ → ℕ → ℕ → ℕ
first_text img b t stride j zero = j
first_text img b t stride j (suc n) = cond (is_key img t (lead_at img b (stride * j))) j (first_text img b t stride (j + 1) n)

-- text to value: the first reference whose text equals the input; no match: the number of references
unfoldable pub value_key : List ℕ → View → List ℕ → ℕ
value_key img b t = first_text img b t 1 0 b.refs

-- text to text: with r references, (r-1)/2 pairs rounded down (r = 0: none)
unfoldable pub pair_count : View → ℕ
pair_count b = (b.refs - 1) / 2

-- the first equal key: its output; no match: the text at twice the pair count
abbrev pub output_at : ℕ → ℕ → ℕ
output_at j pairs = cond (ltb j pairs) (2 * j + 1) (2 * pairs)

unfoldable pub translated : List ℕ → View → List ℕ → Lead
translated img b t = lead_at img b (output_at (first_text img b t 2 0 (pair_count b)) (pair_count b))
