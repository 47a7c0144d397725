-- The texts of a block's references, and the first of them that is equal to an earlier one (request [7]: "13 Repeated for a text or key equal to an
-- earlier one"). Assumes nothing: these are definitions.
use Rattle.std.specs.Prelude.{ℕ, zero, suc, ◌+◌, Bool, false, ◌||◌, cond, List, []}
use Rattle.common.specs.Text.{text_bytes}
use Rattle.blocks.specs.declared.view.View.{View}
use Rattle.leads.specs.Lead.{lead_at}
use Rattle.leads.specs.Keys.{same_bytes}
use Rattle.leads.specs.declared.lead.Lead.{Lead}
use Rattle.leads.specs.declared.lead.Lead.TheVariants.{Words, Nested, Nil, Elsewhere}

-- the text that a reference leads to; no text is as an empty one
abbrev pub lead_text : List ℕ → Lead → List ℕ
lead_text img (Words run) = text_bytes img run.from run.to
lead_text img (Nested a) = []
lead_text img Nil = []
lead_text img Elsewhere = []

-- the text of the i-th reference
unfoldable pub text_at : List ℕ → View → ℕ → List ℕ
text_at img b i = lead_text img (lead_at img b i)

-- one of the first n texts is equal to the i-th
unfoldable pub text_among : List ℕ → View → ℕ → ℕ → Bool
text_among img b i zero = false
text_among img b i (suc n) = text_among img b i n || same_bytes (text_at img b n) (text_at img b i)

-- the i-th text is equal to an earlier one
abbrev pub text_repeated : List ℕ → View → ℕ → Bool
text_repeated img b i = text_among img b i i

-- the first index from i on, of n, that p holds of; i + n if there is none
unfoldable pub first_of : (ℕ → Bool) → ℕ → ℕ → ℕ
first_of p i zero = i
first_of p i (suc n) = cond (p i) i (first_of p (i + 1) n)
