-- Where a reference leads (document 01, "Applying": ".. the reference at the index then decides. A text: that text. A conversion: ..").
-- Assumes nothing: these are definitions.
use Rattle.std.specs.Prelude.{ℕ, ◌+◌, ◌≤◌, cond, List, eqb, length, None, Option, Some}
use Rattle.words.specs.Words.{PartIn}
use Rattle.common.specs.Header.{inside, is_conversion}
use Rattle.common.specs.Text.{run_of}
use Rattle.blocks.specs.View.{reference_in}
use Rattle.blocks.specs.declared.view.View.{View}
use Rattle.leads.specs.declared.lead.Lead.{Lead}
use Rattle.leads.specs.declared.lead.Lead.TheVariants.{Words, Nested, Nil, Elsewhere}
use Rattle.common.specs.declared.text.Span.{Span}

unfoldable pub nested_at : List ℕ → ℕ → Lead
nested_at img link = cond (inside img link) (cond (is_conversion img link) (Nested link) Elsewhere) Elsewhere

abbrev pub by_text : Option Span → Lead → Lead
by_text (Some run) l = Words run
by_text None l = l

-- zero is NIL; a text, which is told by where it may run; a conversion; else elsewhere
unfoldable pub lead_of : List ℕ → ℕ → Lead
lead_of img link = cond (eqb link 0) Nil (by_text (run_of img link) (nested_at img link))

abbrev pub by_link : List ℕ → Option ℕ → Lead
by_link img (Some link) = lead_of img link
by_link img None = Nil

-- a missing reference is as NIL
unfoldable pub lead_at : List ℕ → View → ℕ → Lead
lead_at img b i = by_link img (reference_in img b i)

-- the text, or the header of the conversion, that a reference leads to lies in the image
abbrev pub LeadIn : List ℕ → Lead → Type 0
LeadIn img (Words run) = PartIn img run.from run.to
LeadIn img (Nested a) = a + 24 ≤ length img
LeadIn img Nil = Unit {0}
LeadIn img Elsewhere = Unit {0}
