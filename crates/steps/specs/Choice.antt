-- Types 7 and 8 (document 01: "For types 7 and 8 the reference at the index then decides."), up to the nested block. Assumes nothing: these are
-- definitions.
use Rattle.std.specs.Prelude.{ℕ, ◌+◌, ◌-◌, ◌≤◌, Bool, true, false, cond, List, ltb, length, None, Option, Some}
use Rattle.blocks.specs.declared.view.View.{View}
use Rattle.leads.specs.Lead.{lead_at}
use Rattle.leads.specs.declared.lead.Lead.{Lead}
use Rattle.leads.specs.declared.lead.Lead.TheVariants as lead
use Rattle.rules.specs.Values.{values}
use Rattle.rules.specs.Search.{deciding, is_match, is_malformed, key_search, range_search}
use Rattle.rules.specs.declared.search.Searched.{Searched}
use Rattle.steps.specs.Plain.{PlainIn}
use Rattle.steps.specs.declared.plain.Plain.TheVariants as plain
use Rattle.steps.specs.declared.choice.Choice.{Choice}
use Rattle.steps.specs.declared.choice.Choice.TheVariants.{Nested, Done}
use Rattle.rules.specs.declared.number.Taken.{Taken}

abbrev pub if_conversion : Lead → Choice
if_conversion (lead.Words run) = Done plain.Unchanged
if_conversion (lead.Nested a) = Nested a
if_conversion lead.Nil = Done plain.Unchanged
if_conversion lead.Elsewhere = Done plain.Unchanged

-- the default conversion: the last of more than two references, if it is a ##CC; failing that Unchanged
unfoldable pub last_reference : List ℕ → View → Choice
last_reference img b = cond (ltb 2 b.refs) (if_conversion (lead_at img b (b.refs - 1))) (Done plain.Unchanged)

-- only type 8 has a default conversion
abbrev pub default_of : List ℕ → View → Bool → Choice
default_of img b true = last_reference img b
default_of img b false = Done plain.Unchanged

-- a text: that text; a conversion: it is applied; otherwise matched with NIL or a missing reference: the empty text; otherwise the default
abbrev pub decided : Lead → Bool → Choice → Choice
decided (lead.Words run) matched default = Done (plain.Words run)
decided (lead.Nested a) matched default = Nested a
decided lead.Nil true default = Done (plain.Words (record { from = 0; to = 0 }))
decided lead.Nil false default = default
decided lead.Elsewhere matched default = default

-- the reference at the index decides
abbrev pub by_reference : List ℕ → View → Searched → Bool → Choice
by_reference img b s has_default = decided (lead_at img b (deciding s)) (is_match s) (default_of img b has_default)

-- value to text, and range to text: text is left unchanged, and so is a value of kind "other"
abbrev pub chosen_key : List ℕ → View → Option Taken → Choice
chosen_key img b (Some t) = by_reference img b (key_search (values img b.firstval b.valcount) t.number) false
chosen_key img b None = Done plain.Unchanged

abbrev pub chosen_range : List ℕ → View → Option Taken → Choice
chosen_range img b (Some t) = by_reference img b (range_search t.whole (values img b.firstval b.valcount) t.number) true
chosen_range img b None = Done plain.Unchanged

-- whether range to text consults a malformed table (request [5]: "says whether a malformed table was consulted"); text and "other" consult none
abbrev pub malformed_range : List ℕ → View → Option Taken → Bool
malformed_range img b (Some t) = is_malformed (range_search t.whole (values img b.firstval b.valcount) t.number)
malformed_range img b None = false

-- what is chosen lies in the image
abbrev pub ChoiceIn : List ℕ → Choice → Type 0
ChoiceIn img (Nested a) = a + 24 ≤ length img
ChoiceIn img (Done p) = PlainIn img p
