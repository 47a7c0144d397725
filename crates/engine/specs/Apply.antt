-- Applying a conversion to a value (document 01, "Applying"): what is answered, the blocks begun, and whether a malformed table was consulted
-- (request [5]), by recursion on the levels left. Every rule takes the nested application as an argument. Assumes nothing: these are definitions.
use Rattle.std.specs.Prelude.{ℕ, zero, suc, min, Bool, false, ◌||◌, List, [], ◌∷◌, ◌++◌, length, None, Option, Some}
use Rattle.std.specs.Int.Bits.{bit_and}
use Rattle.common.specs.Text.{text_bytes}
use Rattle.blocks.specs.View.{value_word_in}
use Rattle.blocks.specs.declared.view.View.{View}
use Rattle.leads.specs.Lead.{lead_at}
use Rattle.leads.specs.declared.lead.Lead.{Lead}
use Rattle.leads.specs.declared.lead.Lead.TheVariants as lead
use Rattle.rules.specs.Numbers.{taken}
use Rattle.rules.specs.declared.number.Value.{Value}
use Rattle.rules.specs.declared.number.Value.TheVariants.{Unsigned}
use Rattle.steps.specs.Choice.{chosen_key, chosen_range, malformed_range}
use Rattle.steps.specs.Step.{step_of}
use Rattle.steps.specs.declared.mode.Mode.{Mode}
use Rattle.steps.specs.declared.choice.Choice.{Choice}
use Rattle.steps.specs.declared.choice.Choice.TheVariants as choice
use Rattle.steps.specs.declared.step.Step.{Step}
use Rattle.steps.specs.declared.step.Step.TheVariants.{ByKey, ByRange, ByBits, Done}
use Rattle.pieces.specs.Answer.{Answer, number, text, unchanged, unknown, formula, broken, spelled, prefixed}
use Rattle.pieces.specs.Label.{bar, label}
use Rattle.pieces.specs.Did.{Did}
use Rattle.pieces.specs.declared.said.Outcome.{Outcome}

-- an answer; the addresses of the blocks begun, in order, repeats included: M is their number; and whether a malformed table was consulted
pub record Ap : Type 0 where
  pub says : Answer
  pub begun : List ℕ
  pub malformed : Bool

-- no block is begun
abbrev pub quiet : Answer → Ap
quiet x = record { says = x; begun = []; malformed = false }

-- the block at a is begun, and then what its rule begins
abbrev pub begin : ℕ → Ap → Ap
begin a x = record { says = x.says; begun = a ∷ x.begun; malformed = x.malformed }

-- a table was consulted too, malformed or not
abbrev pub noting : Bool → Ap → Ap
noting odd x = record { says = x.says; begun = x.begun; malformed = odd || x.malformed }

-- ---- types 7 and 8: a conversion is applied to the original value
abbrev pub passed_on : (ℕ → Value → Ap) → List ℕ → Value → Choice → Ap
passed_on nested img v (choice.Nested a) = nested a v
passed_on nested img v (choice.Done p) = quiet (spelled img p)

-- ---- bit groups
abbrev pub mask_by : Option ℕ → ℕ
mask_by (Some w) = w
mask_by None = 0

-- the bits of value i
abbrev pub mask_at : List ℕ → View → ℕ → ℕ
mask_at img b i = mask_by (value_word_in img b i)

-- i below both counts
abbrev pub group_count : View → ℕ
group_count b = min b.refs b.valcount

abbrev pub prefixed_ap : List ℕ → Ap → Ap
prefixed_ap pre x = record { says = prefixed pre x.says; begun = x.begun; malformed = x.malformed }

-- a direct text is a part whatever the masked value; a conversion is applied to the masked unsigned integer, with name and " = " before its text
abbrev pub part_of : (ℕ → Value → Ap) → List ℕ → Lead → ℕ → Ap
part_of nested img (lead.Words run) masked = quiet (text (text_bytes img run.from run.to))
part_of nested img (lead.Nested a) masked = prefixed_ap (label img a) (nested a (Unsigned masked))
part_of nested img lead.Nil masked = quiet unchanged
part_of nested img lead.Elsewhere masked = quiet unchanged

-- the groups so far: their parts in order, or what stopped them; then the blocks begun, and whether a malformed table was consulted
pub data Groups : Type 0 where
  going : List (List ℕ) → List ℕ → Bool → Groups
  halted : Answer → List ℕ → Bool → Groups

-- only a text result is a part; a formula, or a block that cannot be opened, stops all later groups
abbrev pub grown : List (List ℕ) → List ℕ → Bool → Answer → Groups
grown ps begun odd (number x) = going ps begun odd
grown ps begun odd (text t) = going (ps ++ (t ∷ [])) begun odd
grown ps begun odd unchanged = going ps begun odd
grown ps begun odd unknown = going ps begun odd
grown ps begun odd formula = halted formula begun odd
grown ps begun odd broken = halted broken begun odd

abbrev pub more : Groups → Ap → Groups
more (going ps begun odd) x = grown ps (begun ++ x.begun) (odd || x.malformed) x.says
more (halted x begun odd) y = halted x begun odd

-- after the first n groups
unfoldable pub groups : (ℕ → Value → Ap) → List ℕ → View → ℕ → ℕ → Groups
groups nested img b bits zero = going [] [] false
groups nested img b bits (suc i) = more (groups nested img b bits i) (part_of nested img (lead_at img b i) (bit_and bits (mask_at img b i)))

-- parts are joined by "|"; none gives the empty text
unfoldable pub joined : List (List ℕ) → List ℕ
joined [] = []
joined (p ∷ []) = p
joined (p ∷ q ∷ ps) = p ++ (124 ∷ joined (q ∷ ps))

abbrev pub gathered : Groups → Ap
gathered (going ps begun odd) = record { says = text (joined ps); begun = begun; malformed = odd }
gathered (halted x begun odd) = record { says = x; begun = begun; malformed = odd }

unfoldable pub bit_groups : (ℕ → Value → Ap) → List ℕ → View → ℕ → Ap
bit_groups nested img b bits = gathered (groups nested img b bits (group_count b))

-- ---- one block
abbrev pub ruled : (ℕ → Value → Ap) → List ℕ → Value → Step → Ap
ruled nested img v (ByKey b) = passed_on nested img v (chosen_key img b (taken v))
ruled nested img v (ByRange b) = noting (malformed_range img b (taken v)) (passed_on nested img v (chosen_range img b (taken v)))
ruled nested img v (ByBits b bits) = bit_groups nested img b bits
ruled nested img v (Done p) = quiet (spelled img p)

-- the block at a applied to v, with so many levels left; where none is left it cannot be opened
unfoldable pub applied : ℕ → Mode → List ℕ → List ℕ → ℕ → Value → Ap
applied zero mode img t a v = begin a (quiet broken)
applied (suc d) mode img t a v = begin a (ruled (applied d mode img t) img v (step_of mode img t a v))

-- ---- for inner contracts
-- "|" before a part, where another stands before it
abbrev pub after_bar : Bool → Ap → Ap
after_bar started x = prefixed_ap (bar started) x

abbrev pub Does : List ℕ → List ℕ → List ℕ → ℕ → ℕ → Ap → Outcome → Type 0
Does img o p pos lim x r = Did img o p pos lim x.says (length x.begun) x.malformed r
