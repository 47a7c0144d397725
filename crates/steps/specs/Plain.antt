-- The rules that ask no other block (document 01, "Applying"): types 0 to 6, 9 and 10, and unknown. Assumes nothing: these are definitions.
use Rattle.std.specs.Prelude.{ℕ, Bool, true, false, List, Float, None, Option, Some}
use Rattle.words.specs.Words.{PartIn}
use Rattle.common.specs.declared.types.ConversionType.{ConversionType}
use Rattle.common.specs.declared.types.ConversionType.TheVariants as kind
use Rattle.blocks.specs.View.{value_in}
use Rattle.blocks.specs.declared.view.View.{View}
use Rattle.leads.specs.Keys.{value_key, translated}
use Rattle.leads.specs.declared.lead.Lead.{Lead}
use Rattle.leads.specs.declared.lead.Lead.TheVariants as lead
use Rattle.rules.specs.Linear.{linear, rational}
use Rattle.rules.specs.Table.{table, range_value}
use Rattle.rules.specs.declared.number.Value.{Value}
use Rattle.rules.specs.declared.number.Value.TheVariants as given
use Rattle.steps.specs.declared.plain.Plain.{Plain}
use Rattle.steps.specs.declared.plain.Plain.TheVariants.{Number, Words, Unchanged, Unknown, Formula, Broken}
use Rattle.rules.specs.declared.number.Taken.{Taken}

-- what the types do with a number x, which came from an integer where whole is true; identity and unknown: Unchanged
abbrev pub by_number : ConversionType → Bool → List Float → Float → Plain
by_number kind.Identity whole vs x = Unchanged
by_number kind.Linear whole vs x = Number (linear vs x)
by_number kind.Rational whole vs x = Number (rational vs x)
by_number kind.Formula whole vs x = Formula
by_number kind.TableInterpolated whole vs x = Number (table false vs x)
by_number kind.TableNearest whole vs x = Number (table true vs x)
by_number kind.RangeToValue whole vs x = Number (range_value whole vs x)
by_number kind.ValueToText whole vs x = Unchanged
by_number kind.RangeToText whole vs x = Unchanged
by_number kind.TextToValue whole vs x = Unchanged
by_number kind.TextToText whole vs x = Unchanged
by_number kind.BitGroups whole vs x = Unchanged
by_number (kind.Unknown n) whole vs x = Unchanged

-- text is left unchanged, and so is a value of kind "other"
abbrev pub by_taken : ConversionType → List Float → Option Taken → Plain
by_taken k vs (Some t) = by_number k t.whole vs t.number
by_taken k vs None = Unchanged

abbrev pub is_text_value : Value → Bool
is_text_value (given.Unsigned n) = false
is_text_value (given.Signed n) = false
is_text_value (given.Float x) = false
is_text_value given.Text = true
is_text_value given.Other = false

-- the value at an index, or Unknown if there is none such
abbrev pub or_unknown : Option Float → Plain
or_unknown (Some x) = Number x
or_unknown None = Unknown

-- text to value: the first reference i whose text equals the input gives value i; no match: the value at the number of references
abbrev pub text_to_value : List ℕ → View → List ℕ → Bool → Plain
text_to_value img b t true = or_unknown (value_in img b (value_key img b t))
text_to_value img b t false = Unchanged

-- the text that a reference leads to, or Unchanged
abbrev pub or_unchanged : Lead → Plain
or_unchanged (lead.Words run) = Words run
or_unchanged (lead.Nested a) = Unchanged
or_unchanged lead.Nil = Unchanged
or_unchanged lead.Elsewhere = Unchanged

-- text to text: the first equal key's output, or the text at twice the pair count
abbrev pub text_to_text : List ℕ → View → List ℕ → Bool → Plain
text_to_text img b t true = or_unchanged (translated img b t)
text_to_text img b t false = Unchanged

-- the run of a text lies in the image
abbrev pub PlainIn : List ℕ → Plain → Type 0
PlainIn img (Number x) = Unit {0}
PlainIn img (Words run) = PartIn img run.from run.to
PlainIn img Unchanged = Unit {0}
PlainIn img Unknown = Unit {0}
PlainIn img Formula = Unit {0}
PlainIn img Broken = Unit {0}
