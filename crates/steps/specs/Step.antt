-- A block is opened, and its type says what is to be done with a value (document 01, "Applying"). Assumes nothing: these are definitions.
use Rattle.std.specs.Prelude.{ℕ, List, None, Option, Some}
use Rattle.common.specs.Types.{type_of}
use Rattle.common.specs.declared.types.ConversionType.{ConversionType}
use Rattle.common.specs.declared.types.ConversionType.TheVariants as kind
use Rattle.blocks.specs.View.{seen}
use Rattle.blocks.specs.declared.view.View.{View}
use Rattle.rules.specs.Values.{values}
use Rattle.rules.specs.Numbers.{taken}
use Rattle.rules.specs.declared.number.Value.{Value}
use Rattle.steps.specs.Mode.{bits_of}
use Rattle.steps.specs.Fits.{Fits}
use Rattle.steps.specs.Plain.{by_taken, is_text_value, text_to_value, text_to_text, PlainIn}
use Rattle.steps.specs.declared.mode.Mode.{Mode}
use Rattle.steps.specs.declared.mode.Edition.{Edition}
use Rattle.steps.specs.declared.mode.Edition.TheVariants.{Mdf410, Mdf420}
use Rattle.steps.specs.declared.plain.Plain.TheVariants as plain
use Rattle.steps.specs.declared.step.Step.{Step}
use Rattle.steps.specs.declared.step.Step.TheVariants.{ByKey, ByRange, ByBits, Done}

-- type 11 leaves all but integers unchanged
abbrev pub grouped_bits : View → Option ℕ → Step
grouped_bits b (Some bits) = ByBits b bits
grouped_bits b None = Done plain.Unchanged

-- "In 4.10, type 11 is unknown: it leaves its value Unchanged, .. and passes nothing to its references" (request [8])
abbrev pub grouped_in : Edition → View → Option ℕ → Step
grouped_in Mdf410 b w = Done plain.Unchanged
grouped_in Mdf420 b w = grouped_bits b w

abbrev pub grouped : Mode → View → Value → Step
grouped mode b v = grouped_in mode.edition b (bits_of mode v)

-- by its type: the types that go on to other blocks, and those that do not
abbrev pub typed : Mode → List ℕ → List ℕ → View → Value → ConversionType → Step
typed mode img t b v kind.Identity = Done (by_taken kind.Identity (values img b.firstval b.valcount) (taken v))
typed mode img t b v kind.Linear = Done (by_taken kind.Linear (values img b.firstval b.valcount) (taken v))
typed mode img t b v kind.Rational = Done (by_taken kind.Rational (values img b.firstval b.valcount) (taken v))
typed mode img t b v kind.Formula = Done (by_taken kind.Formula (values img b.firstval b.valcount) (taken v))
typed mode img t b v kind.TableInterpolated = Done (by_taken kind.TableInterpolated (values img b.firstval b.valcount) (taken v))
typed mode img t b v kind.TableNearest = Done (by_taken kind.TableNearest (values img b.firstval b.valcount) (taken v))
typed mode img t b v kind.RangeToValue = Done (by_taken kind.RangeToValue (values img b.firstval b.valcount) (taken v))
typed mode img t b v kind.ValueToText = ByKey b
typed mode img t b v kind.RangeToText = ByRange b
typed mode img t b v kind.TextToValue = Done (text_to_value img b t (is_text_value v))
typed mode img t b v kind.TextToText = Done (text_to_text img b t (is_text_value v))
typed mode img t b v kind.BitGroups = grouped mode b v
typed mode img t b v (kind.Unknown n) = Done (by_taken (kind.Unknown n) (values img b.firstval b.valcount) (taken v))

-- a block that the image cuts off cannot be opened
abbrev pub unless_cut : Mode → List ℕ → List ℕ → Value → Option View → Step
unless_cut mode img t v (Some b) = typed mode img t b v (type_of b.kind)
unless_cut mode img t v None = Done plain.Broken

unfoldable pub step_of : Mode → List ℕ → List ℕ → ℕ → Value → Step
step_of mode img t a v = unless_cut mode img t v (seen img a)

-- what the next step reads lies in the image
abbrev pub StepIn : List ℕ → Step → Type 0
StepIn img (ByKey b) = Fits img b
StepIn img (ByRange b) = Fits img b
StepIn img (ByBits b bits) = Fits img b
StepIn img (Done p) = PlainIn img p
