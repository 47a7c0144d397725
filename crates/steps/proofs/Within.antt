-- What a text leads to, and what types 9 and 11 answer, lies in the image. Assumes nothing.
use mathlib.Core.Bool.{Bool, true, false}
use mathlib.Core.List.{List}
use Prim.Native.Nat.{ℕ}
use lib.Ieee.{Float}
use Rattle.std.specs.Prelude.{Option, Some, None}
use Rattle.blocks.specs.View.{value_in}
use Rattle.blocks.specs.declared.view.View.{View}
use Rattle.leads.specs.Lead.{LeadIn}
use Rattle.leads.specs.Keys.{value_key, translated}
use Rattle.leads.proofs.Leads.{lead_at_inside}
use Rattle.rules.specs.declared.number.Value.{Value}
use Rattle.steps.specs.Fits.{Fits}
use Rattle.steps.specs.Mode.{bits_of}
use Rattle.steps.specs.Plain.{or_unknown, text_to_value, PlainIn}
use Rattle.steps.specs.Step.{grouped_in, grouped, StepIn}
use Rattle.steps.specs.declared.mode.Mode.{Mode}
use Rattle.steps.specs.declared.mode.Edition.{Edition}
use Rattle.steps.specs.declared.mode.Edition.TheVariants.{Mdf410, Mdf420}

pub translated_inside : (img : List ℕ) (b : View) (t : List ℕ) → LeadIn img (translated img b t)
unfolding translated
translated_inside img b t = lead_at_inside img b _

module _ (img : List ℕ) where
  or_unknown_in : (n : Option Float) → PlainIn img (or_unknown n)
  or_unknown_in (Some x) = tt
  or_unknown_in None = tt

  pub value_in_lem : (b : View) (t : List ℕ) (text : Bool) → PlainIn img (text_to_value img b t text)
  value_in_lem b t true = or_unknown_in (value_in img b (value_key img b t))
  value_in_lem b t false = tt

  grouped_by : (e : Edition) (b : View) (w : Option ℕ) → Fits img b → StepIn img (grouped_in e b w)
  grouped_by Mdf410 b w h = tt
  grouped_by Mdf420 b (Some bits) h = h
  grouped_by Mdf420 b None h = tt

  pub grouped_in_lem : (mode : Mode) (b : View) (v : Value) → Fits img b → StepIn img (grouped mode b v)
  grouped_in_lem mode b v h = grouped_by mode.edition b (bits_of mode v) h
