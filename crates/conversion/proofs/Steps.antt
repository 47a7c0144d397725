-- What one block's step and choice can be where the block is whole: never a block that cannot be opened, and what is nested is a reference.
-- Assumes nothing.
use Rattle.std.specs.Prelude.{Float, None, Ok, Option, Result, Some}
use mathlib.Core.Path.{◌≡◌, refl, sym, subst}
use mathlib.Core.Bool.{Bool, true, false, cond}
use mathlib.Core.List.{List}
use Prim.Native.Nat.{ℕ, ◌-◌}
use lib.Dec.{ltb}
use lib.Ieee.{Float}
use Rattle.common.specs.Types.{type_of, number_of_type}
use Rattle.common.specs.declared.types.ConversionType.{ConversionType}
use Rattle.common.specs.declared.types.ConversionType.TheVariants as kind
use Rattle.common.proofs.TypeNumbers.{type_number}
use Rattle.blocks.specs.Block.{opened}
use Rattle.blocks.specs.View.{view_of, seen_of, seen, value_in}
use Rattle.blocks.specs.declared.Block.{Block}
use Rattle.blocks.specs.declared.view.View.{View}
use Rattle.leads.specs.Lead.{lead_at}
use Rattle.leads.specs.Keys.{value_key, translated}
use Rattle.leads.specs.declared.lead.Lead.{Lead}
use Rattle.leads.specs.declared.lead.Lead.TheVariants as lead
use Rattle.rules.specs.Values.{values}
use Rattle.rules.specs.Numbers.{taken}
use Rattle.rules.specs.Search.{deciding, is_match, key_search, range_search}
use Rattle.rules.specs.declared.number.Value.{Value}
use Rattle.rules.specs.declared.search.Searched.{Searched}
use Rattle.steps.specs.Mode.{bits_of}
use Rattle.steps.specs.Plain.{by_taken, is_text_value, or_unknown, text_to_value, or_unchanged, text_to_text}
use Rattle.steps.specs.Choice.{if_conversion, last_reference, default_of, decided, by_reference, chosen_key, chosen_range}
use Rattle.steps.specs.Step.{grouped_in, typed, unless_cut, step_of}
use Rattle.steps.specs.declared.mode.Mode.{Mode}
use Rattle.steps.specs.declared.mode.Edition.{Edition}
use Rattle.steps.specs.declared.mode.Edition.TheVariants.{Mdf410, Mdf420}
use Rattle.steps.specs.declared.plain.Plain.{Plain}
use Rattle.steps.specs.declared.plain.Plain.TheVariants as plain
use Rattle.steps.specs.declared.choice.Choice.{Choice}
use Rattle.steps.specs.declared.choice.Choice.TheVariants as choice
use Rattle.steps.specs.declared.step.Step.{Step}
use Rattle.steps.specs.declared.step.Step.TheVariants.{ByKey, ByRange, ByBits, Done}
use Rattle.conversion.proofs.References.{Reference, reference_of_lem}
use Rattle.common.specs.declared.refusal.Refusal.{Refusal}
use Rattle.rules.specs.declared.number.Taken.{Taken}

-- every answer but that a block cannot be opened
abbrev pub Sane : Plain → Type 0
Sane (plain.Number x) = Unit {0}
Sane (plain.Words run) = Unit {0}
Sane plain.Unchanged = Unit {0}
Sane plain.Unknown = Unit {0}
Sane plain.Formula = Unit {0}
Sane plain.Broken = ⊥

-- ---- the step
-- a step goes on with the block b itself, by bits only where it has type 11 and the edition knows that type
abbrev pub Follows : Edition → Block → Step → Type 0
Follows e b (ByKey c) = c ≡ view_of b
Follows e b (ByRange c) = c ≡ view_of b
Follows e b (ByBits c bits) = (c ≡ view_of b) × (b.kind ≡ 11) × (e ≡ Mdf420)
Follows e b (Done p) = Sane p

sane_numbered : (k : ConversionType) (vs : List Float) (x : Option Taken) → Sane (by_taken k vs x)
sane_numbered kind.Identity vs (Some x) = tt
sane_numbered kind.Linear vs (Some x) = tt
sane_numbered kind.Rational vs (Some x) = tt
sane_numbered kind.Formula vs (Some x) = tt
sane_numbered kind.TableInterpolated vs (Some x) = tt
sane_numbered kind.TableNearest vs (Some x) = tt
sane_numbered kind.RangeToValue vs (Some x) = tt
sane_numbered kind.ValueToText vs (Some x) = tt
sane_numbered kind.RangeToText vs (Some x) = tt
sane_numbered kind.TextToValue vs (Some x) = tt
sane_numbered kind.TextToText vs (Some x) = tt
sane_numbered kind.BitGroups vs (Some x) = tt
sane_numbered (kind.Unknown n) vs (Some x) = tt
sane_numbered k vs None = tt

sane_number : (x : Option Float) → Sane (or_unknown x)
sane_number (Some x) = tt
sane_number None = tt

sane_value : (img : List ℕ) (b : View) (t : List ℕ) (is : Bool) → Sane (text_to_value img b t is)
sane_value img b t true = sane_number (value_in img b (value_key img b t))
sane_value img b t false = tt

sane_lead : (l : Lead) → Sane (or_unchanged l)
sane_lead (lead.Words run) = tt
sane_lead (lead.Nested a) = tt
sane_lead lead.Nil = tt
sane_lead lead.Elsewhere = tt

sane_text : (img : List ℕ) (b : View) (t : List ℕ) (is : Bool) → Sane (text_to_text img b t is)
sane_text img b t true = sane_lead (translated img b t)
sane_text img b t false = tt

follows_bits : (e : Edition) (b : Block) (w : Option ℕ) → b.kind ≡ 11 → Follows e b (grouped_in e (view_of b) w)
follows_bits Mdf410 b w h = tt
follows_bits Mdf420 b (Some bits) h = (refl, h, refl)
follows_bits Mdf420 b None h = tt

module _ (mode : Mode) (img t : List ℕ) (b : Block) (v : Value) where
  by_type : (k : ConversionType) → b.kind ≡ number_of_type k → Follows mode.edition b (typed mode img t (view_of b) v k)
  by_type kind.Identity h = sane_numbered kind.Identity (values img b.firstval b.valcount) (taken v)
  by_type kind.Linear h = sane_numbered kind.Linear (values img b.firstval b.valcount) (taken v)
  by_type kind.Rational h = sane_numbered kind.Rational (values img b.firstval b.valcount) (taken v)
  by_type kind.Formula h = sane_numbered kind.Formula (values img b.firstval b.valcount) (taken v)
  by_type kind.TableInterpolated h = sane_numbered kind.TableInterpolated (values img b.firstval b.valcount) (taken v)
  by_type kind.TableNearest h = sane_numbered kind.TableNearest (values img b.firstval b.valcount) (taken v)
  by_type kind.RangeToValue h = sane_numbered kind.RangeToValue (values img b.firstval b.valcount) (taken v)
  by_type kind.ValueToText h = refl
  by_type kind.RangeToText h = refl
  by_type kind.TextToValue h = sane_value img (view_of b) t (is_text_value v)
  by_type kind.TextToText h = sane_text img (view_of b) t (is_text_value v)
  by_type kind.BitGroups h = follows_bits mode.edition b (bits_of mode v) h
  by_type (kind.Unknown n) h = sane_numbered (kind.Unknown n) (values img b.firstval b.valcount) (taken v)

  pub step_follows : (a : ℕ) → opened img a ≡ Ok b → Follows mode.edition b (step_of mode img t a v)
  unfolding step_of seen
  step_follows a e =
      subst (λ (p : Result Block Refusal). Follows mode.edition b (unless_cut mode img t v (seen_of p))) (sym e)
      (by_type (type_of b.kind) (sym (type_number b.kind)))

-- ---- the choice of types 7 and 8
module _ (img : List ℕ) (b : Block) where
  -- what is nested is a reference
  abbrev pub Chosen : Choice → Type 0
  Chosen (choice.Nested a) = Reference img b a
  Chosen (choice.Done p) = Sane p

  chosen_lead : (i : ℕ) (l : Lead) → lead_at img (view_of b) i ≡ l → Chosen (if_conversion l)
  chosen_lead i (lead.Words run) e = tt
  chosen_lead i (lead.Nested a) e = reference_of_lem img b i a e
  chosen_lead i lead.Nil e = tt
  chosen_lead i lead.Elsewhere e = tt

  chosen_last : Chosen (last_reference img (view_of b))
  unfolding last_reference
  chosen_last = go (ltb 2 (view_of b).refs)
    where
      go : (x : Bool) → Chosen (cond x (if_conversion (lead_at img (view_of b) ((view_of b).refs - 1))) (choice.Done plain.Unchanged))
      go true = chosen_lead ((view_of b).refs - 1) (lead_at img (view_of b) ((view_of b).refs - 1)) refl
      go false = tt

  chosen_default : (has : Bool) → Chosen (default_of img (view_of b) has)
  chosen_default true = chosen_last
  chosen_default false = tt

  chosen_decided : (i : ℕ) (l : Lead) → lead_at img (view_of b) i ≡ l → (matched : Bool) (c : Choice) → Chosen c → Chosen (decided l matched c)
  chosen_decided i (lead.Words run) e matched c h = tt
  chosen_decided i (lead.Nested a) e matched c h = reference_of_lem img b i a e
  chosen_decided i lead.Nil e true c h = tt
  chosen_decided i lead.Nil e false c h = h
  chosen_decided i lead.Elsewhere e matched c h = h

  chosen_followed : (s : Searched) (has : Bool) → Chosen (by_reference img (view_of b) s has)
  chosen_followed s has =
      chosen_decided (deciding s) (lead_at img (view_of b) (deciding s)) refl (is_match s) (default_of img (view_of b) has) (chosen_default has)

  pub chosen_key_lem : (x : Option Taken) → Chosen (chosen_key img (view_of b) x)
  chosen_key_lem (Some x) = chosen_followed (key_search (values img b.firstval b.valcount) x.number) false
  chosen_key_lem None = tt

  pub chosen_range_lem : (x : Option Taken) → Chosen (chosen_range img (view_of b) x)
  chosen_range_lem (Some x) = chosen_followed (range_search x.whole (values img b.firstval b.valcount) x.number) true
  chosen_range_lem None = tt
