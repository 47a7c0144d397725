-- The default conversion of type 8, by the number of references. Assumes nothing.
use mathlib.Core.Path.{◌≡◌, sym, ap, ◌∙◌}
use mathlib.Core.Bool.{Bool, true, false}
use mathlib.Core.Logic.{◌⊎◌, inl, inr}
use mathlib.Core.List.{List}
use Prim.Native.Nat.{ℕ, ◌-◌, ◌≤◌, ◌<◌}
use borrow.Author.Tests.{lt-ltb, le-ltb}
use Rattle.common.specs.declared.text.Span.{Span}
use Rattle.blocks.specs.declared.view.View.{View}
use Rattle.leads.specs.Lead.{lead_at}
use Rattle.leads.specs.declared.lead.Lead.{Lead}
use Rattle.leads.specs.declared.lead.Lead.TheVariants as lead
use Rattle.steps.specs.Choice.{default_of, if_conversion, last_reference}
use Rattle.steps.specs.declared.plain.Plain.TheVariants as plain
use Rattle.steps.specs.declared.choice.Choice.TheVariants.{Done}

module _ (img : List ℕ) (b : View) where
  pub last_of_many : 2 < b.refs → (l : Lead) → l ≡ lead_at img b (b.refs - 1) → last_reference img b ≡ if_conversion l
  unfolding last_reference
  last_of_many h l e = rw (lt-ltb _ _ h) (sym (ap if_conversion e))

  -- of few references there is none, nor where none is asked for
  pub no_default : (asked : Bool) → (asked ≡ false) ⊎ ((asked ≡ true) × (b.refs ≤ 2)) → default_of img b asked ≡ Done plain.Unchanged
  unfolding last_reference
  no_default asked (inl e) = ap (default_of img b) e
  no_default asked (inr k) = ap (default_of img b) k.0 ∙ rw (le-ltb _ _ k.1)

-- any lead but a conversion
pub no_conversion : (l : Lead) → ((run : Span) × l ≡ lead.Words run) ⊎ ((l ≡ lead.Nil) ⊎ (l ≡ lead.Elsewhere)) → if_conversion l ≡ Done plain.Unchanged
no_conversion l (inl k) = ap if_conversion k.1
no_conversion l (inr (inl k)) = ap if_conversion k
no_conversion l (inr (inr k)) = ap if_conversion k
