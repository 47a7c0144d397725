-- What is shown after each test of the root. Assumes nothing.
use Rattle.std.specs.Prelude.{Err, None, Ok, Option, Result, Some}
use Rattle.std.specs.Result.{result_ok}
use mathlib.Core.Path.{◌≡◌, refl, sym, ap, subst, ◌∙◌}
use mathlib.Core.Bool.{Bool, cond}
use mathlib.Core.List.{List}
use Prim.Native.Nat.{ℕ}
use native.Mathlib.Omega.{arith}
use borrow.Author.Tests.{eq-eqb}
use Rattle.words.proofs.Clash.{clash}
use Rattle.common.proofs.Texts.{bytes_short}
use Rattle.common.specs.declared.refusal.Refusal.{Refusal}
use Rattle.blocks.specs.View.{seen}
use Rattle.blocks.specs.declared.view.View.{View}
use Rattle.leads.specs.Keys.{translated}
use Rattle.leads.specs.Lead.{LeadIn}
use Rattle.leads.specs.declared.lead.Lead.{Lead}
use Rattle.leads.specs.declared.lead.Lead.TheVariants.{Words, Nested, Nil, Elsewhere}
use Rattle.leads.proofs.Leads.{lead_at_inside}
use Rattle.conversion.specs.Shown.{of_lead, of_block, of_check, ShownIn}
use Rattle.common.specs.declared.text.Span.{Span}

-- ---- what the check answered
pub accepted : (r : Result ℕ Refusal) (n : ℕ) → result_ok r ≡ Some n → r ≡ Ok n
accepted (Ok m) n e = let same : m ≡ n = cc in ap Ok same
accepted (Err d) n e = clash cc

pub refused : (r : Result ℕ Refusal) (s : Option Span) → result_ok r ≡ None → None ≡ of_check r s
refused (Ok m) s e = clash cc
refused (Err d) s e = refl

-- ---- the root
within : (img : List ℕ) (l : Lead) → LeadIn img l → ShownIn img (of_lead img l)
within img (Words run) h = (omega arith, omega (arith, h.0, h.1, bytes_short img run.from run.to))
within img (Nested a) h = tt
within img Nil h = tt
within img Elsewhere h = tt

module _ (img question : List ℕ) (a : ℕ) where
  module _ (b : View) (whole : seen img a ≡ Some b) where
    -- where the chosen lead goes
    pub lead_within : (l : Lead) → translated img b question ≡ l → LeadIn img l
    unfolding translated
    lead_within l leads = subst (LeadIn img) leads (lead_at_inside img b _)

    -- of a root of type 10 the lead decides, and its part lies in the image
    pub shown_ten : (l : Lead) → b.kind ≡ 10 → translated img b question ≡ l
        → (of_lead img l ≡ of_block img question (seen img a)) × ShownIn img (of_lead img l)
    shown_ten l ten leads = (
      sym
          (ap (of_block img question) whole
          ∙ ap (λ (x : Bool). cond x (of_lead img (translated img b question)) None) (eq-eqb b.kind 10 ten)
          ∙ ap (of_lead img) leads),
      within img l (lead_within l leads),
    )
