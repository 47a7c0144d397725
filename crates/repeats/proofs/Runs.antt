-- The run of a reference's text. Assumes nothing.
use mathlib.Core.Path.{◌≡◌, sym, ap, subst, ◌∙◌}
use mathlib.Core.List.{List, []}
use Prim.Native.Nat.{ℕ}
use native.Mathlib.Omega.{arith}
use Rattle.common.proofs.Texts.{bytes_none}
use Rattle.blocks.specs.declared.view.View.{View}
use Rattle.leads.specs.Lead.{lead_at, LeadIn}
use Rattle.leads.specs.declared.lead.Lead.TheVariants.{Words}
use Rattle.leads.proofs.Leads.{lead_at_inside}
use Rattle.repeats.specs.Repeats.{lead_text, text_at}
use Rattle.repeats.specs.Scan.{run_text, RunOf}
use Rattle.common.specs.declared.text.Span.{Span}

module _ (img : List ℕ) (b : View) (i : ℕ) (t : Span) where
  pub run_words : lead_at img b i ≡ Words t → RunOf img b i t
  unfolding run_text text_at
  run_words e = record { inner = subst (LeadIn img) e (lead_at_inside img b i); text = sym (ap (lead_text img) e) }

  pub run_none : t.from ≡ 0 → t.to ≡ 0 → lead_text img (lead_at img b i) ≡ [] → RunOf img b i t
  unfolding run_text text_at
  run_none f g e = record { inner = (omega arith, omega arith); text = bytes_none img t.from t.to (omega arith) ∙ sym e }
