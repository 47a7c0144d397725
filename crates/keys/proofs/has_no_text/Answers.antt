-- `keys::has_no_text` meets its contract. Assumes nothing.
use mathlib.Core.Path.{sym, ap, subst, ◌∙◌}
use mathlib.Core.Bool.{Bool}
use mathlib.Core.Logic.{inl, inr}
use Rattle.leads.specs.Lead.{LeadIn}
use Rattle.leads.proofs.Leads.{lead_at_inside}
use Rattle.leads.specs.declared.lead.Lead.{Lead}
use Rattle.repeats.specs.Repeats.{lead_text, text_at}
use Rattle.keys.specs.Keys.{is_empty}
use Rattle.keys.proofs.has_no_text.Goals as goal

pub is_empty_run-requires : goal.is_empty_run-requires
is_empty_run-requires c =
    let s = c.args in
    subst (LeadIn s.image.now) (sym c.lead_at.ensures ∙ c.in-Words.is) (lead_at_inside s.image.now s.b s.i)

pub returns-in-Words : goal.returns-in-Words
unfolding text_at
returns-in-Words c =
    let s = c.args in
    c.is_empty_run.ensures ∙ ap (λ (l : Lead). is_empty (lead_text s.image.now l)) (sym c.in-Words.is ∙ c.lead_at.ensures)

pub returns-in-Nested : goal.returns-in-Nested
unfolding text_at
returns-in-Nested c =
    let s = c.args in
    let empty : Lead → Bool = λ l. is_empty (lead_text s.image.now l) in
    elim c.in-Nested.is [ inl e ↦ ap empty (sym e.1) | inr (inl e) ↦ ap empty (sym e) | inr (inr e) ↦ ap empty (sym e) ] ∙ ap empty c.lead_at.ensures
