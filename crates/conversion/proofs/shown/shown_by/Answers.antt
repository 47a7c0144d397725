-- `conversion::shown::shown_by` meets its contract. Assumes nothing.
use mathlib.Core.Path.{sym, ◌∙◌}
use Rattle.leads.specs.declared.lead.Lead.TheVariants.{Words}
use Rattle.steps.proofs.Opened.{seen_fits}
use Rattle.conversion.proofs.Showing.{lead_within, shown_ten}
use Rattle.conversion.proofs.shown.shown_by.Goals as goal

pub translate-requires : goal.translate-requires
translate-requires c =
    let s = c.args in
    (seen_fits s.image.now s.address c.in_ok-b.b (sym c.look.ensures ∙ c.in_ok-b.was)).1

pub text_end-requires : goal.text_end-requires
text_end-requires c =
    let s = c.args in
    lead_within s.image.now s.question.now s.address c.in_ok-b.b (sym c.look.ensures ∙ c.in_ok-b.was) (Words _) (sym c.translate.ensures ∙ c.in-Words.is)

pub returns-in-Words : goal.returns-in-Words
returns-in-Words c =
    let s = c.args in
    rw c.text_end.ensures
    (shown_ten s.image.now s.question.now s.address c.in_ok-b.b (sym c.look.ensures ∙ c.in_ok-b.was) (Words _) c.if-b-ne10.false (sym c.translate.ensures ∙ c.in-Words.is))
