-- `steps::plain::text_to_text` meets its contract. Assumes nothing.
use mathlib.Core.Path.{sym, ap, subst, ◌∙◌}
use Rattle.leads.specs.Lead.{LeadIn}
use Rattle.steps.specs.Plain.{or_unchanged, text_to_text}
use Rattle.steps.proofs.Within.{translated_inside}
use Rattle.steps.proofs.plain.text_to_text.Goals as goal

pub returns-in-Words : goal.returns-in-Words
returns-in-Words c =
    let s = c.args in
    let img = s.image.now in
    let text = s.text.now in (
      ap or_unchanged (sym c.in-Words.is ∙ c.translate.ensures) ∙ ap (text_to_text img s.b text) (sym c.if-not-is_text.false ∙ c.is_text.ensures),
      subst (LeadIn img) (sym c.translate.ensures ∙ c.in-Words.is) (translated_inside img s.b text),
    )
