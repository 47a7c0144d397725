-- `steps::choice::default_of` meets its contract. Assumes nothing.
use mathlib.Core.Path.{sym, ap, subst, ◌∙◌}
use Rattle.leads.specs.Lead.{LeadIn}
use Rattle.leads.proofs.Leads.{lead_at_inside}
use Rattle.steps.specs.Choice.{if_conversion}
use Rattle.steps.proofs.Choices.{last_of_many, no_default, no_conversion}
use Rattle.steps.proofs.choice.default_of.Goals as goal

pub returns-then-not-fallback : goal.returns-then-not-fallback
returns-then-not-fallback c = (sym (no_default _ _ c.args.fallback c.then-not-fallback.either), tt)

pub returns-in-Nested : goal.returns-in-Nested
returns-in-Nested c =
    let s = c.args in
    let l = c.lead_at in
    let last = last_of_many s.image.now s.b c.if-b-le2.false l.result l.ensures in (
      rw c.if-not-fallback.false (sym (last ∙ ap if_conversion c.in-Nested.is)),
      subst (LeadIn s.image.now) (sym l.ensures ∙ c.in-Nested.is) (lead_at_inside s.image.now s.b _),
    )

pub returns-in-Words : goal.returns-in-Words
returns-in-Words c =
    let s = c.args in
    let l = c.lead_at in
    let last = last_of_many s.image.now s.b c.if-b-le2.false l.result l.ensures in
    (rw c.if-not-fallback.false (sym (last ∙ no_conversion l.result c.in-Words.is)), tt)
