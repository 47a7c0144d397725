-- `leads::lead::lead_of` meets its contract. Assumes nothing.
use Rattle.std.specs.Prelude.{Option}
use mathlib.Core.Path.{sym, ap, ◌∙◌}
use borrow.Author.Tests.{eq-eqb, ne_eqb}
use Rattle.leads.specs.Lead.{lead_of, nested_at, by_text}
use Rattle.leads.proofs.lead.lead_of.Goals as goal
use Rattle.common.specs.declared.text.Span.{Span}

pub returns-then-link-eq0 : goal.returns-then-link-eq0
unfolding lead_of
returns-then-link-eq0 c = simp (eq-eqb _ _ c.if-link-eq0.true)

pub returns-in-Some : goal.returns-in-Some
unfolding lead_of
returns-in-Some c =
    let s = c.args in
    let e = sym c.in-Some.is ∙ c.run_of.ensures in
    simp (ne_eqb _ _ c.if-link-eq0.false) (ap (λ (t : Option Span). by_text t (nested_at s.image.now s.link)) e)

pub returns-in-None : goal.returns-in-None
unfolding lead_of
returns-in-None c =
    let s = c.args in
    let e = sym c.in-None.is ∙ c.run_of.ensures in
    c.nested_at.ensures ∙ simp (ne_eqb _ _ c.if-link-eq0.false) (ap (λ (t : Option Span). by_text t (nested_at s.image.now s.link)) e)
