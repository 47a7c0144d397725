-- `leads::lead::lead_at` meets its contract. Assumes nothing.
use mathlib.Core.Path.{sym, ap, ◌∙◌}
use Rattle.leads.specs.Lead.{lead_at, by_link}
use Rattle.leads.proofs.lead.lead_at.Goals as goal

pub returns-in-Some : goal.returns-in-Some
unfolding lead_at
returns-in-Some c = c.lead_of.ensures ∙ ap (by_link c.args.image.now) (sym c.in-Some.is ∙ c.reference.ensures)

pub returns-in-None : goal.returns-in-None
unfolding lead_at
returns-in-None c = ap (by_link c.args.image.now) (sym c.in-None.is ∙ c.reference.ensures)
