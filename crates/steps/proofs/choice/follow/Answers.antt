-- `steps::choice::follow` meets its contract. Assumes nothing.
use mathlib.Core.Path.{sym, subst}
use Rattle.leads.specs.Lead.{LeadIn}
use Rattle.leads.proofs.Leads.{lead_at_inside}
use Rattle.steps.proofs.choice.follow.Goals as goal

pub decide-requires : goal.decide-requires
decide-requires c =
    let s = c.args in
    subst (LeadIn s.image.now) (sym c.lead_at-lead.ensures) (lead_at_inside s.image.now s.b _)
