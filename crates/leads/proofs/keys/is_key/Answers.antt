-- `leads::keys::is_key` meets its contract. Assumes nothing.
use mathlib.Core.Path.{sym, subst, ◌∙◌}
use Rattle.leads.specs.Lead.{LeadIn}
use Rattle.leads.proofs.Leads.{lead_at_inside}
use Rattle.leads.proofs.keys.is_key.Goals as goal

pub is_same-requires : goal.is_same-requires
is_same-requires c =
    let s = c.args in
    subst (LeadIn s.image.now) (sym c.lead_at.ensures ∙ c.in-Words.is) (lead_at_inside s.image.now s.b s.i)
