-- `leads::lead::nested_at` meets its contract. Assumes nothing.
use mathlib.Core.Path.{sym, ◌∙◌}
use Rattle.common.proofs.Headers.{inside_fits}
use Rattle.leads.specs.Lead.{nested_at}
use Rattle.leads.proofs.lead.nested_at.Goals as goal
use Rattle.leads.proofs.lead.nested_at.Goals.{else-is_inside-via-then-is_inside+else-is_conversion, else-is_inside-via-else-is_inside}

pub is_conversion-requires : goal.is_conversion-requires
is_conversion-requires c =
    let a = c.args in
    inside_fits a.image.now a.link (sym c.is_inside.ensures ∙ c.if-is_inside.true)

pub returns-then-is_conversion : goal.returns-then-is_conversion
unfolding nested_at
returns-then-is_conversion c = rw (sym c.is_inside.ensures ∙ c.if-is_inside.true, sym c.is_conversion.ensures ∙ c.if-is_conversion.true)

pub returns-else-is_inside : goal.returns-else-is_inside
unfolding nested_at
returns-else-is_inside c =
    elim c.else-is_inside.branch [
      | else-is_inside-via-then-is_inside+else-is_conversion w ↦
          rw (sym c.is_inside.ensures ∙ w.if-is_inside.true, sym w.is_conversion.ensures ∙ w.if-is_conversion.false)
      | else-is_inside-via-else-is_inside w ↦ rw (sym c.is_inside.ensures ∙ w.if-is_inside.false)
    ]
