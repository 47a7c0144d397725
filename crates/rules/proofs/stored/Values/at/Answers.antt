-- `rules::stored::Values::at` meets its contract. Assumes nothing.
use mathlib.Core.Path.{sym, ◌∙◌}
use Rattle.rules.proofs.Steps.{values_at}
use Rattle.rules.proofs.stored.Values.at.Goals as goal

pub returns : goal.returns
returns c =
    let v = c.args.self in
    c.value_at.ensures ∙ sym (values_at v.image.now v.first v.count c.args.i c.requires)
