-- `inverse::inverse_of` meets its contract. Assumes nothing.
use mathlib.Core.Path.{ap, ◌∙◌}
use Rattle.blocks.specs.Make.{with_links, with_details}
use Rattle.blocks.specs.declared.Block.{Block}
use Rattle.inverse.proofs.inverse_of.Goals as goal

pub returns : goal.returns
returns c =
    let a = c.args.b in
    c.with_details.ensures
    ∙ ap (λ (x : Block). with_details x a.precision a.flags a.valcount) (c.with_links.ensures ∙ ap (λ (x : Block). with_links x a.name a.unit a.comment 0) c.new.ensures)
