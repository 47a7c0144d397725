-- `gateway_c::block::mdf_parse` meets its contract. Assumes nothing.
use mathlib.Core.Path.{ap, ◌∙◌}
use Rattle.padding.proofs.Keeping.{plain_mode}
use Rattle.faces.specs.Block.{parsed_face}
use Rattle.gateway_c.proofs.block.mdf_parse.Goals as goal

pub returns : goal.returns
returns c = c.from.ensures ∙ ap parsed_face (c.parse.ensures ∙ plain_mode _ _)
