-- `gateway_c::block::mdf_parse_kept` meets its contract: written out, so that the plain entry in its place is refused by it. Assumes nothing.
use mathlib.Core.Path.{ap, ◌∙◌}
use Rattle.faces.specs.Block.{parsed_face}
use Rattle.gateway_c.proofs.block.mdf_parse_kept.Goals as goal

pub returns : goal.returns
returns c = c.from.ensures ∙ ap parsed_face c.parse.ensures
