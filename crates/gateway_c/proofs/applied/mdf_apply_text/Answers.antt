-- `gateway_c::applied::mdf_apply_text` meets its contract: written out, so that a call of another kind of value is refused by it. Assumes nothing.
use Rattle.gateway_c.proofs.Faces.{faced}
use Rattle.gateway_c.proofs.applied.mdf_apply_text.Goals as goal

pub returns : goal.returns
returns c = faced _ _ _ _ c.apply.ensures c.from.ensures
