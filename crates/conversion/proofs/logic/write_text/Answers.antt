-- `conversion::logic::write_text` meets its contract. Assumes nothing.
use Rattle.conversion.proofs.Settling.{no_room, written}
use Rattle.conversion.proofs.logic.write_text.Goals as goal

pub returns-then-out-size : goal.returns-then-out-size
returns-then-out-size c = no_room _ _ _ _ _ c.requires.1 c.if-out-size.true

pub returns : goal.returns
returns c =
    let x = c.apply-x in
    written _ _ _ _ _ _ c.requires.1 c.if-out-size.false x.ensures.says x.ensures.wrote c.lay_said.ensures
