-- `texts::write::write` meets its contract. Assumes nothing.
use mathlib.Core.Path.{sym, ◌∙◌}
use Rattle.common.proofs.Holding.{put_held}
use Rattle.texts.specs.Write.{text_block}
use Rattle.texts.proofs.Writing.{length_text_block, clean_held}
use Rattle.texts.proofs.write.write.Goals as goal

pub returns : goal.returns
returns c =
    let a = c.args in
    let long = c.block_size-size.ensures ∙ sym (length_text_block a.id a.text.now) in
    put_held (text_block a.id a.text.now) a.out.now long c.if-out-size.false c.put_block.ensures
    ∙ sym (clean_held a.id a.text.now a.out.now (sym c.holds_zero.ensures ∙ c.if-holds_zero.false))
