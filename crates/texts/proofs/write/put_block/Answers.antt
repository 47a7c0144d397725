-- `texts::write::put_block` meets its contract. Assumes nothing.
use Rattle.texts.proofs.Writing.{block_put}
use Rattle.texts.proofs.write.put_block.Goals as goal

pub returns : goal.returns
returns c =
    let text = c.args.text.now in
    block_put c.args.id text c.args.out.now c.word.ensures c.requires.0 c.put.ensures
    c.put_text.ensures c.put_zeros.ensures
