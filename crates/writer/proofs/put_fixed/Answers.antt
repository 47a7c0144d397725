-- `writer::put_fixed` meets its contract. Assumes nothing.
use Rattle.words.specs.Words.{bytes8}
use Rattle.words.proofs.Laws.{four_puts}
use Rattle.writer.specs.Write.{fixed_bytes}
use Rattle.writer.proofs.put_fixed.Goals as goal

pub returns : goal.returns
unfolding fixed_bytes
returns c =
    let a = c.args in
    let b = a.block in
    four_puts (bytes8 b.name) (bytes8 b.unit) (bytes8 b.comment) (bytes8 b.inverse) a.out.now 24 c.put_u64.ensures
    c.put_u64-2.ensures c.put_u64-3.ensures c.put_u64-4.ensures
