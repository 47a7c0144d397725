-- `writer::put_fields` meets its contract. Assumes nothing.
use mathlib.Core.List.{[], ◌∷◌}
use Rattle.words.specs.Words.{bytes2}
use Rattle.words.proofs.Laws.{five_puts}
use Rattle.writer.specs.Write.{field_bytes}
use Rattle.writer.proofs.put_fields.Goals as goal

pub returns : goal.returns
unfolding field_bytes
returns c =
    let a = c.args in
    let b = a.block in
    five_puts (b.kind ∷ []) (b.precision ∷ []) (bytes2 b.flags) (bytes2 b.refcount) (bytes2 a.values) a.out.now a.at
    c.put_u8.ensures c.put_u8-2.ensures c.put_u16.ensures c.put_u16-2.ensures c.put_u16-3.ensures
