-- `common::header::Header::put` meets its contract. Assumes nothing.
use Rattle.words.specs.Words.{bytes4, bytes8}
use Rattle.words.proofs.Laws.{four_puts}
use Rattle.common.specs.Header.{header_bytes}
use Rattle.common.proofs.header.Header.put.Goals as goal

pub returns : goal.returns
unfolding header_bytes
returns c =
    let h = c.args.self in
    four_puts (bytes4 h.id) (bytes4 h.reserved) (bytes8 h.length) (bytes8 h.links) c.args.out.now 0 c.put_u32.ensures
    c.put_u32-2.ensures c.put_u64.ensures c.put_u64-2.ensures
