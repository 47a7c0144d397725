-- `words::put_u32` meets its contract. Assumes nothing.
use Rattle.words.proofs.LittleEndian.{bytes4_made}
use Rattle.words.proofs.put_u32.Goals as goal

pub returns : goal.returns
returns c = cc (bytes4_made c.args.v)
