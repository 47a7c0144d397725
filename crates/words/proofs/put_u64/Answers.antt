-- `words::put_u64` meets its contract. Assumes nothing.
use Rattle.words.proofs.LittleEndian.{bytes8_made}
use Rattle.words.proofs.put_u64.Goals as goal

pub returns : goal.returns
returns c = cc (bytes8_made c.args.v)
