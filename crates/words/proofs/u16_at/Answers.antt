-- `words::u16_at` meets its contract. Assumes nothing.
use Rattle.words.proofs.LittleEndian.{word16_read}
use Rattle.words.proofs.u16_at.Goals as goal

pub returns : goal.returns
returns c = cc (word16_read c.args.s.now c.args.at)
