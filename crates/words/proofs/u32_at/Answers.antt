-- `words::u32_at` meets its contract. Assumes nothing.
use Rattle.words.proofs.LittleEndian.{word32_read}
use Rattle.words.proofs.u32_at.Goals as goal

pub returns : goal.returns
returns c = cc (word32_read c.args.s.now c.args.at)
