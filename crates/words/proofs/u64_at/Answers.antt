-- `words::u64_at` meets its contract. Assumes nothing.
use Rattle.words.proofs.LittleEndian.{word64_read}
use Rattle.words.proofs.u64_at.Goals as goal

pub returns : goal.returns
returns c = cc (word64_read c.args.s.now c.args.at)
