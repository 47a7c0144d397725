-- `words::put_bytes` meets its contract. Assumes nothing.
use native.Mathlib.Omega.{arith}
use Rattle.words.proofs.Laws.{put_copied}
use Rattle.words.proofs.put_bytes.Goals as goal

pub returns : goal.returns
returns g c = put_copied c.args.at _ c.args.out.now c.args.bytes _ c.copy_from_slice.ensures.after c.copy_from_slice.ensures.len (omega arith)
