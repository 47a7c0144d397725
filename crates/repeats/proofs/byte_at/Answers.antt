-- `repeats::byte_at` meets its contract. Assumes nothing.
use native.Mathlib.Omega.{arith}
use Rattle.common.proofs.Texts.{bytes_short}
use Rattle.repeats.specs.Scan.{run_text}
use Rattle.repeats.proofs.Rests.{byte_here, byte_end}
use Rattle.repeats.proofs.byte_at.Goals as goal

pub overflow_add-p : goal.overflow_add-p
unfolding run_text
overflow_add-p c =
    omega (arith, c.requires.0.0, c.requires.0.1, c.requires.1, bytes_short c.args.image.now c.args.t.from c.args.t.to)

pub returns-then-p-t : goal.returns-then-p-t
unfolding run_text
returns-then-p-t c =
    byte_here c.args.image.now c.args.t.to c.requires.0.1 c.args.t.from c.args.i c.requires.1 (omega arith)

pub returns-else-p-t : goal.returns-else-p-t
unfolding run_text
returns-else-p-t c = byte_end c.args.image.now c.args.t.to c.requires.0.1 c.args.t.from c.args.i (omega arith)
