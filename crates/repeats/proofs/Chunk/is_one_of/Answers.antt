-- `repeats::Chunk::is_one_of` meets its contract. Assumes nothing.
use mathlib.Core.Path.{refl}
use Rattle.repeats.specs.Scan.{run_text}
use Rattle.repeats.proofs.Hashes.{hash_tells}
use borrow.Author.Rules.{rules}
use Rattle.repeats.proofs.Chunk.is_one_of.Goals as goal

pub returns-else-is_among : goal.returns-else-is_among
returns-else-is_among c =
    let s = c.args.self.now in
    let img = s.image.now in
    rw c.if-is_among.false
    (hash_tells img s.b s.start s.count c.hash_of.result (run_text img c.args.q) c.args.hashes.now c.hash_of.ensures c.requires.hashed (search rules) (c.if-is_among.ensures refl))
