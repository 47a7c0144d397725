-- `repeats::Chunk::hash_all` meets its contract. Before each turn the first k hashes are there. Assumes nothing.
use mathlib.Core.Path.{ap, ◌∙◌}
use Rattle.repeats.specs.Scan.{hash_of}
use Rattle.repeats.proofs.Hashes.{hashed_more}
use borrow.Author.Rules.{rules}
use Rattle.repeats.proofs.Chunk.hash_all.Goals as goal

pub loop-k-preserved : goal.loop-k-preserved
loop-k-preserved c =
    let s = c.args.self.now in
    let l = c.loop-k in
    hashed_more s.image.now s.b s.start l.k c.hash_of.result l.hashes (search rules) l.invariant (c.hash_of.ensures ∙ ap hash_of c.run_at.ensures.text)
