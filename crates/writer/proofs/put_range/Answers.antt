-- `writer::put_range` meets its contract. Assumes nothing.
use mathlib.Core.Path.{refl, ap, ◌∙◌}
use Prim.Native.Nat.{ℕ, ◌+◌}
use Rattle.floats.specs.Kept.{kept_bits}
use Rattle.words.specs.Words.{bytes8, put}
use Rattle.words.proofs.Laws.{two_puts}
use Rattle.writer.proofs.put_range.Goals as goal

pub returns-in-Some : goal.returns-in-Some
returns-in-Some c =
    let a = c.args in
    let r = c.in-Some.range in
    rw c.in-Some.is
    (two_puts (bytes8 (kept_bits r.minimum r.minword)) (bytes8 (kept_bits r.maximum r.maxword)) a.out.now a.at
    (c.put_u64.ensures ∙ ap (λ (w : ℕ). put a.out.now a.at (bytes8 w)) c.kept_bits.ensures)
    (c.put_u64-in-Some.ensures ∙ ap (λ (w : ℕ). put c.put_u64.new.out (a.at + 8) (bytes8 w)) c.kept_bits-in-Some.ensures))

pub returns-in_default : goal.returns-in_default
unfolding put
returns-in_default c = rw c.in_default.is refl
