-- `words::put_zero_word` meets its contract. Assumes nothing.
use mathlib.Core.Path.{sym, ◌∙◌}
use Rattle.words.proofs.Laws.{zero64}
use Rattle.words.proofs.put_zero_word.Goals as goal

pub returns-then-u64_at-ne0 : goal.returns-then-u64_at-ne0
returns-then-u64_at-ne0 c = c.put_u64.ensures

pub returns-else-u64_at-ne0 : goal.returns-else-u64_at-ne0
returns-else-u64_at-ne0 c =
    let a = c.args in
    sym (zero64 a.out.now a.at (sym c.u64_at.ensures ∙ c.if-u64_at-ne0.false))
