-- `leads::keys::is_end` meets its contract. Assumes nothing.
use mathlib.Core.Path.{sym, ◌∙◌}
use borrow.Author.Tests.{le-leb}
use Rattle.leads.proofs.Same.{end_byte, end_run}
use Rattle.leads.proofs.keys.is_end.Goals as goal

pub returns-then-to-p : goal.returns-then-to-p
returns-then-to-p c =
    let s = c.args in
    le-leb _ _ c.if-to-p.true ∙ sym (end_run s.image.now s.image.now s.to c.requires s.p c.if-to-p.true)

pub returns-else-to-p : goal.returns-else-to-p
returns-else-to-p c =
    let s = c.args in
    end_byte s.image.now s.image.now s.to c.requires s.p c.if-to-p.false
