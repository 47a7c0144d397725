-- `modes::apply_at` meets its contract. Assumes nothing.
use mathlib.Core.Path.{sym, ap, ◌∙◌}
use Rattle.conversion.specs.Entry.{call}
use Rattle.conversion.specs.declared.logic.Applied.{Applied}
use Rattle.modes.proofs.Laws.{as_asked}
use Rattle.modes.proofs.apply_at.Goals as goal

pub returns-in-Ok : goal.returns-in-Ok
returns-in-Ok c =
    let s = c.args in
    c.apply_in.ensures ∙ as_asked s.image.now s.address s.limit s.text.now s.out.now s.edition s.width s.value _ (sym c.in-Ok.is ∙ c.mode_of.ensures)

pub returns-in-Err : goal.returns-in-Err
returns-in-Err c =
    let s = c.args in
    ap (λ (r : Applied). call r s.out.now) c.refused.ensures
    ∙ as_asked s.image.now s.address s.limit s.text.now s.out.now s.edition s.width s.value _ (sym c.in-Err.is ∙ c.mode_of.ensures)
