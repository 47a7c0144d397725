-- `conversion::shown::shown_for` meets its contract. Assumes nothing.
use Rattle.std.specs.Prelude.{ℕ, Result}
use mathlib.Core.Path.{sym, ap, ◌∙◌}
use Rattle.common.specs.declared.refusal.Refusal.{Refusal}
use Rattle.blocks.specs.View.{seen}
use Rattle.tree.proofs.Acceptance.{acceptance}
use Rattle.conversion.specs.Shown.{of_block, of_check, shown_for}
use Rattle.conversion.proofs.Showing.{accepted, refused}
use Rattle.conversion.proofs.shown.shown_for.Goals as goal

pub shown_by-requires : goal.shown_by-requires
shown_by-requires c =
    let s = c.args in
    (acceptance s.image.now s.address s.limit _ (sym c.check.ensures ∙ accepted _ _ (sym c.ok.ensures.value ∙ c.in_ok-ok.was))).header

pub returns-in_err-ok : goal.returns-in_err-ok
unfolding shown_for
returns-in_err-ok c =
    let s = c.args in
    let shown = of_block s.image.now s.question.now (seen s.image.now s.address) in
    rw c.from_residual.ensures
    (refused _ shown (sym c.ok.ensures.value ∙ c.in_err-ok.was) ∙ ap (λ (x : Result ℕ Refusal). of_check x shown) c.check.ensures, tt)

pub returns : goal.returns
unfolding shown_for
returns c =
    let s = c.args in
    let shown = of_block s.image.now s.question.now (seen s.image.now s.address) in
    let check = sym (accepted _ _ (sym c.ok.ensures.value ∙ c.in_ok-ok.was)) ∙ c.check.ensures in
    (c.shown_by.ensures.0 ∙ ap (λ (x : Result ℕ Refusal). of_check x shown) check, c.shown_by.ensures.1)
