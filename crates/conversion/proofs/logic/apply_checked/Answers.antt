-- `conversion::logic::apply_checked` meets its contract. Assumes nothing.
use mathlib.Core.Path.{sym, subst}
use Prim.Native.Nat.{ℕ}
use native.Mathlib.Omega.{arith}
use Rattle.tree.proofs.Acceptance.{acceptance}
use Rattle.pieces.specs.Did.{Says}
use Rattle.engine.specs.Apply.{applied}
use Rattle.conversion.proofs.Demand.{visits_fit}
use Rattle.conversion.proofs.Settling.{untouched, answered_from, settle}
use Rattle.conversion.proofs.logic.apply_checked.Goals as goal

pub apply-x-requires : goal.apply-x-requires
apply-x-requires c =
    let a = c.args in
    (search arith, (acceptance a.asked.now.image.now a.address a.limit a.n c.requires).header)

pub settle-answer-requires : goal.settle-answer-requires
settle-answer-requires c =
    let a = c.args in
    let k = a.asked.now in
    let x = c.apply-x in (
      (acceptance k.image.now a.address a.limit a.n c.requires).header,
      subst (λ (m : ℕ). Says k.image.now m 0 (applied 21 k.mode k.image.now k.text.now a.address a.value).says x.result.said) (sym x.ensures.wrote.same) x.ensures.says,
    )

pub returns : goal.returns
returns c =
    let a = c.args in
    let k = a.asked.now in
    let x = c.apply-x in
    settle (applied 21 k.mode k.image.now k.text.now a.address a.value) a.n a.address
    (visits_fit k.mode k.image.now k.text.now a.address a.limit a.n a.value c.requires (omega arith))
    a.out.now _ x.result.visits x.result.malformed c.settle-answer.result x.ensures.count x.ensures.flag
    (answered_from _ _ (untouched x.ensures.wrote) c.settle-answer.ensures)
