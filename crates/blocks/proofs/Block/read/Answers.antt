-- `blocks::Block::read` meets its contract. Assumes nothing.
use Rattle.std.proofs.Common.{◌≡◌, sym, ap, ◌∙◌, arith, Some, None, Ok}
use Rattle.std.proofs.lemmas.Result.{err_from_is_err_and}
use Rattle.common.specs.declared.refusal.Refusal.TheVariants.{Short}
use Rattle.blocks.proofs.Looking.{seen_open, seen_cut, seen_room}
use Rattle.blocks.proofs.Block.read.Goals as goal

pub returns-in_err-view : goal.returns-in_err-view
returns-in_err-view c =
    let none : c.look.result ≡ None = grind arith in
    let short : c.in_err-view.field-0.0 ≡ Short c.args.at = grind (arith, none) in
    let p = err_from_is_err_and c.from_residual.result c.from_residual.ensures.1 in
    rw (p.1, p.2, short) (sym (seen_cut _ _ (sym c.look.ensures ∙ none)))

pub assembled-requires : goal.assembled-requires
assembled-requires c =
    let some : c.look.result ≡ Some c.in_ok-view.view = grind arith in
    let e = sym c.look.ensures ∙ some in
    (seen_room _ _ _ e, e)

pub returns : goal.returns
returns c =
    let some : c.look.result ≡ Some c.in_ok-view.view = grind arith in
    ap Ok c.assembled.ensures ∙ sym (seen_open _ _ _ (sym c.look.ensures ∙ some)).whole
