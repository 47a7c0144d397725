-- `inverse::invert` meets its contract. Assumes nothing.
use Rattle.std.specs.Prelude.{Result}
use Rattle.std.proofs.lemmas.Result.{err_from_is_err_and}
use mathlib.Core.Path.{sym, ap, ◌∙◌}
use Rattle.inverse.specs.Invert.{inverted_as, inverting}
use Rattle.inverse.proofs.invert.Goals as goal
use Rattle.blocks.specs.declared.Block.{Block}
use Rattle.common.specs.declared.refusal.Refusal.{Refusal}

pub invert_block-requires : goal.invert_block-requires
invert_block-requires c = sym c.parse.ensures ∙ c.in_ok-parse.was

pub returns-in_err-parse : goal.returns-in_err-parse
unfolding inverting
returns-in_err-parse c =
    let a = c.args in
    let p = err_from_is_err_and c.from_residual.result c.from_residual.ensures.1 in
    rw (p.1, p.2) (ap (λ (p : Result Block Refusal). inverted_as a.image.now a.address p a.out.now) (sym c.in_err-parse.was ∙ c.parse.ensures))

pub returns : goal.returns
unfolding inverting
returns c =
    let a = c.args in
    c.invert_block.ensures
    ∙ ap (λ (p : Result Block Refusal). inverted_as a.image.now a.address p a.out.now) (sym c.in_ok-parse.was ∙ c.parse.ensures)
