-- `texts::read::read_as` meets its contract. Assumes nothing.
use Rattle.std.proofs.Common.{◌≡◌, sym, subst, ◌∙◌, arith, Some}
use Rattle.common.specs.Text.{TextIn}
use Rattle.common.proofs.Texts.{run_at_within}
use Rattle.texts.proofs.read.read_as.Goals as goal

pub text_end-requires : goal.text_end-requires
text_end-requires c =
    let a = c.args in
    let some : c.run_at.result ≡ Some c.in_ok-run.run' = grind arith in
    subst (TextIn a.image.now) (sym c.run_at.ensures ∙ some) (run_at_within c.word.result a.image.now a.at)
