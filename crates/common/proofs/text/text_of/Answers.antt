-- `common::text::text_of` meets its contract. Assumes nothing.
use mathlib.Core.Path.{sym, subst, ◌∙◌}
use Rattle.common.specs.Text.{TextIn}
use Rattle.common.proofs.Texts.{run_within}
use Rattle.common.proofs.text.text_of.Goals as goal

pub text_end-requires : goal.text_end-requires
text_end-requires c =
    let a = c.args in
    subst (TextIn a.image.now) (sym c.run_of.ensures ∙ c.in_ok-run.was) (run_within a.image.now a.link)
