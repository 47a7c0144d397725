-- `pieces::label::paste_name` meets its contract. Assumes nothing.
use mathlib.Core.Path.{subst, sym, ◌∙◌}
use Rattle.common.specs.Text.{TextIn}
use Rattle.pieces.proofs.Names.{name_within}
use Rattle.pieces.proofs.label.paste_name.Goals as goal

pub paste-behind-requires : goal.paste-behind-requires
paste-behind-requires c =
    let a = c.args in
    (c.requires.0, subst (TextIn a.image.now) (sym c.name_at.ensures ∙ c.in-Some.is) (name_within a.image.now a.at))
