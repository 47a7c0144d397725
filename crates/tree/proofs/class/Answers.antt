-- `tree::class` meets its contract. Assumes nothing.
use mathlib.Core.Path.{sym, ◌∙◌}
use borrow.Author.Tests.{eq-eqb, ne_eqb}
use Rattle.common.proofs.Headers.{inside_fits}
use Rattle.tree.specs.Walk.{classed}
use Rattle.tree.specs.Path.{walked}
use Rattle.tree.proofs.Paths.{off_path, not_inside, not_conversion}
use Rattle.tree.proofs.class.Goals as goal
use Rattle.tree.proofs.class.Goals.{then-r-eq0-via-then-r-eq0, then-r-eq0-via-else-r-eq0+then-not-is_inside, then-r-eq0-via-else-r-eq0+else-not-is_inside+then-not-is_conversion}

pub is_conversion-requires : goal.is_conversion-requires
is_conversion-requires c =
    let s = c.args in
    inside_fits s.image.now s.r (sym c.is_inside.ensures ∙ c.if-not-is_inside.false)

pub returns-then-r-eq0 : goal.returns-then-r-eq0
unfolding classed
returns-then-r-eq0 c =
    let s = c.args in
    elim c.then-r-eq0.branch [
      | then-r-eq0-via-then-r-eq0 w ↦ simp (eq-eqb _ _ w.if-r-eq0.true)
      | then-r-eq0-via-else-r-eq0+then-not-is_inside w ↦
          let none = sym w.is_inside.ensures ∙ w.if-not-is_inside.true in
          simp (ne_eqb _ _ w.if-r-eq0.false, off_path s.image.now (walked s.path.now) s.r c.requires (not_inside s.image.now s.r none), none)
      | then-r-eq0-via-else-r-eq0+else-not-is_inside+then-not-is_conversion w ↦
          let none = sym w.is_conversion.ensures ∙ w.if-not-is_conversion.true in
          simp (
            ne_eqb _ _ w.if-r-eq0.false,
            off_path s.image.now (walked s.path.now) s.r c.requires (not_conversion s.image.now s.r none),
            sym w.is_inside.ensures ∙ w.if-not-is_inside.false,
            none,
          )
    ]

pub returns-then-contains : goal.returns-then-contains
unfolding classed
returns-then-contains c = simp (ne_eqb _ _ c.if-r-eq0.false, sym c.contains.ensures ∙ c.if-contains.true)

pub returns-else-contains : goal.returns-else-contains
unfolding classed
returns-else-contains c =
    simp (
      ne_eqb _ _ c.if-r-eq0.false,
      sym c.contains.ensures ∙ c.if-contains.false,
      sym c.is_inside.ensures ∙ c.if-not-is_inside.false,
      sym c.is_conversion.ensures ∙ c.if-not-is_conversion.false,
    )
