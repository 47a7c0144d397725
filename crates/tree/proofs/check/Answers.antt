-- `tree::check` meets its contract. Assumes nothing.
use mathlib.Core.Path.{sym, ap, subst, ◌∙◌}
use mathlib.Core.List.{List}
use Prim.Native.Nat.{ℕ, ◌-◌}
use Rattle.common.proofs.Headers.{inside_fits}
use Rattle.tree.specs.Walk.{walk, answer}
use Rattle.tree.specs.Path.{walked}
use Rattle.tree.specs.Follow.{Standing}
use Rattle.tree.proofs.Paths.{standing_none}
use Rattle.tree.proofs.Checks.{checked_outside, checked_other, checked_walk}
use Rattle.tree.proofs.check.Goals as goal

pub is_conversion-requires : goal.is_conversion-requires
is_conversion-requires c =
    let a = c.args in
    inside_fits a.image.now a.address cc

pub walk-requires-clause-at_in_bounds : goal.walk-requires-clause-at_in_bounds
walk-requires-clause-at_in_bounds c =
    let a = c.args in
    let img = a.image.now in (
      inside_fits img a.address (sym c.is_inside.ensures ∙ c.if-is_inside.true),
      sym c.is_conversion.ensures ∙ c.if-is_conversion.true,
      subst (Standing img) (sym c.new.ensures.path) (standing_none img),
    )

pub returns-then-is_conversion : goal.returns-then-is_conversion
returns-then-is_conversion c =
    let a = c.args in
    c.walk.ensures.value
    ∙ ap (λ (k : ℕ). answer a.limit 0 (walk (21 - k) a.image.now (walked c.new.result) a.address)) c.new.ensures.place
    ∙ ap (λ (p : List ℕ). answer a.limit 0 (walk 21 a.image.now p a.address)) c.new.ensures.path
    ∙ sym
    (checked_walk a.image.now a.address a.limit (sym c.is_inside.ensures ∙ c.if-is_inside.true)
    (sym c.is_conversion.ensures ∙ c.if-is_conversion.true))

pub returns-else-is_conversion : goal.returns-else-is_conversion
returns-else-is_conversion c =
    let a = c.args in
    sym
    (checked_other a.image.now a.address a.limit (sym c.is_inside.ensures ∙ c.if-is_inside.true)
    (sym c.is_conversion.ensures ∙ c.if-is_conversion.false))

pub returns-else-is_inside : goal.returns-else-is_inside
returns-else-is_inside c =
    let a = c.args in
    sym (checked_outside a.image.now a.address a.limit (sym c.is_inside.ensures ∙ c.if-is_inside.false))
