-- `steps::step::Asked::step_at` meets its contract. Assumes nothing.
use mathlib.Core.Path.{sym, ap, ◌∙◌}
use Rattle.steps.specs.Step.{step_of, unless_cut}
use Rattle.steps.proofs.Opened.{seen_fits}
use Rattle.steps.proofs.step.Asked.step_at.Goals as goal

pub by_type-requires : goal.by_type-requires
by_type-requires c = seen_fits c.args.self.now.image.now c.args.at c.in-Some.b (sym c.look.ensures ∙ c.in-Some.is)

pub returns-in-Some : goal.returns-in-Some
unfolding step_of
returns-in-Some c =
    let a = c.args.self.now in
    (c.by_type.ensures.0 ∙ ap (unless_cut a.mode a.image.now a.text.now c.args.v) (sym c.in-Some.is ∙ c.look.ensures), c.by_type.ensures.1)

pub returns-in-None : goal.returns-in-None
unfolding step_of
returns-in-None c =
    let a = c.args.self.now in
    (ap (unless_cut a.mode a.image.now a.text.now c.args.v) (sym c.in-None.is ∙ c.look.ensures), tt)
