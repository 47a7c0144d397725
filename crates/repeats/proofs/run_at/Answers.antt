-- `repeats::run_at` meets its contract. Assumes nothing.
use mathlib.Core.Path.{refl, sym, ap, ◌∙◌}
use mathlib.Core.Logic.{inl, inr}
use Rattle.repeats.specs.Repeats.{lead_text}
use Rattle.repeats.proofs.Runs.{run_words, run_none}
use Rattle.repeats.proofs.run_at.Goals as goal

pub returns-in-Words : goal.returns-in-Words
returns-in-Words c =
    let s = c.args in
    run_words s.image.now s.b s.i _ (sym c.lead_at.ensures ∙ c.in-Words.is)

pub returns-in-Nested : goal.returns-in-Nested
returns-in-Nested c =
    let s = c.args in
    run_none s.image.now s.b s.i _ refl refl (
    ap (lead_text s.image.now) (sym c.lead_at.ensures)
    ∙ elim c.in-Nested.is [ inl e ↦ ap (lead_text s.image.now) e.1 | inr (inl e) ↦ ap (lead_text s.image.now) e | inr (inr e) ↦ ap (lead_text s.image.now) e ]
    )
