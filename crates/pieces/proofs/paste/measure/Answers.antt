-- `pieces::paste::measure` meets its contract. Assumes nothing.
use mathlib.Core.Path.{ap, ◌∙◌}
use Prim.Native.Nat.{ℕ, ◌+◌, ◌-◌}
use lib.ListN.{length}
use Rattle.common.specs.Text.{text_bytes}
use Rattle.pieces.proofs.Laws.{looked_at}
use Rattle.pieces.proofs.paste.measure.Goals as goal

pub returns : goal.returns
returns c =
    let a = c.args in
    let from = a.run.from in
    c.text_end.ensures
    ∙ ap (λ (k : ℕ). from + length (text_bytes a.image.now from k)) c.reach.ensures
    ∙ ap (λ (n : ℕ). from + n) (looked_at a.image.now from a.run.to (a.room + 1 - a.pos) c.requires.0)
