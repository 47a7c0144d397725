-- `keys::is_unusable` meets its contract. Assumes nothing.
use mathlib.Core.Path.{◌≡◌, sym, ap, ◌∙◌}
use mathlib.Core.Bool.{Bool, true, false, ◌||◌}
use Rattle.repeats.specs.Repeats.{text_at}
use Rattle.keys.specs.Keys.{is_empty, unusable}
use Rattle.keys.proofs.is_unusable.Goals as goal

pub returns-then-is_nan_key : goal.returns-then-is_nan_key
unfolding unusable
returns-then-is_nan_key c =
    let s = c.args in
    let isnan : c.is_nan_key.result ≡ true = c.if-is_nan_key.true in
    isnan ∙ ap (λ (x : Bool). x || is_empty (text_at s.image.now s.b s.i)) (sym isnan ∙ c.is_nan_key.ensures)

pub returns-else-is_nan_key : goal.returns-else-is_nan_key
unfolding unusable
returns-else-is_nan_key c =
    let s = c.args in
    let number : c.is_nan_key.result ≡ false = c.if-is_nan_key.false in
    c.has_no_text.ensures ∙ ap (λ (x : Bool). x || is_empty (text_at s.image.now s.b s.i)) (sym number ∙ c.is_nan_key.ensures)
