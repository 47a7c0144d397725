-- `keys::why_unusable` meets its contract. Assumes nothing.
use mathlib.Core.Path.{◌≡◌, sym, ap, ◌∙◌}
use mathlib.Core.Bool.{Bool, true, false, cond}
use Rattle.common.specs.declared.refusal.Refusal.TheVariants.{NotText, Key}
use Rattle.keys.specs.Keys.{why_unusable}
use Rattle.keys.proofs.why_unusable.Goals as goal

pub returns-then-is_nan_key : goal.returns-then-is_nan_key
unfolding why_unusable
returns-then-is_nan_key c =
    let i = c.args.i in
    let isnan : c.is_nan_key.result ≡ true = c.if-is_nan_key.true in
    ap (λ (x : Bool). cond x (Key i) (NotText i)) (sym isnan ∙ c.is_nan_key.ensures)

pub returns-else-is_nan_key : goal.returns-else-is_nan_key
unfolding why_unusable
returns-else-is_nan_key c =
    let i = c.args.i in
    let number : c.is_nan_key.result ≡ false = c.if-is_nan_key.false in
    ap (λ (x : Bool). cond x (Key i) (NotText i)) (sym number ∙ c.is_nan_key.ensures)
