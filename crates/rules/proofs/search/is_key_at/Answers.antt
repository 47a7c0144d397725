-- `rules::search::is_key_at` meets its contract. Assumes nothing.
use mathlib.Core.Path.{◌≡◌, sym, ap, ◌∙◌}
use mathlib.Core.Bool.{true}
use Prim.Native.Nat.{◌+◌, ◌*◌}
use lib.Ieee.{Float, binary64, of_bits, nan_bits, eq}
use Rattle.words.specs.Words.{word64}
use Rattle.floats.proofs.Nan.{nan_of_pattern}
use Rattle.rules.proofs.Steps.{values_bits, no_key}
use Rattle.rules.proofs.search.is_key_at.Goals as goal

pub returns-then-not-is_nan_pattern : goal.returns-then-not-is_nan_pattern
returns-then-not-is_nan_pattern c =
    let v = c.args.values in
    let read = c.from_bits.ensures ∙ ap (of_bits binary64) c.word-word.ensures ∙ sym (values_bits v.image.now v.first v.count c.args.i c.requires) in
    ap (λ (f : Float). eq f c.args.x) read

pub returns-else-not-is_nan_pattern : goal.returns-else-not-is_nan_pattern
returns-else-not-is_nan_pattern c =
    let v = c.args.values in
    let word = word64 v.image.now (v.first + c.args.i * 8) in
    let spelled : nan_bits binary64 word ≡ true = cc in
    let read = values_bits v.image.now v.first v.count c.args.i c.requires ∙ nan_of_pattern word spelled in
    rw c.if-not-is_nan_pattern.false (sym (ap (λ (f : Float). eq f c.args.x) read ∙ no_key c.args.x))
