-- `rules::table_lookup::is_under_at` meets its contract. Assumes nothing.
use mathlib.Core.Path.{◌≡◌, sym, ap, ◌∙◌}
use mathlib.Core.Bool.{true, cond}
use Prim.Native.Nat.{◌+◌, ◌*◌}
use lib.Ieee.{Float, binary64, of_bits, nan_bits, le, lt}
use Rattle.words.specs.Words.{word64}
use Rattle.floats.proofs.Nan.{nan_of_pattern}
use Rattle.rules.specs.Stored.{stored_value}
use Rattle.rules.proofs.Steps.{values_bits, none_under, not_under}
use Rattle.rules.proofs.table_lookup.is_under_at.Goals as goal

pub returns-then-is_nan_pattern : goal.returns-then-is_nan_pattern
returns-then-is_nan_pattern c =
    let a = c.args in
    let v = a.values in
    let word = word64 v.image.now (v.first + a.i * 8) in
    let spelled : nan_bits binary64 word ≡ true = cc in
    let read = values_bits v.image.now v.first v.count a.i c.requires ∙ nan_of_pattern word spelled in
    sym (ap (λ (f : Float). cond a.whole (le a.x f) (lt a.x f)) read ∙ none_under a.whole a.x)

pub returns-then-whole : goal.returns-then-whole
returns-then-whole c =
    let a = c.args in
    let v = a.values in
    let read = c.from_bits-high.ensures ∙ ap (of_bits binary64) c.word-word.ensures ∙ sym (values_bits v.image.now v.first v.count a.i c.requires) in
    rw c.if-whole.true (sym c.if-x-high.true ∙ ap (le a.x) read)

pub returns-else-whole : goal.returns-else-whole
returns-else-whole c =
    let a = c.args in
    let v = a.values in
    let read = c.from_bits-high.ensures ∙ ap (of_bits binary64) c.word-word.ensures ∙ sym (values_bits v.image.now v.first v.count a.i c.requires) in
    rw c.if-whole.false (ap (lt a.x) read)

pub returns-else-x-high : goal.returns-else-x-high
returns-else-x-high c =
    let a = c.args in
    let v = a.values in
    let read = c.from_bits-high.ensures ∙ ap (of_bits binary64) c.word-word.ensures ∙ sym (values_bits v.image.now v.first v.count a.i c.requires) in
    c.if-x-high.false ∙ sym (not_under a.whole a.x (stored_value v a.i) (ap (le a.x) (sym read) ∙ c.if-x-high.false))
