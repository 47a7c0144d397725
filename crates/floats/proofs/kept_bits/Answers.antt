-- `floats::kept_bits` meets its contract. Assumes nothing.
use Rattle.std.proofs.Common.{sym, ◌∙◌}
use Rattle.floats.proofs.Kept.{kept_word, own_if_plain, own_if_number}
use Rattle.floats.proofs.kept_bits.Goals as goal
use Rattle.floats.proofs.kept_bits.Goals.{else-is_nan-via-then-is_nan+else-is_nan_pattern, else-is_nan-via-else-is_nan}

pub returns-then-is_nan_pattern : goal.returns-then-is_nan_pattern
returns-then-is_nan_pattern c =
    sym (kept_word c.args.x c.args.word (sym c.is_nan.ensures.value ∙ c.if-is_nan.true) (sym c.is_nan_pattern.ensures ∙ c.if-is_nan_pattern.true))

pub returns-else-is_nan : goal.returns-else-is_nan
returns-else-is_nan c =
    let x = c.args.x in
    let word = c.args.word in
    c.to_bits.ensures
    ∙ sym (elim c.else-is_nan.branch [
      | else-is_nan-via-then-is_nan+else-is_nan_pattern w ↦ own_if_plain x word (sym w.is_nan_pattern.ensures ∙ w.if-is_nan_pattern.false)
      | else-is_nan-via-else-is_nan w ↦ own_if_number x word (sym c.is_nan.ensures.value ∙ w.if-is_nan.false)
    ])
