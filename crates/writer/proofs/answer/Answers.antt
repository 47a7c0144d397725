-- `writer::answer` meets its contract. Assumes nothing.
use Rattle.std.specs.Prelude.{Ok}
use mathlib.Core.Path.{◌≡◌, sym, ap, ◌∙◌}
use mathlib.Core.Bool.{Bool, true, false}
use Prim.Native.Nat.{ℕ, ◌+◌, ◌*◌, ◌<◌}
use native.Mathlib.Omega.{arith}
use Rattle.blocks.specs.Block.{range_size}
use Rattle.writer.specs.Write.{write_size, read_as_range}
use Rattle.writer.proofs.Writing.{too_many, no_range, no_room, enough}
use Rattle.writer.proofs.answer.Goals as goal
use Rattle.writer.proofs.answer.Goals.{else-size-room-via-then-size-room+else-excess-room, else-size-room-via-else-size-room}

-- once the size is known
size_is : (ranged : Bool) (refs values excess : ℕ) {range : ℕ} → range ≡ range_size ranged
    → 64 + 8 * refs + range + 8 * values + excess ≡ write_size ranged refs values excess
unfolding write_size
size_is ranged refs values excess e = omega arith

-- the test for a range was not met
unread : {test : Bool} (ranged : Bool) (excess : ℕ) → test ≡ read_as_range ranged excess → test ≡ false → read_as_range ranged excess ≡ false
unread ranged excess e f = sym e ∙ f

pub returns-then-values-gt-VALUES : goal.returns-then-values-gt-VALUES
returns-then-values-gt-VALUES c =
    let a = c.args in
    sym (too_many a.ranged a.refs a.values a.excess a.room c.if-values-gt-VALUES.true)

pub returns-then-is_read_as_range : goal.returns-then-is_read_as_range
returns-then-is_read_as_range c =
    let a = c.args in
    let yes : c.is_read_as_range.result ≡ true = c.if-is_read_as_range.true in
    sym (no_range a.ranged a.refs a.values a.excess a.room c.if-values-gt-VALUES.false (sym c.is_read_as_range.ensures ∙ yes))

pub returns-then-excess-room : goal.returns-then-excess-room
returns-then-excess-room c =
    let a = c.args in
    let e = size_is a.ranged a.refs a.values a.excess c.range_size.ensures.0 in
    ap Ok e ∙ sym (enough a.ranged a.refs a.values a.excess a.room c.if-values-gt-VALUES.false (unread a.ranged a.excess c.is_read_as_range.ensures c.if-is_read_as_range.false) (omega arith))

pub returns : goal.returns
returns c =
    let a = c.args in
    let e = size_is a.ranged a.refs a.values a.excess c.range_size.ensures.0 in
    let past : a.room < write_size a.ranged a.refs a.values a.excess =
    elim c.else-size-room.branch [
      | else-size-room-via-then-size-room+else-excess-room w ↦ omega (arith, e, w.if-excess-room.false)
      | else-size-room-via-else-size-room w ↦ omega (arith, e, w.if-size-room.false)
    ] in
    sym (no_room a.ranged a.refs a.values a.excess a.room c.if-values-gt-VALUES.false (unread a.ranged a.excess c.is_read_as_range.ensures c.if-is_read_as_range.false) past)
