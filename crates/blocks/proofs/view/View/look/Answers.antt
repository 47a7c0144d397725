-- `blocks::view::View::look` meets its contract. Assumes nothing.
use native.Mathlib.Omega.{arith}
use mathlib.Core.Path.{refl}
use Rattle.blocks.proofs.Looking.{cut_early, cut_late, seen_whole}
use Rattle.blocks.proofs.view.View.look.Goals as goal

pub returns-then-room-lt64 : goal.returns-then-room-lt64
returns-then-room-lt64 c =
    let a = c.args in
    cut_early a.image.now a.at _ _ c.u64_at-links.ensures c.less_fixed-refs.ensures (omega arith)

pub returns-then-room-refs : goal.returns-then-room-refs
returns-then-room-refs c =
    let a = c.args in
    cut_early a.image.now a.at _ _ c.u64_at-links.ensures c.less_fixed-refs.ensures (omega arith)

pub returns-then-firstval-valcount : goal.returns-then-firstval-valcount
returns-then-firstval-valcount c =
    let a = c.args in
    seen_whole a.image.now a.at _ _ c.u64_at-links.ensures c.less_fixed-refs.ensures _ _ _ _ c.u16_at-valcount.ensures
    c.u64_at.ensures c.has_range-ranged.ensures c.range_size.ensures.0 _ refl (omega arith)

pub returns-else-firstval-valcount : goal.returns-else-firstval-valcount
returns-else-firstval-valcount c =
    let a = c.args in
    cut_late a.image.now a.at _ _ c.u64_at-links.ensures c.less_fixed-refs.ensures _ _ _ _ c.u16_at-valcount.ensures
    c.u64_at.ensures c.has_range-ranged.ensures c.range_size.ensures.0 (omega arith)
