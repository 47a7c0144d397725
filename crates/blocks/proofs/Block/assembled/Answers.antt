-- `blocks::Block::assembled` meets its contract. Assumes nothing.
use mathlib.Core.Path.{◌≡◌, ap}
use Prim.Native.Nat.{◌+◌, ◌*◌}
use native.Mathlib.Omega.{arith}
use Rattle.common.specs.Header.{header_at}
use Rattle.common.specs.declared.header.Header.{Header}
use Rattle.blocks.specs.Block.{ref_count, fields_place}
use Rattle.blocks.proofs.Looking.{seen_open, seen_refs, seen_firstref, seen_firstval}
use Rattle.blocks.proofs.Joined.{range_room, joined_is}
use Rattle.blocks.proofs.Block.assembled.Goals as goal
use Rattle.blocks.proofs.Block.assembled.Goals.{Start}

-- the fields stand where the definition says
place_is : (c : Start) → c.args.at + 56 + 8 * c.args.view.refs ≡ fields_place c.args.image.now c.args.at
unfolding fields_place
place_is c = omega (arith, seen_refs c.args.image.now c.args.at c.args.view c.requires.1)

pub has_range-ranged-requires : goal.has_range-ranged-requires
unfolding ref_count header_at
has_range-ranged-requires c =
    let links = ap (λ (h : Header). h.links) c.read-head.ensures in
    omega (arith, links, seen_refs c.args.image.now c.args.at c.args.view c.requires.1)

pub range_at-range-requires : goal.range_at-range-requires
range_at-range-requires c =
    let a = c.args in
    range_room a.image.now a.at _ _ _ _ c.read-head.ensures (place_is c.before.before.before.before.before.before) c.fields_at-fields.ensures c.has_range-ranged.ensures
    (seen_open a.image.now a.at a.view c.requires.1).fits

pub returns : goal.returns
returns c =
    let a = c.args in
    let img = a.image.now in
    joined_is img a.at _ _ _ _ c.read-head.ensures (place_is c.before.before.before.before.before.before.before) c.fields_at-fields.ensures c.has_range-ranged.ensures _ _ _ _
    c.fixed_at-fixed.ensures c.range_at-range.ensures (seen_firstref img a.at a.view c.requires.1) (seen_firstval img a.at a.view c.requires.1)
