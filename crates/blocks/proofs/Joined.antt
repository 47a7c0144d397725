-- The record made of its parts is the block that the definition names. Assumes nothing.
use Rattle.std.specs.Prelude.{Option}
use mathlib.Core.Path.{◌≡◌, ap}
use mathlib.Core.Bool.{Bool}
use mathlib.Core.List.{List}
use Prim.Native.Nat.{ℕ, ◌+◌, ◌≤◌}
use native.Mathlib.Omega.{arith}
use lib.ListN.{length}
use Rattle.common.specs.Header.{header_at}
use Rattle.blocks.specs.Block.{fixed_at, fields_at, fields_place, val_count, has_range, is_ranged, range_size, range_at, values_place, block_end, record_from, block_at}
use Rattle.common.specs.declared.header.Header.{Header}
use Rattle.blocks.specs.declared.Fixed.{Fixed}
use Rattle.blocks.specs.declared.Fields.{Fields}
use Rattle.blocks.specs.declared.Range.{Range}

module _ (img : List ℕ) (at : ℕ) (head : Header) (place : ℕ) (fields : Fields) (ranged : Bool)
    (h : head ≡ header_at img at) (p : place ≡ fields_place img at) (f : fields ≡ fields_at img place)
    (r : ranged ≡ has_range head.length head.links fields.valcount) where
  ranged_is : ranged ≡ is_ranged img at
  unfolding header_at fields_at val_count is_ranged
  ranged_is = rw (r, f, p, h)

  -- a block that lies in the image has room for its range
  pub range_room : block_end img at ≤ length img → place + 8 + range_size ranged ≤ length img
  unfolding block_end values_place
  range_room e = let s = ap range_size ranged_is in omega (arith, p, s)

  pub joined_is : (fixed : Fixed) (range : Option Range) (refs values : ℕ) → fixed ≡ fixed_at img (at + 24)
      → range ≡ range_at img (place + 8) ranged → refs ≡ at + 56 → values ≡ values_place img at
      → record_from head.length head.links fixed fields range refs values 0 0 ≡ block_at img at
  unfolding header_at fields_at val_count is_ranged block_at
  joined_is fixed range refs values x g s v = rw (v, s, g, x, r, f, p, h)
