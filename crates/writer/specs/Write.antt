-- The bytes that the writer makes, and what it answers (document 01, "The writer takes the record's fields, ..", and refusals 8 and 9; request [6]:
-- "the writer writes them back, the excess as zeros", and refusal 23). Assumes nothing: these are definitions.
use Rattle.std.specs.Prelude.{ℕ, Option, Some, None, is_some, ◌+◌, ◌*◌, Bool, true, false, cond, List, [], ◌∷◌, ◌++◌, map, leb, ltb, Err, Ok, Result}
use Rattle.std.proofs.Math.ListN as ListN
use Rattle.std.specs.Float.{binary64}
use Rattle.std.specs.Float.Ieee.{of_bits, to_bits}
use Rattle.floats.specs.Kept.{kept_bits}
use Rattle.words.specs.Words.{bytes2, bytes8, links, zeros}
use Rattle.common.specs.Header.{conversion_id, header_bytes}
use Rattle.common.specs.Written.{output_holds, WriteCall, write_call}
use Rattle.blocks.specs.Block.{range_size}
use Rattle.blocks.specs.declared.Block.{Block}
use Rattle.blocks.specs.declared.Range.{Range}
use Rattle.common.specs.declared.refusal.Refusal.TheVariants.{Room, Count, Padding}
use Rattle.common.specs.declared.refusal.Refusal.{Refusal}

-- block length of exactly what is written
unfoldable pub write_size : Bool → ℕ → ℕ → ℕ → ℕ
write_size ranged refs values excess = 64 + 8 * refs + range_size ranged + 8 * values + excess

unfoldable pub fixed_bytes : Block → List ℕ
fixed_bytes b = bytes8 b.name ++ bytes8 b.unit ++ bytes8 b.comment ++ bytes8 b.inverse

-- the reference count field as given, the value count as the slice's length
unfoldable pub field_bytes : Block → ℕ → List ℕ
field_bytes b values = (b.kind ∷ []) ++ (b.precision ∷ []) ++ bytes2 b.flags ++ bytes2 b.refcount ++ bytes2 values

-- whole or not at all
abbrev pub range_bytes : Option Range → List ℕ
range_bytes (Some r) = bytes8 (kept_bits r.minimum r.minword) ++ bytes8 (kept_bits r.maximum r.maxword)
range_bytes None = []

-- all before the values: id ##CC, link count 4 + references
unfoldable pub front_bytes : Block → List ℕ → ℕ → ℕ → List ℕ
front_bytes b refs values length =
    header_bytes conversion_id b.reserved length (4 + ListN.length refs) ++ fixed_bytes b ++ links refs ++ field_bytes b values ++ range_bytes b.range

-- words that were read as floats and written again: a NaN's pattern becomes the one that IEEE 754 names, any other word stays (docs/EXCEPTIONS.md)
abbrev pub through_floats : List ℕ → List ℕ
through_floats ws = map (to_bits binary64) (map (of_bits binary64) ws)

-- the block with these references and these values' 64 bits, and the excess as zeros
unfoldable pub block_bytes : Block → List ℕ → List ℕ → List ℕ
block_bytes b refs values =
    front_bytes b refs (ListN.length values) (write_size (is_some b.range) (ListN.length refs) (ListN.length values) b.excess) ++ links values ++ zeros b.excess

-- "16 or more bytes of excess without a range (they would be read as one)"
abbrev pub read_as_range : Bool → ℕ → Bool
read_as_range true excess = false
read_as_range false excess = leb 16 excess

-- 9 over 65,535 values, then 23, before 8 where the output is too short; else how many bytes are written. Sums are exact, so a huge excess is 8 or 23
unfoldable pub write_answer : Bool → ℕ → ℕ → ℕ → ℕ → Result ℕ Refusal
write_answer ranged refs values excess room =
    cond (ltb 65535 values) (Err Count)
    (cond (read_as_range ranged excess) (Err Padding)
    (cond (ltb room (write_size ranged refs values excess)) (Err Room) (Ok (write_size ranged refs values excess))))

unfoldable pub writing : Block → List ℕ → List ℕ → List ℕ → WriteCall
writing b refs values out =
    let says = write_answer (is_some b.range) (ListN.length refs) (ListN.length values) b.excess (ListN.length out) in
    write_call says (output_holds says (block_bytes b refs values) out)
