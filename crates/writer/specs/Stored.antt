-- The record that parsing gives for a written block (document 01, "Parsing what was written returns every field, counts and block length as written";
-- with the padding kept, that too). Assumes nothing: these are definitions.
use Rattle.std.specs.Prelude.{ℕ, Option, Some, None, is_some, ◌+◌, ◌*◌, ◌^◌, ◌<◌, Bool, true, false, T}
use Rattle.std.specs.Float.{binary64}
use Rattle.std.specs.Float.Ieee.{fits}
use Rattle.floats.specs.Kept.{kept_bits}
use Rattle.blocks.specs.Block.{range_size, record_from}
use Rattle.blocks.specs.Make.{fixed_of, with_padding}
use Rattle.writer.specs.Write.{write_size}
use Rattle.blocks.specs.declared.Fields.{Fields}
use Rattle.blocks.specs.declared.Range.{Range}
use Rattle.blocks.specs.declared.Block.{Block}

-- the value count is that of the values given
abbrev pub stored_fields : Block → ℕ → Fields
stored_fields b values =
    record { kind = b.kind; precision = b.precision; flags = b.flags; refcount = b.refcount; valcount = values }

-- each float with the word that was written for it
abbrev pub stored_range : Option Range → Option Range
stored_range (Some r) =
    Some (record {
      minimum = r.minimum;
      maximum = r.maximum;
      minword = kept_bits r.minimum r.minword;
      maxword = kept_bits r.maximum r.maxword;
    })
stored_range None = None

-- written at a with so many references and values, and parsed plainly; the padding counts in the block length
unfoldable pub stored : ℕ → Block → ℕ → ℕ → Block
stored a b refs values =
    record_from
    (write_size (is_some b.range) refs values b.excess)
    (4 + refs)
    (fixed_of b)
    (stored_fields b values)
    (stored_range b.range)
    (a + 56)
    (a + 64 + 8 * refs + range_size (is_some b.range))
    0
    0

-- the same with the padding kept
unfoldable pub stored_kept : ℕ → Block → ℕ → ℕ → Block
stored_kept a b refs values = with_padding (stored a b refs values) b.reserved b.excess

-- each field of a range has the size of its type
pub record SizedRange (r : Range) : Type 0 where
  pub minimum : T (fits binary64 r.minimum)
  pub maximum : T (fits binary64 r.maximum)
  pub minword : r.minword < 2 ^ 64
  pub maxword : r.maxword < 2 ^ 64

abbrev pub RangeFits : Option Range → Type 0
RangeFits (Some r) = SizedRange r
RangeFits None = Unit {0}

-- each field has the size of its type, those of the range where there is one
pub record Sized (b : Block) : Type 0 where
  pub name : b.name < 2 ^ 64
  pub unit : b.unit < 2 ^ 64
  pub comment : b.comment < 2 ^ 64
  pub inverse : b.inverse < 2 ^ 64
  pub kind : b.kind < 256
  pub precision : b.precision < 256
  pub flags : b.flags < 65536
  pub refcount : b.refcount < 65536
  pub range : RangeFits b.range
  pub reserved : b.reserved < 2 ^ 32
