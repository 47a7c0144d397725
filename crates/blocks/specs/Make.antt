-- Records that are made and not read (document 01, "The right form for each place": "construction functions on the record's type"). Assumes
-- nothing: these are definitions.
use Rattle.std.specs.Prelude.{ℕ, Some, None, Float}
use Rattle.std.specs.Float.{binary64}
use Rattle.std.specs.Float.Ieee.{to_bits}
use Rattle.blocks.specs.Block.{record_from}
use Rattle.blocks.specs.declared.Fixed.{Fixed}
use Rattle.blocks.specs.declared.Fields.{Fields}
use Rattle.blocks.specs.declared.Block.{Block}

-- the parts of a record
abbrev pub fixed_of : Block → Fixed
fixed_of b = record { name = b.name; unit = b.unit; comment = b.comment; inverse = b.inverse }

abbrev pub fields_of : Block → Fields
fields_of b =
    record { kind = b.kind; precision = b.precision; flags = b.flags; refcount = b.refcount; valcount = b.valcount }

-- a block of a type with four NIL links, no reference, no value, no range and no padding is 64 bytes long
abbrev pub empty_of : ℕ → Block
empty_of kind =
    record_from 64 4
    (record { name = 0; unit = 0; comment = 0; inverse = 0 })
    (record { kind = kind; precision = 0; flags = 0; refcount = 0; valcount = 0 })
    None
    56
    64
    0
    0

-- the same block but for the fixed links
abbrev pub with_links : Block → ℕ → ℕ → ℕ → ℕ → Block
with_links b name unit comment inverse =
    record_from
    b.length
    b.links
    (record { name = name; unit = unit; comment = comment; inverse = inverse })
    (fields_of b)
    b.range
    b.firstref
    b.firstval
    b.reserved
    b.excess

-- the same block but for precision, flags and the reference count field
abbrev pub with_details : Block → ℕ → ℕ → ℕ → Block
with_details b precision flags refcount =
    record_from
    b.length
    b.links
    (fixed_of b)
    (record { kind = b.kind; precision = precision; flags = flags; refcount = refcount; valcount = b.valcount })
    b.range
    b.firstref
    b.firstval
    b.reserved
    b.excess

-- the same block but for its range
abbrev pub with_range : Block → Float → Float → Block
with_range b minimum maximum =
    record_from
    b.length
    b.links
    (fixed_of b)
    (fields_of b)
    (Some (record { minimum = minimum; maximum = maximum; minword = to_bits binary64 minimum; maxword = to_bits binary64 maximum }))
    b.firstref
    b.firstval
    b.reserved
    b.excess

-- the same block but for its padding (request [6]: "The parsed record also holds the reserved four bytes and how far block length exceeds what was
-- read")
abbrev pub with_padding : Block → ℕ → ℕ → Block
with_padding b reserved excess =
    record_from b.length b.links (fixed_of b) (fields_of b) b.range b.firstref b.firstval reserved excess
