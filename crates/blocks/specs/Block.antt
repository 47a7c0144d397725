-- The bytes of a ##CC block (document 01, "Bytes of a block"), in the document's order, and the link counts that parsing refuses (request [11]).
-- Assumes nothing: these are definitions.
use Rattle.std.specs.Prelude.{ℕ, Option, Some, None, Result, Ok, Err, ◌+◌, ◌-◌, ◌*◌, Bool, true, false, cond, List, leb, ltb}
use Rattle.std.proofs.Math.ListN as ListN
use Rattle.words.specs.Words.{word16, word64, value_at}
use Rattle.common.specs.Header.{inside, is_conversion}
use Rattle.blocks.specs.declared.Fixed.{Fixed}
use Rattle.blocks.specs.declared.Fields.{Fields}
use Rattle.blocks.specs.declared.Range.{Range}
use Rattle.blocks.specs.declared.Block.{Block}
use Rattle.common.specs.declared.refusal.Refusal.{Refusal}
use Rattle.common.specs.declared.refusal.Refusal.TheVariants.{Outside, NotConversion, Short, FewLinks}

-- four fixed links: name, unit, comment, inverse
unfoldable pub fixed_at : List ℕ → ℕ → Fixed
fixed_at img p =
    record { name = word64 img p; unit = word64 img (p + 8); comment = word64 img (p + 16); inverse = word64 img (p + 24) }

-- link count minus 4 references, none if the count is below 4: `-` stops at 0
unfoldable pub ref_count : List ℕ → ℕ → ℕ
ref_count img a = word64 img (a + 16) - 4

-- the type stands behind the header, the fixed four, which are read even where the count is below 4, and the references
unfoldable pub fields_place : List ℕ → ℕ → ℕ
fields_place img a = a + 24 + 8 * (4 + ref_count img a)

-- type u8, precision u8, flags u16, reference count u16, value count u16
unfoldable pub fields_at : List ℕ → ℕ → Fields
fields_at img p =
    record {
      kind = ListN.get_or img p 0;
      precision = ListN.get_or img (p + 1) 0;
      flags = word16 img (p + 2);
      refcount = word16 img (p + 4);
      valcount = word16 img (p + 6);
    }

unfoldable pub val_count : List ℕ → ℕ → ℕ
val_count img a = word16 img (fields_place img a + 6)

-- two range fields, exactly when block length >= 24 + 8*links + 8 + 8*values + 16, links as written in the header; flags play no part
abbrev pub has_range : ℕ → ℕ → ℕ → Bool
has_range length links values = leb (24 + 8 * links + 8 + 8 * values + 16) length

unfoldable pub is_ranged : List ℕ → ℕ → Bool
is_ranged img a = has_range (word64 img (a + 8)) (word64 img (a + 16)) (val_count img a)

abbrev pub range_size : Bool → ℕ
range_size true = 16
range_size false = 0

-- the range is there whole or not at all
abbrev pub range_at : List ℕ → ℕ → Bool → Option Range
range_at img p true =
    Some (record { minimum = value_at img p; maximum = value_at img (p + 8); minword = word64 img p; maxword = word64 img (p + 8) })
range_at img p false = None

-- the f64 values, as many as the value count says
unfoldable pub values_place : List ℕ → ℕ → ℕ
values_place img a = fields_place img a + 8 + range_size (is_ranged img a)

-- the bytes read end here; block length decides only the range
unfoldable pub block_end : List ℕ → ℕ → ℕ
block_end img a = values_place img a + 8 * val_count img a

-- the record of these parts; the last two are the padding: reserved bytes and excess
abbrev pub record_from : ℕ → ℕ → Fixed → Fields → Option Range → ℕ → ℕ → ℕ → ℕ → Block
record_from length links fixed fields range refs values reserved excess =
    record {
      length = length;
      links = links;
      name = fixed.name;
      unit = fixed.unit;
      comment = fixed.comment;
      inverse = fixed.inverse;
      kind = fields.kind;
      precision = fields.precision;
      flags = fields.flags;
      refcount = fields.refcount;
      valcount = fields.valcount;
      range = range;
      firstref = refs;
      firstval = values;
      reserved = reserved;
      excess = excess;
    }

-- the padding is not kept here: parsing that keeps it has a definition of its own
unfoldable pub block_at : List ℕ → ℕ → Block
block_at img a =
    record_from
    (word64 img (a + 8))
    (word64 img (a + 16))
    (fixed_at img (a + 24))
    (fields_at img (fields_place img a))
    (range_at img (fields_place img a + 8) (is_ranged img a))
    (a + 56)
    (values_place img a)
    0
    0

-- a ##CC block whose header lies in the image, whatever its link count: whole, or Short where the image ends inside it. Sums are exact, so a huge
-- link count is Short
unfoldable pub opened : List ℕ → ℕ → Result Block Refusal
opened img a = cond (leb (block_end img a) (ListN.length img)) (Ok (block_at img a)) (Err (Short a))

-- document 01's parsing of one block, whatever its link count, gives 1, 2 or 4: a block that is repaired is read so
unfoldable pub parsed_for_repair : List ℕ → ℕ → Result Block Refusal
parsed_for_repair img a =
    cond (inside img a)
    (cond (is_conversion img a) (opened img a) (Err (NotConversion a)))
    (Err (Outside a))

-- a link count below 4
unfoldable pub few_links : List ℕ → ℕ → Bool
few_links img a = ltb (word64 img (a + 16)) 4

-- a ##CC block with such a count, which no tool writes now
unfoldable pub retired : List ℕ → ℕ → Bool
retired img a = cond (inside img a) (cond (is_conversion img a) (few_links img a) false) false

-- parsing one block gives 1, 2, 18 or 4: document 01's parsing, with the test for 18 before it
unfoldable pub parsed : List ℕ → ℕ → Result Block Refusal
parsed img a = cond (retired img a) (Err (FewLinks a)) (parsed_for_repair img a)
