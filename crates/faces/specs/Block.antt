-- How C sees a parsed block and what was written. Fields that do not apply are 0. Assumes nothing: these are definitions.
use Rattle.std.specs.Prelude.{Option, Some, None, is_some, cond, Bool, true, false, not, List, ℕ, eqb, Err, Ok, Result}
use Rattle.std.specs.Float.{binary64}
use Rattle.std.specs.Float.Ieee.{of_bits}
use Rattle.common.specs.Refusal.{number_of, address_of}
use Rattle.blocks.specs.declared.Block.{Block}
use Rattle.blocks.specs.declared.Range.{Range}
use Rattle.common.specs.Written.{WriteCall}
use Rattle.faces.specs.Checked.{address_or}
use Rattle.faces.specs.declared.block.MdfBlock.{MdfBlock}
use Rattle.faces.specs.declared.block.MdfParsed.{MdfParsed}
use Rattle.faces.specs.declared.written.MdfWritten.{MdfWritten}
use Rattle.common.specs.declared.refusal.Refusal.{Refusal}

-- a truth as C has it: 1 or 0 out of parsing; for writing any number but 0 is true
abbrev pub flag_of : Bool → ℕ
flag_of true = 1
flag_of false = 0

abbrev pub is_set : ℕ → Bool
is_set n = not (eqb n 0)

-- a range's fields; they are 0 where there is none
abbrev pub range_fields : Option Range → Range
range_fields (Some r) = r
range_fields None = record { minimum = of_bits binary64 0; maximum = of_bits binary64 0; minword = 0; maxword = 0 }

-- the record's fields, without its places in the image
abbrev pub block_face : Block → MdfBlock
block_face b =
    record {
      length = b.length;
      links = b.links;
      name = b.name;
      unit = b.unit;
      comment = b.comment;
      inverse = b.inverse;
      minimum = (range_fields b.range).minimum;
      maximum = (range_fields b.range).maximum;
      minword = (range_fields b.range).minword;
      maxword = (range_fields b.range).maxword;
      excess = b.excess;
      reserved = b.reserved;
      flags = b.flags;
      refcount = b.refcount;
      valcount = b.valcount;
      kind = b.kind;
      precision = b.precision;
      ranged = flag_of (is_some b.range);
    }

-- its range, where `ranged` says that there is one; else its four fields are not looked at
abbrev pub range_of : MdfBlock → Option Range
range_of b =
    cond (is_set b.ranged) (Some (record { minimum = b.minimum; maximum = b.maximum; minword = b.minword; maxword = b.maxword })) None

-- the record of these fields, which stands nowhere in an image
abbrev pub record_of : MdfBlock → Block
record_of b =
    record {
      length = b.length;
      links = b.links;
      name = b.name;
      unit = b.unit;
      comment = b.comment;
      inverse = b.inverse;
      kind = b.kind;
      precision = b.precision;
      flags = b.flags;
      refcount = b.refcount;
      valcount = b.valcount;
      range = range_of b;
      firstref = 0;
      firstval = 0;
      reserved = b.reserved;
      excess = b.excess;
    }

abbrev pub no_block : MdfBlock
no_block =
    record {
      length = 0;
      links = 0;
      name = 0;
      unit = 0;
      comment = 0;
      inverse = 0;
      minimum = of_bits binary64 0;
      maximum = of_bits binary64 0;
      minword = 0;
      maxword = 0;
      excess = 0;
      reserved = 0;
      flags = 0;
      refcount = 0;
      valcount = 0;
      kind = 0;
      precision = 0;
      ranged = 0;
    }

-- refusal 0: the block was parsed
abbrev pub parsed_face : Result Block Refusal → MdfParsed
parsed_face (Ok b) = record { refusal = 0; address = 0; block = block_face b }
parsed_face (Err r) = record { refusal = number_of r; address = address_or (address_of r); block = no_block }

-- refusal 0: so many bytes were written
abbrev pub written_face : Result ℕ Refusal → MdfWritten
written_face (Ok n) = record { refusal = 0; length = n }
written_face (Err r) = record { refusal = number_of r; length = 0 }

-- the answer, and what the lent output holds
pub record FaceWrote : Type 0 where
  pub result : MdfWritten
  pub output : List ℕ

abbrev pub face_wrote : MdfWritten → List ℕ → FaceWrote
face_wrote r out = record { result = r; output = out }

abbrev pub writing_face : WriteCall → FaceWrote
writing_face o = face_wrote (written_face o.result) o.output
