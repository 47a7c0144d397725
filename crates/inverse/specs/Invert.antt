-- From a value to text block the matching text to value block (request [7]: "for each key, in order, the old text's address as reference and the key as
-- value, with no default; its reference count field is the number of keys. Name, unit and comment links, precision and flags are the old block's; the
-- inverse link is NIL and there is no range. .. The output holds only the new block"). Assumes nothing: these are definitions.
use Rattle.std.specs.Prelude.{ℕ, ◌+◌, ◌*◌, ◌≤◌, cond, List, eqb, take, Err, Ok, Result}
use Rattle.common.specs.Written.{WriteCall, write_call, holding}
use Rattle.common.specs.declared.refusal.Refusal.TheVariants.{WrongType}
use Rattle.blocks.specs.Block.{parsed}
use Rattle.blocks.specs.Make.{empty_of, with_links, with_details}
use Rattle.blocks.specs.Place.{references, value_words}
use Rattle.blocks.specs.View.{view_of}
use Rattle.blocks.specs.declared.Block.{Block}
use Rattle.writer.specs.Write.{block_bytes}
use Rattle.keys.specs.Keys.{first_fault}
use Rattle.common.specs.declared.refusal.Refusal.{Refusal}

-- the record of the new block: type 9, no inverse, no range, no padding
abbrev pub inverse_of : Block → Block
inverse_of b = with_details (with_links (empty_of 9) b.name b.unit b.comment 0) b.precision b.flags b.valcount

-- the new block: as many references as there are keys, and the keys' 64 bits as they stand
unfoldable pub inverse_bytes : List ℕ → Block → List ℕ
inverse_bytes img b = block_bytes (inverse_of b) (take b.valcount (references img b)) (value_words img b)

-- "last 8"
abbrev pub unless_faulty : Result (Unit {0}) Refusal → List ℕ → List ℕ → WriteCall
unless_faulty (Err r) block out = write_call (Err r) out
unless_faulty (Ok tt) block out = holding block out

-- "A root of another type is 15 WrongType, before these"
unfoldable pub inverted : List ℕ → ℕ → Block → List ℕ → WriteCall
inverted img a b out =
    cond (eqb b.kind 7) (unless_faulty (first_fault img (view_of b) 0 b.valcount) (inverse_bytes img b) out)
    (write_call (Err (WrongType a)) out)

abbrev pub inverted_as : List ℕ → ℕ → Result Block Refusal → List ℕ → WriteCall
inverted_as img a (Ok b) out = inverted img a b out
inverted_as img a (Err r) out = write_call (Err r) out

-- after the refusals of parsing: 1, 2, 18, 4
unfoldable pub inverting : List ℕ → ℕ → List ℕ → WriteCall
inverting img a out = inverted_as img a (parsed img a) out

-- ---- for inner contracts
-- as many references and values as there are keys lie in an image so long, and the new block in an output so long
abbrev pub KeyPlaces : Block → ℕ → ℕ → Type 0
KeyPlaces b size room =
    (b.firstref + 8 * b.valcount ≤ size)
    × (b.firstval + 8 * b.valcount ≤ size)
    × (64 + 16 * b.valcount ≤ room)
