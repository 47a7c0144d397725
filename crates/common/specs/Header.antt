-- The header of a block (document 01, "Bytes of a block"). Assumes nothing: these are definitions.
use Rattle.std.specs.Prelude.{ℕ, ◌+◌, Bool, List, ◌++◌, leb, eqb}
use Rattle.std.proofs.Math.ListN as ListN
use Rattle.words.specs.Words.{word32, word64, bytes4, bytes8}
use Rattle.common.specs.declared.header.Header.{Header}

-- a header at a lies in the image
unfoldable pub inside : List ℕ → ℕ → Bool
inside img a = leb (a + 24) (ListN.length img)

-- id of 4, reserved 4, block length u64, link count u64
unfoldable pub header_at : List ℕ → ℕ → Header
header_at img a =
    record { id = word32 img a; reserved = word32 img (a + 4); length = word64 img (a + 8); links = word64 img (a + 16) }

-- the bytes of a header
unfoldable pub header_bytes : ℕ → ℕ → ℕ → ℕ → List ℕ
header_bytes id reserved length links = bytes4 id ++ bytes4 reserved ++ bytes8 length ++ bytes8 links

-- the ids, as the four bytes "##CC" and "##TX" read
abbrev pub conversion_id : ℕ
conversion_id = 0x43432323

abbrev pub text_id : ℕ
text_id = 0x58542323

unfoldable pub is_conversion : List ℕ → ℕ → Bool
is_conversion img a = eqb (word32 img a) conversion_id

unfoldable pub has_id : ℕ → List ℕ → ℕ → Bool
has_id id img a = eqb (word32 img a) id
