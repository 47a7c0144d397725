-- The P cases of document 01, as one table: what is asked of which image, and what must be answered. Assumes nothing: these are definitions.
--
-- An image is one or more blocks in a row, from address 0 on; a comment names the addresses. A block has a zero reserved field, no range, and NIL
-- unit, comment and inverse links; a text ends in one zero byte. Values are written by their 64 bits.
use Rattle.std.specs.Prelude.{ℕ, is_some, ◌+◌, ◌*◌, Bool, true, false, List, [], ◌∷◌, ◌++◌, negsuc, length, replicate, Err, Ok, Result}
use Rattle.std.specs.Float.{nan, binary64}
use Rattle.std.specs.Float.Ieee.{of_bits, to_bits}
use Rattle.words.specs.Words.{bytes2, bytes4, bytes8, links}
use Rattle.common.specs.Header.{conversion_id, text_id}
use Rattle.common.specs.Refusal.{number_of}
use Rattle.blocks.specs.Block.{parsed}
use Rattle.rules.specs.declared.number.Value.{Value}
use Rattle.rules.specs.declared.number.Value.TheVariants as value
use Rattle.steps.specs.Mode.{standard}
use Rattle.tree.specs.Images.{two_links}
use Rattle.tree.specs.Walk.{checked}
use Rattle.conversion.specs.Entry.{Call, applying}
use Rattle.conversion.specs.declared.logic.Answer.{Answer}
use Rattle.conversion.specs.declared.logic.Answer.TheVariants.{Number, Text, Unchanged, Unknown, Refused}
use Rattle.blocks.specs.declared.Block.{Block}
use Rattle.common.specs.declared.refusal.Refusal.{Refusal}

-- ---- what is asked and answered
-- apply the conversion at 0, with a limit of 9 visits, to a value, with so much room of bytes 170; parse the block at 0; check the tree at 0
pub data Question : Type 0 where
  apply : List ℕ → Value → ℕ → Question
  parse : List ℕ → Question
  check : List ℕ → ℕ → Question

-- a number by its 64 bits, a text by all bytes of the output, a refusal by its number and the output; then N and M. Whether a block has a range.
-- A count of visits, or the refusal's number. And any of these where a malformed table was consulted
pub data Reply : Type 0 where
  number : ℕ → ℕ → ℕ → Reply
  text : ℕ → List ℕ → ℕ → ℕ → Reply
  unchanged : ℕ → ℕ → Reply
  unknown : ℕ → ℕ → Reply
  refused : ℕ → List ℕ → ℕ → ℕ → Reply
  range : Bool → Reply
  not_parsed : ℕ → Reply
  visits : ℕ → Reply
  unsound : ℕ → Reply
  with_malformed : Reply → Reply

abbrev pub told : Answer → List ℕ → ℕ → ℕ → Reply
told (Number x) out n m = number (to_bits binary64 x) n m
told (Text k) out n m = text k out n m
told Unchanged out n m = unchanged n m
told Unknown out n m = unknown n m
told (Refused r) out n m = refused (number_of r) out n m

abbrev pub flagged : Bool → Reply → Reply
flagged true r = with_malformed r
flagged false r = r

abbrev pub of_call : Call → Reply
of_call c = flagged c.result.malformed (told c.result.answer c.output c.result.checked c.result.applied)

abbrev pub of_parsed : Result Block Refusal → Reply
of_parsed (Ok b) = range (is_some b.range)
of_parsed (Err r) = not_parsed (number_of r)

abbrev pub of_checked : Result ℕ Refusal → Reply
of_checked (Ok n) = visits n
of_checked (Err r) = unsound (number_of r)

-- what the definitions answer
abbrev pub answered : Question → Reply
answered (apply img v room) = of_call (applying standard img 0 9 v [] (replicate room 170))
answered (parse img) = of_parsed (parsed img 0)
answered (check img limit) = of_checked (checked img 0 limit)

pub record Case : Type 0 where
  pub asked : Question
  pub wanted : Reply

-- ---- the images
-- a ##CC block of this block length
unfoldable pub block_of : ℕ → ℕ → ℕ → List ℕ → List ℕ → List ℕ
block_of size name kind refs values =
    bytes4 conversion_id
    ++ bytes4 0
    ++ bytes8 size
    ++ bytes8 (4 + length refs)
    ++ bytes8 name
    ++ replicate 24 0
    ++ links refs
    ++ (kind ∷ 0 ∷ 0 ∷ 0 ∷ [])
    ++ bytes2 (length refs)
    ++ bytes2 (length values)
    ++ links values

-- of a name link, a type, references and values
unfoldable pub block : ℕ → ℕ → List ℕ → List ℕ → List ℕ
block name kind refs values = block_of (64 + 8 * length refs + 8 * length values) name kind refs values

-- a ##TX block, of 25 bytes and the text's
unfoldable pub tx : List ℕ → List ℕ
tx t = bytes4 text_id ++ bytes4 0 ++ bytes8 (25 + length t) ++ bytes8 0 ++ t ++ (0 ∷ [])

-- f64s by their bits: 0, 1/8, 1, 2, 9, 10, 20, 60
abbrev f0 : ℕ
f0 = 0

abbrev f_eighth : ℕ
f_eighth = 0x3fc0000000000000

abbrev f1 : ℕ
f1 = 0x3ff0000000000000

abbrev f2 : ℕ
f2 = 0x4000000000000000

abbrev f9 : ℕ
f9 = 0x4022000000000000

abbrev f10 : ℕ
f10 = 0x4024000000000000

abbrev f20 : ℕ
f20 = 0x4034000000000000

abbrev f60 : ℕ
f60 = 0x404e000000000000

abbrev linear_of : List ℕ → List ℕ
linear_of values = block 0 1 [] values

abbrev rational_image : List ℕ
rational_image = block 0 2 [] (f0 ∷ f1 ∷ f0 ∷ f0 ∷ f0 ∷ f0 ∷ [])

-- type 4, interpolated, or 5, nearest
abbrev pairs : ℕ → List ℕ
pairs kind = block 0 kind [] (f0 ∷ f10 ∷ f10 ∷ f20 ∷ f20 ∷ f60 ∷ [])

-- a range to text block at 0; the texts "0", "1" and "2" at 120, 146 and 172
abbrev ranges : List ℕ
ranges = block 0 8 (120 ∷ 146 ∷ 172 ∷ []) (f0 ∷ f10 ∷ f10 ∷ f20 ∷ []) ++ tx (48 ∷ []) ++ tx (49 ∷ []) ++ tx (50 ∷ [])

-- range to text of length 3, with one NIL reference: matched at index 0 gives the empty text
abbrev length_three : List ℕ
length_three = block 0 8 (0 ∷ []) (f0 ∷ f10 ∷ f20 ∷ [])

abbrev range_to_value : List ℕ
range_to_value = block 0 6 [] (f0 ∷ f10 ∷ f1 ∷ f10 ∷ f20 ∷ f2 ∷ f9 ∷ [])

-- 4 links and 2 values, of this block length, and 16 bytes more
abbrev of_length : ℕ → List ℕ
of_length size = block_of size 0 1 [] (f0 ∷ f1 ∷ []) ++ replicate 16 0

-- bit groups at 0 with the masks 3 and 12, on the block at 96 and the text "PTO" at 233; at 96 value to text, with 2 as "Low" at 205, named by
-- "Gear" at 176
abbrev groups_image : List ℕ
groups_image =
    block 0 11 (96 ∷ 233 ∷ []) (3 ∷ 12 ∷ [])
    ++ block 176 7 (205 ∷ []) (f2 ∷ [])
    ++ tx (71 ∷ 101 ∷ 97 ∷ 114 ∷ [])
    ++ tx (76 ∷ 111 ∷ 119 ∷ [])
    ++ tx (80 ∷ 84 ∷ 79 ∷ [])

-- "Gear = Low|PTO"
abbrev gear_low : List ℕ
gear_low = 71 ∷ 101 ∷ 97 ∷ 114 ∷ 32 ∷ 61 ∷ 32 ∷ 76 ∷ 111 ∷ 119 ∷ 124 ∷ 80 ∷ 84 ∷ 79 ∷ []

-- ---- the table
abbrev unsigned : ℕ → Value
unsigned = value.Unsigned

-- -(k + 1)
abbrev negative : ℕ → Value
negative k = value.Signed (negsuc k)

abbrev float : ℕ → Value
float bits = value.Float (of_bits binary64 bits)

abbrev case : List ℕ → Value → Reply → Case
case img v want = record { asked = apply img v 16; wanted = want }

-- a text of one byte, or none, at the front of 16 bytes
abbrev one_byte : ℕ → Reply
one_byte b = text 1 (b ∷ replicate 15 170) 1 1

unfoldable pub cases : List Case
cases =
    -- linear [0, 0.125], signed -3: -0.375; one value only, integer 7: Number 7
    case (linear_of (f0 ∷ f_eighth ∷ [])) (negative 2) (number 0xbfd8000000000000 1 1)
    ∷ case (linear_of (f_eighth ∷ [])) (unsigned 7) (number 0x401c000000000000 1 1)
    -- integer 9007199254740993: 9007199254740992; 9007199254740995: 9007199254740996; largest unsigned: 2^64
    ∷ case (linear_of []) (unsigned 9007199254740993) (number 0x4340000000000000 1 1)
    ∷ case (linear_of []) (unsigned 9007199254740995) (number 0x4340000000000002 1 1)
    ∷ case (linear_of []) (unsigned 18446744073709551615) (number 0x43f0000000000000 1 1)
    -- rational (0,1,0,0,0,0): x = 4 gives +inf, x = 0 NaN
    ∷ case rational_image (unsigned 4) (number 0x7ff0000000000000 1 1)
    ∷ case rational_image (unsigned 0) (number 0x7ff8000000000000 1 1)
    -- pairs (0,10),(10,20),(20,60): x = 15 interpolated 40, nearest 20; 16 nearest 60; -1 gives 10
    ∷ case (pairs 4) (unsigned 15) (number 0x4044000000000000 1 1)
    ∷ case (pairs 5) (unsigned 15) (number 0x4034000000000000 1 1)
    ∷ case (pairs 5) (unsigned 16) (number 0x404e000000000000 1 1)
    ∷ case (pairs 4) (negative 0) (number 0x4024000000000000 1 1)
    ∷ case (pairs 5) (negative 0) (number 0x4024000000000000 1 1)
    -- ranges [0,10],[10,20]: integer 10 index 0, float 10 index 1, float 20 and NaN index 2
    ∷ case ranges (unsigned 10) (one_byte 48)
    ∷ case ranges (float f10) (one_byte 49)
    ∷ case ranges (float f20) (one_byte 50)
    ∷ case ranges (value.Float nan) (one_byte 50)
    -- length 3: index 0, matched, even for NaN; it is malformed, and said to be
    ∷ case length_three (unsigned 15) (with_malformed (text 0 (replicate 16 170) 1 1))
    ∷ case length_three (value.Float nan) (with_malformed (text 0 (replicate 16 170) 1 1))
    -- range to value 0,10,1,10,20,2,9: integer 10 gives 1, float 10 gives 2, float 20 gives 9
    ∷ case range_to_value (unsigned 10) (number f1 1 1)
    ∷ case range_to_value (float f10) (number f2 1 1)
    ∷ case range_to_value (float f20) (number f9 1 1)
    -- 4 links, 2 values: block length 95 has no range, 96 has
    ∷ (record { asked = parse (of_length 95); wanted = range false })
    ∷ (record { asked = parse (of_length 96); wanted = range true })
    -- integer 6 gives "Gear = Low|PTO", 14 bytes; 13 bytes of room is refusal 8; integer 0 gives "PTO"
    ∷ (record { asked = apply groups_image (unsigned 6) 14; wanted = text 14 gear_low 2 2 })
    ∷ (record { asked = apply groups_image (unsigned 6) 13; wanted = refused 8 (replicate 13 170) 2 2 })
    ∷ case groups_image (unsigned 0) (text 3 ((80 ∷ 84 ∷ 79 ∷ []) ++ replicate 13 170) 2 2)
    -- two links to one leaf: 3 visits; limit 2 is refusal 3
    ∷ (record { asked = check two_links 3; wanted = visits 3 })
    ∷ (record { asked = check two_links 2; wanted = unsound 3 })
    ∷ []
