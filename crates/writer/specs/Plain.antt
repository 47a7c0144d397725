-- The writer as document 01 has it, which knows no padding: zero reserved bytes, nothing behind the values, refusals 9 and 8. So a record without padding
-- is written (`plain_writing_lem`). Assumes nothing: these are definitions.
use Rattle.std.specs.Prelude.{ℕ, is_some, ◌+◌, ◌*◌, Bool, cond, List, ◌++◌, ltb, Err, Ok, Result}
use Rattle.std.proofs.Math.ListN as ListN
use Rattle.words.specs.Words.{bytes4, bytes8, links}
use Rattle.common.specs.Header.{conversion_id}
use Rattle.common.specs.declared.refusal.Refusal.TheVariants.{Room, Count}
use Rattle.blocks.specs.Block.{range_size}
use Rattle.blocks.specs.declared.Block.{Block}
use Rattle.common.specs.Written.{output_holds, WriteCall, write_call}
use Rattle.writer.specs.Write.{fixed_bytes, field_bytes, range_bytes}
use Rattle.common.specs.declared.refusal.Refusal.{Refusal}

-- block length of exactly what is written
unfoldable pub plain_size : Bool → ℕ → ℕ → ℕ
plain_size ranged refs values = 64 + 8 * refs + range_size ranged + 8 * values

-- id ##CC, zero reserved bytes, block length, link count
unfoldable pub plain_header : ℕ → ℕ → List ℕ
plain_header length links = bytes4 conversion_id ++ bytes4 0 ++ bytes8 length ++ bytes8 links

-- all before the values; link count 4 + references
unfoldable pub plain_front : Block → List ℕ → ℕ → ℕ → List ℕ
plain_front b refs values length =
    plain_header length (4 + ListN.length refs) ++ fixed_bytes b ++ links refs ++ field_bytes b values ++ range_bytes b.range

-- the block with these references and these values' 64 bits
unfoldable pub plain_bytes : Block → List ℕ → List ℕ → List ℕ
plain_bytes b refs values =
    plain_front b refs (ListN.length values) (plain_size (is_some b.range) (ListN.length refs) (ListN.length values)) ++ links values

-- 9 over 65,535 values, before 8 where the output is too short; else how many bytes are written
unfoldable pub plain_answer : Bool → ℕ → ℕ → ℕ → Result ℕ Refusal
plain_answer ranged refs values room =
    cond (ltb 65535 values) (Err Count)
    (cond (ltb room (plain_size ranged refs values)) (Err Room) (Ok (plain_size ranged refs values)))

unfoldable pub plain_writing : Block → List ℕ → List ℕ → List ℕ → WriteCall
plain_writing b refs values out =
    let says = plain_answer (is_some b.range) (ListN.length refs) (ListN.length values) (ListN.length out) in
    write_call says (output_holds says (plain_bytes b refs values) out)
