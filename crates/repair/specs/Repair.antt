-- What the repair of one block gives (request [11]: "A repair program reads one block of at most 30,000 bytes from standard input and writes, in the
-- writer's form, the fields document 01 would have read, so link counts 0 to 3 become 4"). Assumes nothing: these are definitions.
use Rattle.std.specs.Prelude.{ℕ, is_some, ◌+◌, ◌-◌, cond, List, [], ◌∷◌, ltb, length, Err, Ok, Result}
use Rattle.common.specs.Refusal.{number_of}
use Rattle.blocks.specs.Block.{record_from, parsed_for_repair}
use Rattle.blocks.specs.Make.{fixed_of, fields_of}
use Rattle.blocks.specs.Place.{references, value_words}
use Rattle.blocks.specs.declared.Block.{Block}
use Rattle.writer.specs.Write.{write_size, block_bytes}
use Rattle.common.specs.declared.refusal.Refusal.{Refusal}

-- "bad input" and a newline
abbrev pub bad_input : List ℕ
bad_input = 98 ∷ 97 ∷ 100 ∷ 32 ∷ 105 ∷ 110 ∷ 112 ∷ 117 ∷ 116 ∷ 10 ∷ []

-- "refused", a space, the number, which is 1, 2 or 4 (`refused_with`), and a newline
abbrev pub refused_line : ℕ → List ℕ
refused_line n = 114 ∷ 101 ∷ 102 ∷ 117 ∷ 115 ∷ 101 ∷ 100 ∷ 32 ∷ (48 + n) ∷ 10 ∷ []

-- a block that was read, in the writer's form, with its references and its values' 64 bits; bytes behind it are ignored
abbrev pub rewritten : List ℕ → Result Block Refusal → List ℕ
rewritten input (Ok b) = block_bytes b (references input b) (value_words input b)
rewritten input (Err r) = refused_line (number_of r)

-- all that is printed for an input: the block at address 0, as document 01 reads it
unfoldable pub repaired : List ℕ → List ℕ
repaired input = cond (ltb 30000 (length input)) bad_input (rewritten input (parsed_for_repair input 0))

-- the record that parsing gives for a repaired block: that of the block but for link count and block length, and without padding, which the repair does
-- not keep
abbrev pub with_four_links : Block → Block
with_four_links b =
    record_from
    (write_size (is_some b.range) (b.links - 4) b.valcount 0)
    (4 + (b.links - 4))
    (fixed_of b)
    (fields_of b)
    b.range
    b.firstref
    b.firstval
    0
    0
