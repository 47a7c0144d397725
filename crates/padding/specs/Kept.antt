-- Parsing that keeps the padding of a block (request [6]: "The parsed record also holds the reserved four bytes and how far block length exceeds what
-- was read"). Assumes nothing: these are definitions.
use Rattle.std.specs.Prelude.{ℕ, ◌+◌, ◌-◌, ◌*◌, Bool, cond, List, leb, Err, Ok, Result}
use Rattle.std.proofs.Math.ListN as ListN
use Rattle.words.specs.Words.{word32}
use Rattle.common.specs.declared.refusal.Refusal.TheVariants.{Short}
use Rattle.blocks.specs.Block.{parsed}
use Rattle.blocks.specs.Make.{with_padding}
use Rattle.blocks.specs.declared.Block.{Block}
use Rattle.common.specs.declared.refusal.Refusal.{Refusal}

-- the bytes that were read of a block end here
unfoldable pub read_end : Block → ℕ
read_end b = b.firstval + 8 * b.valcount

-- how far block length exceeds what was read of the block at a: `-` stops at 0, so a smaller length has none
unfoldable pub excess_at : ℕ → Block → ℕ
excess_at a b = (a + b.length) - read_end b

-- the block with its padding: "4 also when kept excess passes the image end"
unfoldable pub padded : List ℕ → ℕ → Block → Result Block Refusal
padded img a b =
    cond (leb (read_end b + excess_at a b) (ListN.length img))
    (Ok (with_padding b (word32 img (a + 4)) (excess_at a b)))
    (Err (Short a))

-- "for parsing in this mode only": what was parsed stays as it is in the plain one
abbrev pub keeping : Bool → List ℕ → ℕ → Result Block Refusal → Result Block Refusal
keeping keeps img a (Ok b) = cond keeps (padded img a b) (Ok b)
keeping keeps img a (Err r) = Err r

-- parsing one block in either mode
unfoldable pub parsed_in : Bool → List ℕ → ℕ → Result Block Refusal
parsed_in keeps img a = keeping keeps img a (parsed img a)
