-- Writing a text block (request [13]: "the 24-byte header with no links, text, one zero byte, then zeros up to a multiple of 8, all in its block length.
-- Text can't hold a zero byte"). Assumes nothing: these are definitions.
use Rattle.std.specs.Prelude.{ℕ, Err, ◌+◌, ◌-◌, ◌%◌, Bool, false, cond, ◌||◌, List, [], ◌∷◌, ◌++◌, eqb}
use Rattle.std.proofs.Math.ListN as ListN
use Rattle.words.specs.Words.{zeros}
use Rattle.common.specs.Header.{header_bytes}
use Rattle.common.specs.Written.{WriteCall, write_call, holding}
use Rattle.common.specs.declared.refusal.Refusal.TheVariants.{ZeroByte}
use Rattle.texts.specs.Read.{id_word}
use Rattle.texts.specs.declared.read.TextId.{TextId}

-- one of the bytes is zero
unfoldable pub holds_zero : List ℕ → Bool
holds_zero [] = false
holds_zero (b ∷ bs) = eqb b 0 || holds_zero bs

-- how many bytes there are from n up to a multiple of 8
abbrev pub up_to_eight : ℕ → ℕ
up_to_eight n = (8 - n % 8) % 8

-- the header, the text and one zero byte, and zeros up to a multiple of 8
unfoldable pub block_size : ℕ → ℕ
block_size n = 24 + n + 1 + up_to_eight (24 + n + 1)

-- reserved bytes of zero, no links
unfoldable pub text_block : TextId → List ℕ → List ℕ
text_block id text =
    let n = ListN.length text in
    header_bytes (id_word id) 0 (block_size n) 0 ++ text ++ (0 ∷ []) ++ zeros (up_to_eight (24 + n + 1))

-- "21 ZeroByte, then 8"
unfoldable pub writing_text : TextId → List ℕ → List ℕ → WriteCall
writing_text id text out = cond (holds_zero text) (write_call (Err ZeroByte) out) (holding (text_block id text) out)
