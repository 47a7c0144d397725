-- The text of an answer, and what is shown of type 10, are the text that a whole text block had when its end was told with its start: the bytes from
-- byte 24 on, as many as the block length less 24 or up to the first zero byte. Assumes nothing.
use Rattle.std.specs.Prelude.{Some}
use mathlib.Core.Path.{◌≡◌, ap, ◌∙◌}
use mathlib.Core.List.{List}
use Prim.Native.Nat.{ℕ, ◌+◌, ◌-◌}
use native.Mathlib.Omega.{arith}
use lib.ListN.{length, take, drop}
use Rattle.words.specs.Words.{word64}
use Rattle.common.specs.Text.{until_zero, text_bytes, shown}
use Rattle.common.proofs.Texts.{text_shown}

-- a text block's text by its header
abbrev pub block_text : List ℕ → ℕ → List ℕ
block_text img a = until_zero (take (word64 img (a + 8) - 24) (drop (a + 24) img))

-- the text of the block's run is that text
pub same_text : (img : List ℕ) (a : ℕ) → text_bytes img (a + 24) (a + word64 img (a + 8)) ≡ block_text img a
unfolding text_bytes
same_text img a =
    let size : (a + word64 img (a + 8)) - (a + 24) ≡ word64 img (a + 8) - 24 = omega arith in
    ap (λ (n : ℕ). until_zero (take n (drop (a + 24) img))) size

-- and so is what the part shows that is cut off where the text ends
pub same_part : (img : List ℕ) (a : ℕ)
    → shown img (Some (record { from = a + 24; to = a + 24 + length (text_bytes img (a + 24) (a + word64 img (a + 8))) })) ≡ block_text img a
same_part img a = text_shown img (a + 24) (a + word64 img (a + 8)) ∙ same_text img a
