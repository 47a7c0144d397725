-- References and values read from the image by place (document 01, "References and values are read from the image by place").
-- Assumes nothing: these are definitions.
use Rattle.std.specs.Prelude.{ℕ, Option, Some, None, Float, zero, suc, ◌+◌, ◌-◌, ◌*◌, ◌&&◌, cond, List, [], ◌∷◌, leb, ltb}
use Rattle.std.proofs.Math.ListN as ListN
use Rattle.std.specs.Float.{binary64}
use Rattle.std.specs.Float.Ieee.{of_bits}
use Rattle.words.specs.Words.{word64, words}
use Rattle.blocks.specs.declared.Block.{Block}

-- the i-th of count words from a first place on, eight bytes each: none past the count, none past the image end
unfoldable pub word_in : List ℕ → ℕ → ℕ → ℕ → Option ℕ
word_in img first count i =
    cond (ltb i count && leb (first + 8 * i + 8) (ListN.length img)) (Some (word64 img (first + 8 * i))) None

unfoldable pub reference_of : List ℕ → Block → ℕ → Option ℕ
reference_of img b i = word_in img b.firstref (b.links - 4) i

unfoldable pub value_word_of : List ℕ → Block → ℕ → Option ℕ
value_word_of img b i = word_in img b.firstval b.valcount i

-- the f64 of a word
abbrev pub as_value : Option ℕ → Option Float
as_value (Some w) = Some (of_bits binary64 w)
as_value None = None

unfoldable pub value_of : List ℕ → Block → ℕ → Option Float
value_of img b i = as_value (value_word_of img b i)

-- all of a block's references, in order
unfoldable pub references : List ℕ → Block → List ℕ
references img b = words img b.firstref (b.links - 4)

-- and all of its values' 64 bits
unfoldable pub value_words : List ℕ → Block → List ℕ
value_words img b = words img b.firstval b.valcount

-- the i-th of a list of words, where there is one
unfoldable pub word_at : List ℕ → ℕ → Option ℕ
word_at [] i = None
word_at (w ∷ ws) zero = Some w
word_at (w ∷ ws) (suc i) = word_at ws i
