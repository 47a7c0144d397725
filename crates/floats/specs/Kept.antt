-- The bits that are written for a float (document 01, "What the promises owe": a computed NaN's bits are the one exception, a read NaN's are not).
-- Assumes nothing: a definition.
use Rattle.std.specs.Prelude.{ℕ, cond, ◌&&◌, is_nan, to_bits, Float}
use Rattle.std.specs.Float.{binary64}
use Rattle.std.specs.Float.Ieee.{nan_bits}

-- a NaN keeps the word that it was read from, where that spells a NaN; any other float has bits of its own
unfoldable pub kept_bits : Float → ℕ → ℕ
kept_bits x word = cond (is_nan x && nan_bits binary64 word) word (to_bits binary64 x)
