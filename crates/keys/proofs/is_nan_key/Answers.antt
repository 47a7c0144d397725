-- `keys::is_nan_key` meets its contract. Assumes nothing.
use mathlib.Core.Path.{ap, ◌∙◌}
use lib.Ieee.{binary64, nan_bits}
use lib.Ieee.Bits.{nan_bits_is}
use Rattle.words.specs.Words.{value_at}
use Rattle.keys.specs.Keys.{key_at}
use Rattle.keys.proofs.is_nan_key.Goals as goal

pub returns : goal.returns
unfolding key_at value_at
returns c = c.is_nan_pattern.ensures ∙ ap (nan_bits binary64) c.key_word.ensures ∙ nan_bits_is binary64 _
