-- `keys::number_at` meets its contract. Assumes nothing.
use mathlib.Core.Path.{◌≡◌, ap, ◌∙◌}
use mathlib.Core.Bool.{false}
use lib.Ieee.{binary64, of_bits, nan_bits}
use lib.Ieee.Bits.{nan_bits_is}
use Rattle.floats.proofs.Nan.{not_true}
use Rattle.words.specs.Words.{value_at}
use Rattle.keys.specs.Keys.{key_at}
use Rattle.keys.proofs.number_at.Goals as goal

pub float_from_bits-result : goal.float_from_bits-result
unfolding key_at value_at
float_from_bits-result c =
    let plain : nan_bits binary64 c.key_word.result ≡ false = ap (nan_bits binary64) c.key_word.ensures ∙ nan_bits_is binary64 _ ∙ c.requires.1 in
    not_true _ plain

pub returns : goal.returns
unfolding key_at value_at
returns c = ap (of_bits binary64) c.key_word.ensures
