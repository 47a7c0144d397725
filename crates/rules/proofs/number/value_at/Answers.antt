-- `rules::number::value_at` meets its contract. Assumes nothing.
use mathlib.Core.Path.{ap, ◌∙◌}
use lib.Ieee.{binary64, of_bits}
use Rattle.words.specs.Words.{value_at}
use Rattle.rules.proofs.number.value_at.Goals as goal

pub returns : goal.returns
unfolding value_at
returns c = c.from_bits.ensures ∙ ap (of_bits binary64) c.u64_at.ensures
