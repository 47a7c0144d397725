-- `words::Cursor::read_f64` meets its contract. Assumes nothing.
use Rattle.std.proofs.Common.{rules}
use Rattle.words.specs.Words.{value_at}
use Rattle.words.proofs.Cursor.read_f64.Goals as goal

pub returns-clause-value : goal.returns-clause-value
unfolding value_at
returns-clause-value c = search rules
