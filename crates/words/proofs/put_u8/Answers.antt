-- `words::put_u8` meets its contract. Assumes nothing.
use Rattle.words.specs.Words.{put}
use borrow.Author.Rules.{rules}
use Rattle.words.proofs.put_u8.Goals as goal

pub returns : goal.returns
unfolding put
returns c = search rules
