-- `leads::keys::value_key` meets its contract. Assumes nothing.
use Rattle.leads.specs.Keys.{value_key}
use Rattle.leads.proofs.keys.value_key.Goals as goal

pub returns : goal.returns
unfolding value_key
returns c = c.find_text.ensures
