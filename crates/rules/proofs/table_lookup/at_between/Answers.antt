-- `rules::table_lookup::at_between` meets its contract. Assumes nothing.
use Rattle.rules.specs.Table.{between}
use Rattle.rules.proofs.table_lookup.at_between.Goals as goal

pub returns-then-k1-x : goal.returns-then-k1-x
unfolding between
returns-then-k1-x c = simp (c.if-near.true, c.if-k1-x.true)

pub returns-else-k1-x : goal.returns-else-k1-x
unfolding between
returns-else-k1-x c = simp (c.if-near.true, c.if-k1-x.false)

pub returns-else-near : goal.returns-else-near
unfolding between
returns-else-near c = simp c.if-near.false
