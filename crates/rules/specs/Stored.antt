-- The values that a block stores, as the code has them. Assumes nothing: these are definitions.
use Rattle.std.specs.Prelude.{ℕ, List, get_or, Float}
use Rattle.std.specs.Float.{nan}
use Rattle.rules.specs.Values.{values}
use Rattle.rules.specs.declared.stored.Values.{Values}

-- all of them, in order
abbrev pub listed : Values → List Float
listed v = values v.image.now v.first v.count

-- the i-th
abbrev pub stored_value : Values → ℕ → Float
stored_value v i = get_or (listed v) i nan
