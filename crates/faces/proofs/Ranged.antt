-- C's truth of a range comes back as it was. Assumes nothing.
use mathlib.Core.Path.{◌≡◌, refl}
use mathlib.Core.Bool.{Bool, true, false}
use Rattle.faces.specs.Block.{flag_of, is_set}

-- a range that was parsed is a range as given again, and none is none
pub ranged_again : (b : Bool) → is_set (flag_of b) ≡ b
ranged_again true = refl
ranged_again false = refl
