-- A refusal that is none of 12, 13 and 14 carries no index. Assumes nothing.
use Rattle.std.specs.Prelude.{None}
use mathlib.Core.Path.{◌≡◌, refl}
use mathlib.Core.List.{List, [], ◌∷◌}
use Prim.Native.Nat.{ℕ}
use denote.Enum.Declared.{tag_of}
use types.Run.{OneOf, miss}
use Rattle.common.specs.Refusal.{index_of}
use Rattle.common.specs.declared.refusal.Refusal.{Refusal}
use Rattle.common.specs.declared.refusal.Refusal.TheVariants.{Outside, NotConversion, Limit, Short, Deep, Loop, FewLinks, NotTextBlock, WrongType, NotText, Repeated, Key, Formula, Room, Count, Width, Edition, Padding, ZeroByte}
use Rattle.common.specs.contracts.refusal.Refusal as refusals

-- the numbers of the other variants
abbrev others : List ℕ
others = 0 ∷ 1 ∷ 2 ∷ 3 ∷ 4 ∷ 5 ∷ 6 ∷ 7 ∷ 8 ∷ 12 ∷ 13 ∷ 14 ∷ 15 ∷ 16 ∷ 17 ∷ 18 ∷ []

pub no_index : (r : Refusal) → OneOf (0 ∷ 1 ∷ 2 ∷ 3 ∷ 4 ∷ 5 ∷ 6 ∷ 7 ∷ 8 ∷ 12 ∷ 13 ∷ 14 ∷ 15 ∷ 16 ∷ 17 ∷ 18 ∷ []) (tag_of refusals.the_type r) → index_of r ≡ None
no_index (Outside a) h = refl
no_index (NotConversion a) h = refl
no_index (Limit a) h = refl
no_index (Short a) h = refl
no_index (Deep a) h = refl
no_index (Loop a) h = refl
no_index (FewLinks a) h = refl
no_index (NotTextBlock a) h = refl
no_index (WrongType a) h = refl
no_index (NotText i) h = absurd (miss others 9 tt h)
no_index (Repeated i) h = absurd (miss others 10 tt h)
no_index (Key i) h = absurd (miss others 11 tt h)
no_index Formula h = refl
no_index Room h = refl
no_index Count h = refl
no_index Width h = refl
no_index Edition h = refl
no_index Padding h = refl
no_index ZeroByte h = refl
