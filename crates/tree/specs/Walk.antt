-- The walk of a conversion tree (document 01, "The check"): what an unlimited walk begins and how it ends, and what a limited one answers.
-- Assumes nothing: these are definitions.
use Rattle.std.specs.Prelude.{ℕ, zero, suc, ◌+◌, ◌-◌, Bool, true, false, cond, List, [], ◌∷◌, ◌++◌, eqb, ltb, length, get_or, Err, Ok, Result}
use Rattle.common.specs.Header.{inside, is_conversion}
use Rattle.common.specs.declared.refusal.Refusal.{Refusal}
use Rattle.common.specs.declared.refusal.Refusal.TheVariants.{Outside, NotConversion, Limit, Short, Deep, Loop, FewLinks}
use Rattle.blocks.specs.Block.{opened, few_links}
use Rattle.blocks.specs.Place.{references}
use Rattle.blocks.specs.declared.Block.{Block}
use Rattle.tree.specs.declared.Link.{Link}
use Rattle.tree.specs.declared.Link.TheVariants.{Nowhere, Back, Nested}

-- ---- the trace of an unlimited walk
-- the faults that a walk can meet: 18, 4, 5 and 6
pub data Fault : Type 0 where
  few : ℕ → Fault
  short : ℕ → Fault
  deep : ℕ → Fault
  loop : ℕ → Fault

pub data End : Type 0 where
  complete : End
  fault : Fault → End

-- the blocks begun, in order, repeats included, and how the walk ends
pub record Walk : Type 0 where
  pub visits : List ℕ
  pub ending : End

abbrev pub nothing : Walk
nothing = record { visits = []; ending = complete }

abbrev pub stopped : Fault → Walk
stopped f = record { visits = []; ending = fault f }

-- a visit is begun, and then what it meets
abbrev pub visit : ℕ → Walk → Walk
visit a w = record { visits = a ∷ w.visits; ending = w.ending }

abbrev pub onward : End → List ℕ → Walk → Walk
onward complete vs w = record { visits = vs ++ w.visits; ending = w.ending }
onward (fault f) vs w = record { visits = vs; ending = fault f }

-- one walk and then another, unless the first stops at a fault
abbrev pub and_then : Walk → Walk → Walk
and_then v w = onward v.ending v.visits w

-- an address is on a path
unfoldable pub on : ℕ → List ℕ → Bool
on x [] = false
on x (y ∷ ys) = cond (eqb y x) true (on x ys)

-- where a reference leads: 1. zero: skip; 2. an address on the current path: back; 3. address + 24 beyond the image: skip;
-- 4. id ##CC: nested; 5. any other id: no visit
unfoldable pub classed : List ℕ → List ℕ → ℕ → Link
classed img path r =
    cond (eqb r 0) Nowhere
    (cond (on r path) Back (cond (inside img r) (cond (is_conversion img r) Nested Nowhere) Nowhere))

abbrev pub followed : (ℕ → Walk) → Link → ℕ → Walk
followed f Nowhere r = nothing
followed f Back r = stopped (loop r)
followed f Nested r = f r

-- the references in order
unfoldable pub walk_links : (ℕ → Walk) → (ℕ → Link) → List ℕ → Walk
walk_links f k [] = nothing
walk_links f k (r ∷ rs) = and_then (followed f (k r) r) (walk_links f k rs)

-- a block with under four links stops the walk (request [11])
abbrev pub unless_few : ℕ → Bool → Walk → Walk
unless_few a true w = stopped (few a)
unless_few a false w = w

-- a short block stops the walk
abbrev pub unless_short : ℕ → Result Block Refusal → (Block → Walk) → Walk
unless_short a (Ok b) g = g b
unless_short a (Err r) g = stopped (short a)

-- the block at a is entered: 18 if it has under four links, then 4 if it is short, else what is done with it
unfoldable pub entered : List ℕ → ℕ → (Block → Walk) → Walk
entered img a g = unless_few a (few_links img a) (unless_short a (opened img a) g)

-- the walk of the block at a, below the blocks of path, with so many levels left: one visit; 18 and 4, then 5 if no level is left, then its
-- references, whatever its type
unfoldable pub walk : ℕ → List ℕ → List ℕ → ℕ → Walk
walk zero img path a = visit a (entered img a (λ b. stopped (deep a)))
walk (suc d) img path a =
    visit a (entered img a (λ b. walk_links (walk d img (path ++ (a ∷ []))) (classed img (path ++ (a ∷ []))) (references img b)))

-- from the root, at depth 0; a block at depth 20 is the deepest, so there are 21 levels
abbrev pub trace : List ℕ → ℕ → Walk
trace img a = walk 21 img [] a

-- ---- what a limited walk answers
abbrev pub fault_refusal : Fault → Refusal
fault_refusal (few a) = FewLinks a
fault_refusal (short a) = Short a
fault_refusal (deep a) = Deep a
fault_refusal (loop a) = Loop a

-- an accepted walk answers its count
abbrev pub ended : ℕ → End → Result ℕ Refusal
ended n complete = Ok n
ended n (fault f) = Err (fault_refusal f)

-- after v visits, with the limit l: 3 at the visit that would be one too many, if the walk begins so many, else its own ending
unfoldable pub answer : ℕ → ℕ → Walk → Result ℕ Refusal
answer l v w =
    cond (ltb (l - v) (length w.visits))
    (Err (Limit (get_or w.visits (l - v) 0)))
    (ended (v + length w.visits) w.ending)

-- root first: 1, 2, then the walk
unfoldable pub checked : List ℕ → ℕ → ℕ → Result ℕ Refusal
checked img a l =
    cond (inside img a)
    (cond (is_conversion img a) (answer l 0 (trace img a)) (Err (NotConversion a)))
    (Err (Outside a))
