-- The measure of the cycle of calls {follow, walk}: two for each level left, and one more in `follow`. The loop's invariant: the answer for all of
-- the block's references from the loop's start is the answer for those that are left from the present visits. Assumes nothing.
use mathlib.Core.Path.{◌≡◌}
use mathlib.Core.List.{List}
use Prim.Native.Nat.{ℕ, ◌+◌, ◌-◌, ◌*◌, ◌≤◌}
use Rattle.words.specs.Words.{words}
use Rattle.tree.specs.Walk.{Walk, walk_links, classed, answer, walk as walk_of}
use Rattle.tree.specs.Path.{walked, Same}
use Rattle.tree.specs.Follow.{Known}
use Rattle.tree.proofs.+follow_walk.Given as goal

abbrev pub decreases-follow : goal.decreases-follow
decreases-follow l = 2 * (21 - l.path.now.depth) + 1

abbrev pub decreases-walk : goal.decreases-walk
decreases-walk l = 2 * (21 - l.path.now.depth)

-- the walk of some references of the block that path ends with, with d levels left below it
abbrev pub rest : ℕ → List ℕ → List ℕ → List ℕ → Walk
rest d img path rs = walk_links (walk_of d img path) (classed img path) rs

abbrev pub invariant-walk-loop-i : goal.invariant-walk-loop-i
invariant-walk-loop-i l =
    (l.tally.visits ≤ l.limit)
    × Same l.initial.path l.path
    × Known (21 - l.initial.path.depth) l.image (walked l.initial.path) l.tally
    × (answer l.limit l.initial.tally.visits (rest (21 - l.initial.path.depth) l.image (walked l.initial.path) (words l.image (l.from + 56) l.refs))
    ≡ answer l.limit l.tally.visits
    (rest (21 - l.initial.path.depth) l.image (walked l.initial.path) (words l.image (l.from + 56 + 8 * l.i) (l.refs - l.i))))
