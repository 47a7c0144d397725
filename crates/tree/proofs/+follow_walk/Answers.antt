-- The proof of the cycle of calls {follow, walk}. Assumes nothing.
use Rattle.std.specs.Prelude.{Some, Result}
use Rattle.common.specs.declared.refusal.Refusal.{Refusal}
use Rattle.tree.specs.declared.Tally.{Tally}
use Rattle.std.proofs.lemmas.Result.{err_from_is_err_and, IfOk-at_ok}
use mathlib.Core.Path.{◌≡◌, refl, sym, ap, subst, ◌∙◌}
use mathlib.Core.Bool.{true, false}
use mathlib.Core.List.{List, [], ◌∷◌, ◌++◌}
use Prim.Native.Nat.{ℕ, suc, ◌+◌, ◌-◌, ◌*◌, ◌<◌, ◌≤◌}
use native.Mathlib.Omega.{arith}
use lib.ListN.{length, take}
use lib.Seq.{length-take-le}
use Rattle.words.specs.Words.{words, word64}
use Rattle.common.specs.Header.{is_conversion}
use Rattle.blocks.specs.Block.{few_links}
use Rattle.blocks.specs.View.{seen}
use Rattle.blocks.specs.declared.view.View.{View}
use Rattle.blocks.proofs.Looking.{seen_room}
use Rattle.tree.specs.Walk.{walk_links, answer, walk as walk_of}
use Rattle.tree.specs.Path.{walked}
use Rattle.tree.specs.Follow.{Standing, Known, Led}
use Rattle.tree.proofs.Answers.{answer_nothing, accepted}
use Rattle.tree.proofs.Following.{reach_nowhere, reach_back, reach_nested, known_none, known_now, reach_known, goes_on, goes_off}
use Rattle.tree.proofs.Blocks.{walk_full, walk_few, walk_short, walk_deep, walk_open, words_more, words_none, words_all}
use Rattle.tree.proofs.Paths.{nested_fits, nested_conversion, standing_more, kept}
use Rattle.tree.proofs.+follow_walk.Invariants.{rest}
use Rattle.tree.proofs.+follow_walk.Goals as goal

-- ---- one reference
pub follow-returns-in-Nowhere-clause-led : goal.follow-returns-in-Nowhere-clause-led
follow-returns-in-Nowhere-clause-led t c =
    let a = c.args in
    let e = sym c.class.ensures ∙ c.in-Nowhere.is in
    (reach_nowhere (21 - a.path.now.depth) a.image.now (walked a.path.now) a.r a.limit a.tally.visits e, c.requires.standing.1)

pub follow-returns-in-Back-clause-led : goal.follow-returns-in-Back-clause-led
follow-returns-in-Back-clause-led t c =
    let a = c.args in
    let e = sym c.class.ensures ∙ c.in-Back.is in
    reach_back (21 - a.path.now.depth) a.image.now (walked a.path.now) a.r a.limit a.tally.visits e

pub follow-returns-then-tally-limit-clause-led : goal.follow-returns-then-tally-limit-clause-led
follow-returns-then-tally-limit-clause-led t c =
    let a = c.args in
    let k = c.requires.standing.1 in
    (reach_known (21 - a.path.now.depth) a.image.now (walked a.path.now) a.tally a.r a.limit k (omega arith) c.if-tally-limit.true, k)

pub follow-walk-requires : goal.follow-walk-requires
follow-walk-requires t c =
    let a = c.args in
    let path = walked a.path.now in
    let e = sym c.class.ensures ∙ c.in-Nested.is in (
      omega (arith, c.decreases),
      (
        c.requires.in_limit,
        (nested_fits a.image.now path a.r e, nested_conversion a.image.now path a.r e, c.requires.standing.0),
      ),
    )

pub follow-overflow_sub-result : goal.follow-overflow_sub-result
follow-overflow_sub-result t c =
    let p = accepted _ _ _ _ (sym c.walk.ensures.value ∙ c.in_ok-visits.was) in
    omega (arith, p.2)

pub follow-returns-clause-led : goal.follow-returns-clause-led
follow-returns-clause-led t c =
    let a = c.args in
    let path = walked a.path.now in
    let e = sym c.class.ensures ∙ c.in-Nested.is in
    let p = reach_nested (21 - a.path.now.depth) a.image.now path a.r a.limit a.tally.visits e ∙ (sym c.walk.ensures.value ∙ c.in_ok-visits.was) in
    (p, known_now (21 - a.path.now.depth) a.image.now path a.r a.limit a.tally.visits _ p)

pub follow-returns-in_err-visits-clause-led : goal.follow-returns-in_err-visits-clause-led
follow-returns-in_err-visits-clause-led t c =
    let a = c.args in
    let path = walked a.path.now in
    let e = sym c.class.ensures ∙ c.in-Nested.is in
    let given = err_from_is_err_and c.from_residual.result c.from_residual.ensures.1 in
    rw (given.1, given.2)
    (reach_nested (21 - a.path.now.depth) a.image.now path a.r a.limit a.tally.visits e ∙ (sym c.walk.ensures.value ∙ c.in_err-visits.was))

-- ---- the definition at the code's values
-- a block, the path to it, and the path with the block itself
module _ (img outer own : List ℕ) (at n d : ℕ) (own_is : own ≡ outer ++ (at ∷ [])) (left : n ≡ suc d) where
  stands : Standing img outer → at + 24 ≤ length img → is_conversion img at ≡ true → Standing img own
  stands above fits is = subst (Standing img) (sym own_is) (standing_more img outer at above fits is)

  -- at the loop's start
  opens : (limit visits : ℕ) (v : View) → visits < limit → few_links img at ≡ false → seen img at ≡ Some v
      → answer limit visits (walk_of n img outer at) ≡ answer limit (visits + 1) (rest d img own (words img (at + 56) v.refs))
  opens limit visits v more links is =
      walk_open img outer at limit visits v more links is n d left
      ∙ ap (λ (p : List ℕ). answer limit (visits + 1) (rest d img p (words img (at + 56) v.refs))) (sym own_is)

-- what a reference is led to, from the path that the loop has to the one that it began with
led_on : (img path own : List ℕ) (depth n r l v : ℕ) (s : Result Tally Refusal) → depth ≡ n → path ≡ own → Led (21 - depth) img path r l v s → Led (21 - n) img own r l v s
led_on img path own depth n r l v s e f h = subst (λ (p : List ℕ). Led (21 - n) img p r l v s) f (subst (λ (k : ℕ). Led (21 - k) img path r l v s) e h)

-- in a turn
turn : (img own : List ℕ) (at d limit first n refs i r : ℕ) → i < refs → r ≡ word64 img (at + 56 + 8 * i)
    → answer limit first (rest d img own (words img (at + 56) refs)) ≡ answer limit n (rest d img own (words img (at + 56 + 8 * i) (refs - i)))
    → answer limit first (rest d img own (words img (at + 56) refs))
    ≡ answer limit n (rest d img own (r ∷ words img (at + 56 + 8 * (i + 1)) (refs - (i + 1))))
turn img own at d limit first n refs i r more read so =
    so
    ∙ ap (λ (rs : List ℕ). answer limit n (rest d img own rs)) (words_more img (at + 56) refs i more)
    ∙ ap (λ (x : ℕ). answer limit n (rest d img own (x ∷ words img (at + 56 + 8 * (i + 1)) (refs - (i + 1))))) (sym read)

-- ---- one block
pub walk-returns-then-visits-limit-clause-value : goal.walk-returns-then-visits-limit-clause-value
walk-returns-then-visits-limit-clause-value t c =
    let a = c.args in
    sym (walk_full a.image.now (walked a.path.now) a.at a.limit a.visits (21 - a.path.now.depth) c.if-visits-limit.true)

pub walk-returns-then-has_few_links-clause-value : goal.walk-returns-then-has_few_links-clause-value
walk-returns-then-has_few_links-clause-value t c =
    let a = c.args in
    let more : a.visits < a.limit = omega (arith, c.requires.in_limit, c.if-visits-limit.false) in
    sym
    (walk_few a.image.now (walked a.path.now) a.at a.limit a.visits (21 - a.path.now.depth) more
    (sym c.has_few_links.ensures ∙ c.if-has_few_links.true))

pub walk-returns-in_default-clause-value : goal.walk-returns-in_default-clause-value
walk-returns-in_default-clause-value t c =
    let a = c.args in
    let more : a.visits < a.limit = omega (arith, c.requires.in_limit, c.if-visits-limit.false) in
    sym
    (walk_short a.image.now (walked a.path.now) a.at a.limit a.visits (21 - a.path.now.depth) more
    (sym c.has_few_links.ensures ∙ c.if-has_few_links.false)
    (sym c.look.ensures ∙ c.in_default.is))

pub walk-returns-then-path-eq-LEVELS-clause-value : goal.walk-returns-then-path-eq-LEVELS-clause-value
walk-returns-then-path-eq-LEVELS-clause-value t c =
    let a = c.args in
    let more : a.visits < a.limit = omega (arith, c.requires.in_limit, c.if-visits-limit.false) in
    sym
    (walk_deep a.image.now (walked a.path.now) a.at a.limit a.visits c.in-Some.view more
    (sym c.has_few_links.ensures ∙ c.if-has_few_links.false)
    (sym c.look.ensures ∙ c.in-Some.is)
    (21 - a.path.now.depth)
    (omega (arith, c.if-path-eq-LEVELS.true)))

pub walk-loop-i-init : goal.walk-loop-i-init
walk-loop-i-init t c =
    let a = c.args in
    let img = a.image.now in
    let outer = a.path.now in
    let own = c.push.new.self in
    let d = 21 - own.depth in
    let left : 21 - outer.depth ≡ suc d = omega arith in
    let refs = c.in-Some.view.refs in (
      omega (arith, c.requires.in_limit, c.if-visits-limit.false),
      (refl, refl),
      known_none d img (walked own) (a.visits + 1),
      ap (λ (rs : List ℕ). answer a.limit (a.visits + 1) (rest d img (walked own) rs)) (words_all img (a.at + 56) refs),
    )

pub walk-overflow_mul-i : goal.walk-overflow_mul-i
walk-overflow_mul-i t c =
    let room = seen_room _ _ _ (sym c.look.ensures ∙ c.in-Some.is) in
    omega (arith, room)

pub walk-overflow_add-from-in-loop-i : goal.walk-overflow_add-from-in-loop-i
walk-overflow_add-from-in-loop-i t c =
    let room = seen_room _ _ _ (sym c.look.ensures ∙ c.in-Some.is) in
    omega (arith, room)

pub walk-u64_at-r-requires : goal.walk-u64_at-r-requires
walk-u64_at-r-requires t c =
    let room = seen_room _ _ _ (sym c.look.ensures ∙ c.in-Some.is) in
    omega (arith, room)

pub walk-follow-requires : goal.walk-follow-requires
walk-follow-requires t c =
    let a = c.args in
    let img = a.image.now in
    let outer = a.path.now in
    let own = c.push.new.self in
    let d = 21 - own.depth in
    let left : 21 - outer.depth ≡ suc d = omega arith in
    let l = c.loop-i in
    let q = c.requires.at_in_bounds in
    let depth = l.invariant.1.0 in (
      omega (arith, c.decreases, depth),
      (
        l.invariant.0,
        (
          subst (Standing img) (sym l.invariant.1.1) (stands img (walked outer) (walked own) a.at _ d c.push.ensures.path left q.2 q.0 q.1),
          subst (λ (p : List ℕ). Known (21 - l.path.depth) img p l.tally) (sym l.invariant.1.1)
              (subst (λ (k : ℕ). Known (21 - k) img (walked own) l.tally) (sym depth) l.invariant.2),
        ),
      ),
    )

pub walk-returns-in_err-tally-clause-value : goal.walk-returns-in_err-tally-clause-value
walk-returns-in_err-tally-clause-value t c =
    let a = c.args in
    let img = a.image.now in
    let outer = a.path.now in
    let own = c.push.new.self in
    let d = 21 - own.depth in
    let left : 21 - outer.depth ≡ suc d = omega arith in
    let l = c.loop-i in
    let refs = c.in-Some.view.refs in
    let more : a.visits < a.limit = omega (arith, c.requires.in_limit, c.if-visits-limit.false) in
    let led = led_on img (walked l.path) (walked own) l.path.depth own.depth c.u64_at-r.result a.limit l.tally.visits c.follow.result l.invariant.1.0 l.invariant.1.1 c.follow.ensures.led in
    let given = err_from_is_err_and c.from_residual.result c.from_residual.ensures.1 in
    rw (given.1, given.2)
    (sym
    (opens img (walked outer) (walked own) a.at _ d c.push.ensures.path left a.limit a.visits c.in-Some.view more
    (sym c.has_few_links.ensures ∙ c.if-has_few_links.false)
    (sym c.look.ensures ∙ c.in-Some.is)
    ∙ turn img (walked own) a.at d a.limit (a.visits + 1) l.tally.visits refs l.i c.u64_at-r.result c.loop-i-test.true c.u64_at-r.ensures l.invariant.3
    ∙ goes_off d img (walked own) c.u64_at-r.result (words img (a.at + 56 + 8 * (l.i + 1)) (refs - (l.i + 1))) a.limit
    l.tally.visits l.invariant.0 c.follow.result led _ c.in_err-tally.was))

pub walk-loop-i-preserved : goal.walk-loop-i-preserved
walk-loop-i-preserved t c =
    let a = c.args in
    let img = a.image.now in
    let outer = a.path.now in
    let own = c.push.new.self in
    let d = 21 - own.depth in
    let left : 21 - outer.depth ≡ suc d = omega arith in
    let l = c.loop-i in
    let refs = c.in-Some.view.refs in
    let led = led_on img (walked l.path) (walked own) l.path.depth own.depth c.u64_at-r.result a.limit l.tally.visits c.follow.result l.invariant.1.0 l.invariant.1.1 c.follow.ensures.led in
    let same = IfOk-at_ok _ c.in_ok-tally.was c.follow.ensures.path_unchanged in
    let g =
    goes_on d img (walked own) c.u64_at-r.result (words img (a.at + 56 + 8 * (l.i + 1)) (refs - (l.i + 1))) a.limit l.tally.visits
    l.invariant.0 c.follow.result led _ c.in_ok-tally.was in (
      g.0,
      (same.0 ∙ l.invariant.1.0, same.1 ∙ l.invariant.1.1),
      g.1,
      turn img (walked own) a.at d a.limit (a.visits + 1) l.tally.visits refs l.i c.u64_at-r.result c.loop-i-test.true c.u64_at-r.ensures l.invariant.3
          ∙ g.2,
    )

pub walk-returns-clause-value : goal.walk-returns-clause-value
unfolding walk_links
walk-returns-clause-value t c =
    let a = c.args in
    let img = a.image.now in
    let outer = a.path.now in
    let own = c.push.new.self in
    let d = 21 - own.depth in
    let left : 21 - outer.depth ≡ suc d = omega arith in
    let l = c.loop-i in
    let refs = c.in-Some.view.refs in
    let more : a.visits < a.limit = omega (arith, c.requires.in_limit, c.if-visits-limit.false) in
    sym
    (opens img (walked outer) (walked own) a.at _ d c.push.ensures.path left a.limit a.visits c.in-Some.view more
    (sym c.has_few_links.ensures ∙ c.if-has_few_links.false)
    (sym c.look.ensures ∙ c.in-Some.is)
    ∙ l.invariant.3
    ∙ ap (λ (rs : List ℕ). answer a.limit l.tally.visits (rest d img (walked own) rs)) (words_none img (a.at + 56) refs l.i c.loop-i-test.false)
    ∙ answer_nothing a.limit l.tally.visits)

pub walk-returns-clause-path_unchanged : goal.walk-returns-clause-path_unchanged
walk-returns-clause-path_unchanged t c =
    let outer = c.args.path.now in
    let own = c.push.new.self in
    let same = c.loop-i.invariant.1 in
    let inside = outer.inside in
    let len : length (walked outer) ≡ outer.depth = rw length-take-le in
    let depth : c.pop.new.self.depth ≡ outer.depth = omega (arith, same.0) in (
      depth,
      c.pop.ensures.path
          ∙ ap (take c.pop.new.self.depth) same.1
          ∙ ap (λ (k : ℕ). take k (walked own)) depth
          ∙ kept (walked outer) (walked own) outer.depth c.args.at len c.push.ensures.path,
    )
