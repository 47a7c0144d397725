-- One reference of a block: what its walk answers by where it leads, and when it is not walked again. Assumes nothing.
use Rattle.std.specs.Prelude.{Err, Ok, Result}
use mathlib.Core.Path.{◌≡◌, refl, ap, subst, ◌∙◌}
use mathlib.Core.List.{List, ◌∷◌}
use Prim.Native.Nat.{ℕ, ◌+◌, ◌-◌, ◌≤◌}
use native.Mathlib.Omega.{arith}
use lib.ListN.{length}
use Rattle.common.specs.declared.refusal.Refusal.{Refusal}
use Rattle.common.specs.declared.refusal.Refusal.TheVariants.{Loop}
use Rattle.tree.specs.Walk.{loop, followed, walk_links, classed, walk, answer}
use Rattle.tree.specs.Follow.{reached, Known, Led}
use Rattle.tree.specs.declared.Link.{Link}
use Rattle.tree.specs.declared.Link.TheVariants.{Nowhere, Back, Nested}
use Rattle.tree.specs.declared.Tally.{Tally}
use Rattle.tree.proofs.Answers.{after, answer_nothing, answer_stopped, answer_then, accepted, answer_fits, answer_within}

module _ (d : ℕ) (img path : List ℕ) where
  -- ---- by where it leads
  module _ (r l v : ℕ) where
    abbrev answered : Link → Result ℕ Refusal
    answered k = answer l v (followed (walk d img path) k r)

    pub reach_nowhere : classed img path r ≡ Nowhere → answer l v (reached d img path r) ≡ Ok v
    unfolding reached
    reach_nowhere e = ap answered e ∙ answer_nothing l v

    pub reach_back : classed img path r ≡ Back → answer l v (reached d img path r) ≡ Err (Loop r)
    unfolding reached
    reach_back e = ap answered e ∙ answer_stopped l v (loop r)

    pub reach_nested : classed img path r ≡ Nested → answer l v (reached d img path r) ≡ answer l v (walk d img path r)
    unfolding reached
    reach_nested e = ap answered e

  -- ---- what is remembered
  -- NIL leads nowhere, and costs nothing
  pub known_none : (n : ℕ) → Known d img path (record { visits = n; last = 0; cost = 0 })
  unfolding reached classed
  known_none n = (refl, refl)

  -- an accepted reference costs the visits that it added
  pub known_now : (r l v m : ℕ) → answer l v (reached d img path r) ≡ Ok m → Known d img path (record { visits = m; last = r; cost = m - v })
  known_now r l v m p =
      let a = accepted l v (reached d img path r) m p in
      (a.1, omega (arith, a.2))

  -- the same reference again, while the limit leaves its cost
  pub reach_known : (t : Tally) (r l : ℕ) → Known d img path t → r ≡ t.last → t.cost ≤ l - t.visits
      → answer l t.visits (reached d img path r) ≡ Ok (t.visits + t.cost)
  reach_known t r l k e h =
      let cost : length (reached d img path t.last).visits ≤ l - t.visits = omega (arith, k.1) in
      ap (λ (x : ℕ). answer l t.visits (reached d img path x)) e
      ∙ answer_fits l t.visits (reached d img path t.last) k.0 cost
      ∙ ap (λ (n : ℕ). Ok (t.visits + n)) k.1

  -- ---- and then the other references
  module _ (r : ℕ) (rs : List ℕ) (l v : ℕ) (h : v ≤ l) (s : Result Tally Refusal) (led : Led d img path r l v s) where
    abbrev others : Result ℕ Refusal → Result ℕ Refusal
    others x = after x (λ n. answer l n (walk_links (walk d img path) (classed img path) rs))

    one : answer l v (walk_links (walk d img path) (classed img path) (r ∷ rs)) ≡ others (answer l v (reached d img path r))
    unfolding reached walk_links
    one = answer_then l v (reached d img path r) (walk_links (walk d img path) (classed img path) rs) h

    pub goes_on : (t : Tally) → s ≡ Ok t
        → (t.visits ≤ l)
        × Known d img path t
        × (answer l v (walk_links (walk d img path) (classed img path) (r ∷ rs)) ≡ answer l t.visits (walk_links (walk d img path) (classed img path) rs))
    goes_on t e =
        let k = subst (Led d img path r l v) e led in
        (answer_within l v (reached d img path r) t.visits h k.0, k.1, one ∙ ap others k.0)

    pub goes_off : (x : Refusal) → s ≡ Err x → answer l v (walk_links (walk d img path) (classed img path) (r ∷ rs)) ≡ Err x
    goes_off x e = one ∙ ap others (subst (Led d img path r l v) e led)
