-- How the limited answer goes over the steps of a walk. Assumes nothing.
use Rattle.std.specs.Prelude.{Err, Ok, Result}
use mathlib.Core.Path.{◌≡◌, refl, sym, ap, ◌∙◌}
use mathlib.Core.Bool.{Bool, true, false}
use mathlib.Core.Logic.{◌⊎◌, inl, inr, ⊎_elim}
use mathlib.Core.List.{List, ◌∷◌, ◌++◌}
use Prim.Native.Nat.{ℕ, suc, ◌+◌, ◌-◌, ◌≤◌, ◌<◌}
use native.Mathlib.Nat.{add-zero}
use native.Mathlib.Omega.{arith}
use borrow.Author.Tests.{ltb-true, ltb-false, lt-ltb, le-ltb}
use lib.Dec.{ltb}
use lib.ListN.{length, get_or, length-append, get_or-append}
use lib.Seq.{get_or-append-add}
use Rattle.words.proofs.Clash.{clash}
use Rattle.common.specs.declared.refusal.Refusal.TheVariants.{Limit}
use Rattle.tree.specs.Walk.{Walk, Fault, End, complete, fault, nothing, stopped, visit, onward, and_then, fault_refusal, ended, answer}
use Rattle.common.specs.declared.refusal.Refusal.{Refusal}

pub lt_or_le : (a b : ℕ) → (a < b) ⊎ (b ≤ a)
lt_or_le a b = go (ltb a b) refl
  where
    go : (t : Bool) → ltb a b ≡ t → (a < b) ⊎ (b ≤ a)
    go true e = inl (ltb-true a b e)
    go false e = inr (ltb-false a b e)

-- an accepted count goes on, a refusal stays
abbrev pub after : Result ℕ Refusal → (ℕ → Result ℕ Refusal) → Result ℕ Refusal
after (Ok n) g = g n
after (Err r) g = Err r

-- ---- more visits than the limit leaves, or not
module _ (l v : ℕ) (w : Walk) where
  pub over : l - v < length w.visits → answer l v w ≡ Err (Limit (get_or w.visits (l - v) 0))
  unfolding answer
  over h = rw (lt-ltb _ _ h)

  pub under : length w.visits ≤ l - v → answer l v w ≡ ended (v + length w.visits) w.ending
  unfolding answer
  under h = rw (le-ltb _ _ h)

pub answer_nothing : (l v : ℕ) → answer l v nothing ≡ Ok v
answer_nothing l v = under l v nothing (omega arith) ∙ ap Ok (add-zero v)

pub answer_stopped : (l v : ℕ) (f : Fault) → answer l v (stopped f) ≡ Err (fault_refusal f)
answer_stopped l v f = under l v (stopped f) (omega arith)

-- the limit is used up
pub answer_full : (l a : ℕ) (w : Walk) → answer l l (visit a w) ≡ Err (Limit a)
answer_full l a w =
    let none : l - l ≡ 0 = omega arith in
    over l l (visit a w) (omega arith) ∙ ap (λ (k : ℕ). Err (Limit (get_or (a ∷ w.visits) k 0))) none

-- one visit more
pub answer_visit : (l v a : ℕ) (w : Walk) → v < l → answer l v (visit a w) ≡ answer l (v + 1) w
answer_visit l v a w h =
    let rest : l - v ≡ suc (l - (v + 1)) = omega arith in
    let count : v + suc (length w.visits) ≡ v + 1 + length w.visits = omega arith in
    ⊎_elim
    (λ lt.
    over l v (visit a w) (omega arith)
    ∙ ap (λ (k : ℕ). Err (Limit (get_or (a ∷ w.visits) k 0))) rest
    ∙ sym (over l (v + 1) w lt))
    (λ le. under l v (visit a w) (omega arith) ∙ ap (λ (n : ℕ). ended n w.ending) count ∙ sym (under l (v + 1) w le))
    (lt_or_le (l - (v + 1)) (length w.visits))

-- ---- two walks in a row
module _ (l v : ℕ) (vs : List ℕ) (w : Walk) (h : v ≤ l) where
  abbrev front : End → Walk
  front e = record { visits = vs; ending = e }

  abbrev then : Result ℕ Refusal → Result ℕ Refusal
  then x = after x (λ n. answer l n w)

  -- the first is longer than the limit leaves
  cut_short : (e : End) → l - v < length vs → answer l v (onward e vs w) ≡ then (answer l v (front e))
  cut_short complete lt =
      over l v (onward complete vs w) (omega (arith, length-append vs w.visits))
      ∙ ap (λ (n : ℕ). Err (Limit n)) (get_or-append vs w.visits 0 (l - v) lt)
      ∙ sym (ap then (over l v (front complete) lt))
  cut_short (fault f) lt = over l v (front (fault f)) lt ∙ sym (ap then (over l v (front (fault f)) lt))

  passed : length vs ≤ l - v → answer l v (onward complete vs w) ≡ answer l (v + length vs) w
  passed le =
      let all : length (vs ++ w.visits) ≡ length vs + length w.visits = length-append vs w.visits in
      let rest : l - v ≡ length vs + (l - (v + length vs)) = omega arith in
      let count : v + length (vs ++ w.visits) ≡ v + length vs + length w.visits = omega arith in
      ⊎_elim
      (λ lt.
      over l v (onward complete vs w) (omega arith)
      ∙ ap
      (λ (n : ℕ). Err (Limit n))
      (ap (λ (k : ℕ). get_or (vs ++ w.visits) k 0) rest ∙ get_or-append-add vs w.visits (l - (v + length vs)) 0)
      ∙ sym (over l (v + length vs) w lt))
      (λ ge.
      under l v (onward complete vs w) (omega arith)
      ∙ ap (λ (n : ℕ). ended n w.ending) count
      ∙ sym (under l (v + length vs) w ge))
      (lt_or_le (l - (v + length vs)) (length w.visits))

  gone_on : (e : End) → length vs ≤ l - v → answer l v (onward e vs w) ≡ then (answer l v (front e))
  gone_on complete le = passed le ∙ sym (ap then (under l v (front complete) le))
  gone_on (fault f) le = under l v (front (fault f)) le ∙ sym (ap then (under l v (front (fault f)) le))

pub answer_then : (l v : ℕ) (u w : Walk) → v ≤ l → answer l v (and_then u w) ≡ after (answer l v u) (λ n. answer l n w)
answer_then l v u w h =
    ⊎_elim
    (λ lt. cut_short l v u.visits w h u.ending lt)
    (λ le. gone_on l v u.visits w h u.ending le)
    (lt_or_le (l - v) (length u.visits))

-- ---- an accepted walk: it is complete, it fits the limit, and its count is that of its visits
ended_accepted : (n m : ℕ) (e : End) → ended n e ≡ Ok m → (e ≡ complete) × (n ≡ m)
ended_accepted n m complete p = (refl, (cc))
ended_accepted n m (fault f) p = clash cc

pub accepted : (l v : ℕ) (w : Walk) (n : ℕ) → answer l v w ≡ Ok n
    → (length w.visits ≤ l - v) × (w.ending ≡ complete) × (v + length w.visits ≡ n)
accepted l v w n p =
    ⊎_elim
    (λ lt. let q = over l v w lt in clash cc)
    (λ le. let e = ended_accepted (v + length w.visits) n w.ending (sym (under l v w le) ∙ p) in (le, e.0, e.1))
    (lt_or_le (l - v) (length w.visits))

pub answer_within : (l v : ℕ) (w : Walk) (n : ℕ) → v ≤ l → answer l v w ≡ Ok n → n ≤ l
answer_within l v w n h p = let a = accepted l v w n p in omega (arith, a.0, a.2)

-- a complete walk that fits the limit is accepted
pub answer_fits : (l v : ℕ) (w : Walk) → w.ending ≡ complete → length w.visits ≤ l - v → answer l v w ≡ Ok (v + length w.visits)
answer_fits l v w e h = under l v w h ∙ ap (ended (v + length w.visits)) e

-- what was accepted once is accepted again after other visits, at the same cost, while the limit leaves it
pub answer_again : (l v : ℕ) (w : Walk) (m u : ℕ) → answer l v w ≡ Ok m → u + (m - v) ≤ l → answer l u w ≡ Ok (u + (m - v))
answer_again l v w m u p h =
    let a = accepted l v w m p in
    let count : u + length w.visits ≡ u + (m - v) = omega (arith, a.2) in
    answer_fits l u w a.1 (omega (arith, a.2)) ∙ ap Ok count
