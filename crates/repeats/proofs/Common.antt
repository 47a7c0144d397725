-- How many leading bytes two texts have in common, told by a third text and by one byte more. Assumes nothing.
use mathlib.Core.Path.{◌≡◌, refl, sym, ap, ◌∙◌}
use mathlib.Core.Bool.{Bool, true, false, cond}
use mathlib.Core.List.{List, [], ◌∷◌}
use Prim.Native.Nat.{ℕ, zero, suc, ◌+◌, ◌≤◌, ◌<◌}
use native.Mathlib.Omega.{arith}
use borrow.Author.Tests.{eqb-true, eqb-false, eq-eqb, ne_eqb}
use lib.Dec.{eqb}
use lib.ListN.{length, get_or, drop}
use Rattle.repeats.specs.Scan.{in_common, Through}

-- ---- by a third text: the one that leaves it first leaves the other there
pub leaves_first : (q t p : List ℕ) → in_common q p < in_common t p → in_common q t ≡ in_common q p
unfolding in_common
leaves_first [] t p h = refl
leaves_first (a ∷ q) [] p h = absurd (omega arith)
leaves_first (a ∷ q) (b ∷ t) [] h = absurd (omega arith)
leaves_first (a ∷ q) (b ∷ t) (c ∷ p) h = go (eqb a c) (eqb b c) (eqb a b) refl refl refl (in_common q p) (in_common t p) (in_common q t) (leaves_first q t p) h
  where
    go : (x y z : Bool) → eqb a c ≡ x → eqb b c ≡ y → eqb a b ≡ z → (m n k : ℕ) → (m < n → k ≡ m)
        → cond x (suc m) 0 < cond y (suc n) 0 → cond z (suc k) 0 ≡ cond x (suc m) 0
    go x false z ex ey ez m n k r h = absurd (omega arith)
    go true true true ex ey ez m n k r h = ap suc (r (omega arith))
    go true true false ex ey ez m n k r h = absurd (eqb-false a b ez (omega (arith, eqb-true a c ex, eqb-true b c ey)))
    go false true true ex ey ez m n k r h = absurd (eqb-false a c ex (omega (arith, eqb-true a b ez, eqb-true b c ey)))
    go false true false ex ey ez m n k r h = refl

pub left_first : (q t p : List ℕ) → in_common t p < in_common q p → in_common q t ≡ in_common t p
unfolding in_common
left_first [] t p h = absurd (omega arith)
left_first (a ∷ q) [] p h = refl
left_first (a ∷ q) (b ∷ t) [] h = absurd (omega arith)
left_first (a ∷ q) (b ∷ t) (c ∷ p) h = go (eqb a c) (eqb b c) (eqb a b) refl refl refl (in_common q p) (in_common t p) (in_common q t) (left_first q t p) h
  where
    go : (x y z : Bool) → eqb a c ≡ x → eqb b c ≡ y → eqb a b ≡ z → (m n k : ℕ) → (n < m → k ≡ n)
        → cond y (suc n) 0 < cond x (suc m) 0 → cond z (suc k) 0 ≡ cond y (suc n) 0
    go false y z ex ey ez m n k r h = absurd (omega arith)
    go true true true ex ey ez m n k r h = ap suc (r (omega arith))
    go true true false ex ey ez m n k r h = absurd (eqb-false a b ez (omega (arith, eqb-true a c ex, eqb-true b c ey)))
    go true false true ex ey ez m n k r h = absurd (eqb-false b c ey (omega (arith, eqb-true a b ez, eqb-true a c ex)))
    go true false false ex ey ez m n k r h = refl

pub left_together : (q t p : List ℕ) → in_common q p ≡ in_common t p → in_common q p ≤ in_common q t
unfolding in_common
left_together [] t p h = omega arith
left_together (a ∷ q) [] p h = omega arith
left_together (a ∷ q) (b ∷ t) [] h = omega arith
left_together (a ∷ q) (b ∷ t) (c ∷ p) h = go (eqb a c) (eqb b c) (eqb a b) refl refl refl (in_common q p) (in_common t p) (in_common q t) (left_together q t p) h
  where
    go : (x y z : Bool) → eqb a c ≡ x → eqb b c ≡ y → eqb a b ≡ z → (m n k : ℕ) → (m ≡ n → m ≤ k)
        → cond x (suc m) 0 ≡ cond y (suc n) 0 → cond x (suc m) 0 ≤ cond z (suc k) 0
    go false y z ex ey ez m n k r h = omega arith
    go true true true ex ey ez m n k r h = omega (arith, r (omega arith))
    go true true false ex ey ez m n k r h = absurd (eqb-false a b ez (omega (arith, eqb-true a c ex, eqb-true b c ey)))
    go true false z ex ey ez m n k r h = absurd (omega arith)

-- texts that have not as much in common with a third are not the same
pub not_same : (q t p : List ℕ) → (in_common q p ≡ in_common t p → ⊥) → q ≡ t → ⊥
not_same q t p h e = h (ap (λ (x : List ℕ). in_common x p) e)

-- ---- no more than there is
pub in_common_short : (x y : List ℕ) → in_common x y ≤ length x
unfolding in_common
in_common_short [] y = omega arith
in_common_short (a ∷ x) [] = omega arith
in_common_short (a ∷ x) (b ∷ y) = go (eqb a b) (in_common_short x y)
  where
    go : (z : Bool) → in_common x y ≤ length x → cond z (suc (in_common x y)) 0 ≤ suc (length x)
    go true r = omega arith
    go false r = omega arith

pub in_common_short' : (x y : List ℕ) → in_common x y ≤ length y
unfolding in_common
in_common_short' [] y = omega arith
in_common_short' (a ∷ x) [] = omega arith
in_common_short' (a ∷ x) (b ∷ y) = go (eqb a b) (in_common_short' x y)
  where
    go : (z : Bool) → in_common x y ≤ length y → cond z (suc (in_common x y)) 0 ≤ suc (length y)
    go true r = omega arith
    go false r = omega arith

pub no_longer : (x y : List ℕ) (l : ℕ) → l ≡ in_common x y → l ≤ length x
no_longer x y l e = omega (arith, in_common_short x y)

-- ---- one byte more, where two texts have l in common
-- a tail of both: what holds of it holds of both
module _ (a b : ℕ) (x y : List ℕ) (l : ℕ) where
  tail : (z : Bool) → suc l ≤ cond z (suc (in_common x y)) 0 → (z ≡ true) × (l ≤ in_common x y)
  tail true h = (refl, omega arith)
  tail false h = absurd (omega arith)

pub one_more : (x y : List ℕ) (l : ℕ) → l ≤ in_common x y → get_or x l 0 ≡ get_or y l 0 → (get_or x l 0 ≡ 0 → ⊥) → l + 1 ≤ in_common x y
unfolding in_common
one_more [] y l h e z = absurd (z refl)
one_more (a ∷ x) [] l h e z = absurd (z e)
one_more (a ∷ x) (b ∷ y) zero h e z = rw (eq-eqb a b e) (omega arith)
one_more (a ∷ x) (b ∷ y) (suc l) h e z =
    let t = tail a b x y l (eqb a b) h in
    rw t.0 (omega (arith, one_more x y l t.1 e z))

pub no_more : (x y : List ℕ) (l : ℕ) → l ≤ in_common x y → (get_or x l 0 ≡ get_or y l 0 → ⊥) → in_common x y ≡ l
unfolding in_common
no_more [] y l h e = omega arith
no_more (a ∷ x) [] l h e = omega arith
no_more (a ∷ x) (b ∷ y) zero h e = rw (ne_eqb a b e)
no_more (a ∷ x) (b ∷ y) (suc l) h e =
    let t = tail a b x y l (eqb a b) h in
    rw t.0 (ap suc (no_more x y l t.1 e))

-- both end there
pub both_end : (x y : List ℕ) (l : ℕ) → l ≤ in_common x y → drop l x ≡ [] → drop l y ≡ [] → x ≡ y
unfolding in_common
both_end x y zero h p q = p ∙ sym q
both_end [] y (suc l) h p q = absurd (omega arith)
both_end (a ∷ x) [] (suc l) h p q = absurd (omega arith)
both_end (a ∷ x) (b ∷ y) (suc l) h p q =
    let t = tail a b x y l (eqb a b) h in
    let e : a ≡ b = eqb-true a b t.0 in
    let r : x ≡ y = both_end x y l t.1 p q in
    cc

-- a byte that is another
pub differs : (x y : List ℕ) (l : ℕ) → l ≤ in_common x y → (get_or x l 0 ≡ get_or y l 0 → ⊥) → (in_common x y ≡ l) × (x ≡ y → ⊥)
differs x y l h e = (no_more x y l h e, λ s. e (ap (λ (z : List ℕ). get_or z l 0) s))

-- nothing is in common with the empty text
pub in_common_none : (x : List ℕ) → in_common x [] ≡ 0
unfolding in_common
in_common_none [] = refl
in_common_none (a ∷ x) = refl

-- ---- what a third text tells of two
module _ (q t : List ℕ) (a s mark : ℕ) (h : Through q t a s mark) where
  pub meets_first : a < s → (in_common q t ≡ a) × (q ≡ t → ⊥)
  meets_first l =
      let less : in_common q h.third < in_common t h.third = omega arith in
      (leaves_first q t h.third less ∙ h.one, not_same q t h.third (λ e. omega arith))

  pub meets_later : s < a → (in_common q t ≡ s) × (q ≡ t → ⊥)
  meets_later l =
      let less : in_common t h.third < in_common q h.third = omega arith in
      (left_first q t h.third less ∙ h.other, not_same q t h.third (λ e. omega arith))

  pub meets_both : a ≡ s → a ≤ in_common q t
  meets_both e =
      let same : in_common q h.third ≡ in_common t h.third = omega arith in
      omega (arith, left_together q t h.third same)

  pub meets_mark : a ≡ s → (get_or q a 0 ≡ mark → ⊥) → (in_common q t ≡ a) × (q ≡ t → ⊥)
  meets_mark e n =
      differs q t a (meets_both e) (λ m. n (m ∙ ap (λ (l : ℕ). get_or t l 0) e ∙ sym h.behind))

  pub meets_within : a ≤ length q
  meets_within = omega (arith, in_common_short q h.third, h.one)
