-- Laws of a path. Assumes nothing.
use mathlib.Core.Path.{◌≡◌, refl, sym, ap, subst, ◌∙◌}
use mathlib.Core.Bool.{Bool, true, false, ◌||◌, cond}
use Rattle.std.specs.Prelude.{nat_eq}
use Rattle.std.specs.List.{list_any}
use mathlib.Core.Logic.{◌⊎◌, inl, inr, ⊎_elim}
use mathlib.Core.List.{List, [], ◌∷◌, ◌++◌}
use Prim.Native.Nat.{ℕ, ◌+◌, ◌≤◌}
use native.Mathlib.Omega.{arith}
use borrow.Author.Tests.{eqb-true, le-leb}
use lib.Dec.{eqb}
use lib.ListN.{length, take}
use Rattle.std.proofs.lemmas.List.{take_at}
use Rattle.words.proofs.Clash.{clash}
use Rattle.common.specs.Header.{inside, is_conversion}
use Rattle.common.proofs.Headers.{inside_fits}
use Rattle.tree.specs.Follow.{Standing}
use Rattle.tree.specs.Walk.{on, classed}
use Rattle.tree.specs.declared.Link.TheVariants.{Nowhere, Back, Nested}

-- the library's search finds an address on a path exactly if it is on it
pub on_any : (x : ℕ) (l : List ℕ) → list_any (λ y. nat_eq y x) l ≡ on x l
unfolding on
on_any x [] = refl
on_any x (y ∷ ys) = go (eqb y x) (on_any x ys)
  where
    go : (b : Bool) → list_any (λ z. nat_eq z x) ys ≡ on x ys → (b || list_any (λ z. nat_eq z x) ys) ≡ cond b true (on x ys)
    go true e = refl
    go false e = e

-- what keeps the path with a block's own address keeps the path
pub kept : (outer own : List ℕ) (d a : ℕ) → length outer ≡ d → own ≡ outer ++ (a ∷ []) → take d own ≡ outer
kept outer own d a len e = ap (take d) e ∙ take_at outer (a ∷ []) d len

-- a reference to a nested block leads to a header in the image
pub nested_fits : (img path : List ℕ) (r : ℕ) → classed img path r ≡ Nested → r + 24 ≤ length img
unfolding classed
nested_fits img path r e = go (eqb r 0) (on r path) (inside img r) refl e
  where
    go : (x y z : Bool) → inside img r ≡ z
        → cond x Nowhere (cond y Back (cond z (cond (is_conversion img r) Nested Nowhere) Nowhere)) ≡ Nested → r + 24 ≤ length img
    go true y z t p = clash cc
    go false true z t p = clash cc
    go false false true t p = inside_fits img r t
    go false false false t p = clash cc

-- and that header is a conversion's
pub nested_conversion : (img path : List ℕ) (r : ℕ) → classed img path r ≡ Nested → is_conversion img r ≡ true
unfolding classed
nested_conversion img path r e = go (eqb r 0) (on r path) (inside img r) (is_conversion img r) e
  where
    go : (x y z w : Bool) → cond x Nowhere (cond y Back (cond z (cond w Nested Nowhere) Nowhere)) ≡ Nested → w ≡ true
    go true y z w p = clash cc
    go false true z w p = clash cc
    go false false true true p = refl
    go false false true false p = clash cc
    go false false false w p = clash cc

-- ---- each address on the path is a ##CC block's
no_both : {b : Bool} → b ≡ true → b ≡ false → ⊥
no_both h k = let z : true ≡ false = sym h ∙ k in clash cc

-- an address that is none is not on it
pub off_path : (img path : List ℕ) (r : ℕ) → Standing img path → (inside img r ≡ true → is_conversion img r ≡ true → ⊥) → on r path ≡ false
off_path img path r standing none = go (on r path) refl
  where
    go : (b : Bool) → on r path ≡ b → b ≡ false
    go true e = absurd (none (standing r e).0 (standing r e).1)
    go false e = refl

pub not_inside : (img : List ℕ) (r : ℕ) → inside img r ≡ false → inside img r ≡ true → is_conversion img r ≡ true → ⊥
not_inside img r h k l = no_both k h

pub not_conversion : (img : List ℕ) (r : ℕ) → is_conversion img r ≡ false → inside img r ≡ true → is_conversion img r ≡ true → ⊥
not_conversion img r h k l = no_both l h

pub standing_none : (img : List ℕ) → Standing img []
unfolding on
standing_none img r e = clash cc

-- one block more
pub on_more : (path : List ℕ) (a r : ℕ) → on r (path ++ (a ∷ [])) ≡ true → (on r path ≡ true) ⊎ (a ≡ r)
unfolding on
on_more [] a r e = go (eqb a r) refl e
  where
    go : (b : Bool) → eqb a r ≡ b → cond b true false ≡ true → (false ≡ true) ⊎ (a ≡ r)
    go true h p = inr (eqb-true a r h)
    go false h p = inl p
on_more (x ∷ path) a r e = go (eqb x r) e (on_more path a r)
  where
    go : (b : Bool) → cond b true (on r (path ++ (a ∷ []))) ≡ true → (on r (path ++ (a ∷ [])) ≡ true → (on r path ≡ true) ⊎ (a ≡ r))
        → (cond b true (on r path) ≡ true) ⊎ (a ≡ r)
    go true p f = inl refl
    go false p f = f p

pub standing_more : (img path : List ℕ) (a : ℕ) → Standing img path → a + 24 ≤ length img → is_conversion img a ≡ true → Standing img (path ++ (a ∷ []))
unfolding inside
standing_more img path a standing fits is r e =
    ⊎_elim (standing r) (λ (same : a ≡ r). (le-leb (r + 24) (length img) (omega arith), subst (λ (k : ℕ). is_conversion img k ≡ true) same is)) (on_more path a r e)
