-- A lead to a nested block is one of the block's references, and leads to a block of the tree; what holds of each reference, and sums over them.
-- Assumes nothing.
use Rattle.std.specs.Prelude.{None, Option, Some}
use mathlib.Core.Path.{◌≡◌, refl, ap, subst, ◌∙◌}
use mathlib.Core.Bool.{Bool, true, false, ◌&&◌, cond}
use mathlib.Core.List.{List, [], ◌∷◌}
use Prim.Native.Nat.{ℕ, zero, suc, ◌+◌, ◌-◌, ◌*◌, ◌≤◌, ◌<◌}
use native.Mathlib.Omega.{arith}
use borrow.Author.Tests.{ltb-true}
use lib.Dec.{eqb, ltb, leb}
use lib.ListN.{length, get_or, take}
use Rattle.words.proofs.Clash.{clash}
use Rattle.words.specs.Words.{word64, words}
use Rattle.words.proofs.Slices.{length_words}
use Rattle.common.specs.Header.{inside, is_conversion}
use Rattle.common.specs.Text.{run_of}
use Rattle.blocks.specs.Place.{word_in, references}
use Rattle.blocks.specs.View.{view_of, reference_in}
use Rattle.blocks.specs.declared.Block.{Block}
use Rattle.leads.specs.Lead.{nested_at, lead_of, lead_at, by_text, by_link}
use Rattle.leads.specs.declared.lead.Lead.TheVariants.{Nested, Nil, Elsewhere}
use Rattle.tree.specs.Tree.{leads_in, sizes, Each}
use Rattle.common.specs.declared.text.Span.{Span}

-- ---- one reference
pub word_at : (s : List ℕ) (at n i : ℕ) → i < n → get_or (words s at n) i 0 ≡ word64 s (at + 8 * i)
unfolding words
word_at s at zero i h = absurd (omega arith)
word_at s at (suc n) zero h = let e : at ≡ at + 8 * 0 = omega arith in ap (word64 s) e
word_at s at (suc n) (suc i) h =
    let e : at + 8 + 8 * i ≡ at + 8 * suc i = omega arith in
    word_at s (at + 8) n i (omega arith) ∙ ap (word64 s) e

word_bits : (img : List ℕ) (first count i w : ℕ) → word_in img first count i ≡ Some w → (i < count) × (word64 img (first + 8 * i) ≡ w)
unfolding word_in
word_bits img first count i w = go (ltb i count) (leb (first + 8 * i + 8) (length img)) refl
  where
    go : (x y : Bool) → ltb i count ≡ x → cond (x && y) (Some (word64 img (first + 8 * i))) None ≡ Some w
        → (i < count) × (word64 img (first + 8 * i) ≡ w)
    go true true h p = (ltb-true i count h, (cc))
    go true false h p = clash cc
    go false y h p = clash cc

nested_link : (img : List ℕ) (link a : ℕ) → lead_of img link ≡ Nested a → (link ≡ a) × (leads_in img link ≡ true)
unfolding lead_of nested_at leads_in
nested_link img link a = go (eqb link 0) (run_of img link) (inside img link) (is_conversion img link)
  where
    go : (z : Bool) (t : Option Span) (x y : Bool) → cond z Nil (by_text t (cond x (cond y (Nested link) Elsewhere) Elsewhere)) ≡ Nested a
        → (link ≡ a) × (cond z false (cond x y false) ≡ true)
    go true t x y p = clash cc
    go false (Some run) x y p = clash cc
    go false None true true p = ((cc), refl)
    go false None true false p = clash cc
    go false None false y p = clash cc

-- a lead to a nested block a comes of the i-th reference, which is a and leads to a block of the tree
pub nested_lead : (img : List ℕ) (b : Block) (i a : ℕ) → lead_at img (view_of b) i ≡ Nested a
    → (i < b.links - 4) × (get_or (references img b) i 0 ≡ a) × (leads_in img a ≡ true)
unfolding lead_at reference_in references
nested_lead img b i a = go (reference_in img (view_of b) i) refl
  where
    go : (w : Option ℕ) → word_in img b.firstref (b.links - 4) i ≡ w → by_link img w ≡ Nested a
        → (i < b.links - 4) × (get_or (words img b.firstref (b.links - 4)) i 0 ≡ a) × (leads_in img a ≡ true)
    go (Some link) e p =
        let n = nested_link img link a p in
        let w = word_bits img b.firstref (b.links - 4) i link e in
        (w.0, word_at img b.firstref (b.links - 4) i w.0 ∙ w.1 ∙ n.0, subst (λ (r : ℕ). leads_in img r ≡ true) n.0 n.1)
    go None e p = clash cc

pub reference_count : (img : List ℕ) (b : Block) → length (references img b) ≡ b.links - 4
unfolding references
reference_count img b = length_words img b.firstref (b.links - 4)

-- a is a reference of b that leads to a block of the tree
pub record Reference (img : List ℕ) (b : Block) (a : ℕ) : Type 0 where
  pub index : ℕ
  pub early : index < length (references img b)
  pub there : get_or (references img b) index 0 ≡ a
  pub leads : leads_in img a ≡ true

pub reference_of_lem : (img : List ℕ) (b : Block) (i a : ℕ) → lead_at img (view_of b) i ≡ Nested a → Reference img b a
reference_of_lem img b i a p =
    let n = nested_lead img b i a p in
    record { index = i; early = omega (arith, n.0, reference_count img b); there = n.1; leads = n.2 }

-- ---- all references
module _ (k : ℕ → Bool) where
  -- what holds of each that leads to a block holds of the i-th
  pub each : (P : ℕ → Type 0) (rs : List ℕ) (i : ℕ) → Each P k rs → i < length rs → k (get_or rs i 0) ≡ true → P (get_or rs i 0)
  unfolding Each
  each P [] i h l e = absurd (omega arith)
  each P (r ∷ rs) zero h l e = h.0 e
  each P (r ∷ rs) (suc i) h l e = each P rs i h.1 (omega arith) e

  module _ (g : ℕ → ℕ) where
    -- the i-th is no more than all
    pub one_of : (rs : List ℕ) (i : ℕ) → i < length rs → cond (k (get_or rs i 0)) (g (get_or rs i 0)) 0 ≤ sizes g k rs
    unfolding sizes
    one_of [] i h = absurd (omega arith)
    one_of (r ∷ rs) zero h = omega arith
    one_of (r ∷ rs) (suc i) h = omega (arith, one_of rs i (omega arith))

    -- one more of the first n
    pub next_of : (rs : List ℕ) (n : ℕ) → n < length rs
        → sizes g k (take (suc n) rs) ≡ sizes g k (take n rs) + cond (k (get_or rs n 0)) (g (get_or rs n 0)) 0
    unfolding sizes
    next_of [] n h = absurd (omega arith)
    next_of (r ∷ rs) zero h = omega arith
    next_of (r ∷ rs) (suc n) h = omega (arith, next_of rs n (omega arith))

    -- the first n are no more than all
    pub first_of : (rs : List ℕ) (n : ℕ) → sizes g k (take n rs) ≤ sizes g k rs
    unfolding sizes
    first_of rs zero = omega arith
    first_of [] (suc n) = omega arith
    first_of (r ∷ rs) (suc n) = omega (arith, first_of rs n)
