-- What a block's visit meets, in the limited answer; and a block's references, one by one. Assumes nothing.
use Rattle.std.specs.Prelude.{Err, None, Result, Some}
use mathlib.Core.Path.{◌≡◌, sym, ap, ◌∙◌}
use mathlib.Core.Bool.{true, false}
use mathlib.Core.List.{List, [], ◌∷◌, ◌++◌}
use Prim.Native.Nat.{ℕ, zero, suc, ◌+◌, ◌-◌, ◌*◌, ◌≤◌, ◌<◌}
use native.Mathlib.Omega.{arith}
use Rattle.words.specs.Words.{word64, words}
use Rattle.common.specs.declared.refusal.Refusal.TheVariants.{Limit, Short, Deep, FewLinks}
use Rattle.blocks.specs.Block.{ref_count, block_at, few_links}
use Rattle.blocks.specs.Place.{references}
use Rattle.blocks.specs.View.{seen}
use Rattle.blocks.specs.declared.Block.{Block}
use Rattle.blocks.specs.declared.view.View.{View}
use Rattle.blocks.proofs.Looking.{seen_open, seen_cut, seen_refs}
use Rattle.tree.specs.Walk.{Walk, Fault, few, short, deep, stopped, walk_links, unless_short, entered, classed, walk, fault_refusal, answer}
use Rattle.tree.proofs.Answers.{answer_stopped, answer_full, answer_visit}
use Rattle.common.specs.declared.refusal.Refusal.{Refusal}

-- ---- a block by what is seen of it
-- the references of a block that is seen stand from byte 56 on
seen_references : (img : List ℕ) (a : ℕ) (v : View) → seen img a ≡ Some v → references img (block_at img a) ≡ words img (a + 56) v.refs
unfolding references block_at ref_count
seen_references img a v e = ap (words img (a + 56)) (sym (seen_refs img a v e))

-- what entering it comes to
module _ (img : List ℕ) (a : ℕ) (g : Block → Walk) where
  few_stops : few_links img a ≡ true → entered img a g ≡ stopped (few a)
  unfolding entered
  few_stops h = rw h

  cut_stops : few_links img a ≡ false → seen img a ≡ None → entered img a g ≡ stopped (short a)
  unfolding entered
  cut_stops h e = rw h (ap (λ (p : Result Block Refusal). unless_short a p g) (seen_cut img a e))

  open_enters : (b : View) → few_links img a ≡ false → seen img a ≡ Some b → entered img a g ≡ g (block_at img a)
  unfolding entered
  open_enters b h e = rw h (ap (λ (p : Result Block Refusal). unless_short a p g) (seen_open img a b e).whole)

-- ---- a visit
module _ (img path : List ℕ) (a l v : ℕ) where
  abbrev inner : List ℕ
  inner = path ++ (a ∷ [])

  pub walk_full : (d : ℕ) → v ≡ l → answer l v (walk d img path a) ≡ Err (Limit a)
  unfolding walk
  walk_full zero e = ap (λ (n : ℕ). answer l n (walk zero img path a)) e ∙ answer_full l a _
  walk_full (suc d) e = ap (λ (n : ℕ). answer l n (walk (suc d) img path a)) e ∙ answer_full l a _

  -- whatever is done with the block, it is stopped before
  walk_stops : (f : Fault) (d : ℕ) → v < l → ((g : Block → Walk) → entered img a g ≡ stopped f) → answer l v (walk d img path a) ≡ Err (fault_refusal f)
  unfolding walk
  walk_stops f zero h e = answer_visit l v a _ h ∙ ap (answer l (v + 1)) (e _) ∙ answer_stopped l (v + 1) f
  walk_stops f (suc d) h e = answer_visit l v a _ h ∙ ap (answer l (v + 1)) (e _) ∙ answer_stopped l (v + 1) f

  pub walk_few : (d : ℕ) → v < l → few_links img a ≡ true → answer l v (walk d img path a) ≡ Err (FewLinks a)
  walk_few d h t = walk_stops (few a) d h (λ g. few_stops img a g t)

  pub walk_short : (d : ℕ) → v < l → few_links img a ≡ false → seen img a ≡ None → answer l v (walk d img path a) ≡ Err (Short a)
  walk_short d h t e = walk_stops (short a) d h (λ g. cut_stops img a g t e)

  module _ (b : View) (h : v < l) (t : few_links img a ≡ false) (e : seen img a ≡ Some b) where
    pub walk_deep : (d : ℕ) → d ≡ 0 → answer l v (walk d img path a) ≡ Err (Deep a)
    unfolding walk
    walk_deep zero z = answer_visit l v a _ h ∙ ap (answer l (v + 1)) (open_enters img a _ b t e) ∙ answer_stopped l (v + 1) (deep a)
    walk_deep (suc d) z = absurd (omega arith)

    pub walk_open : (d m : ℕ) → d ≡ suc m
        → answer l v (walk d img path a) ≡ answer l (v + 1) (walk_links (walk m img inner) (classed img inner) (words img (a + 56) b.refs))
    unfolding walk
    walk_open d m z =
        ap (λ (j : ℕ). answer l v (walk j img path a)) z
        ∙ answer_visit l v a _ h
        ∙ ap (answer l (v + 1)) (open_enters img a _ b t e)
        ∙ ap (λ (rs : List ℕ). answer l (v + 1) (walk_links (walk m img inner) (classed img inner) rs)) (seen_references img a b e)

-- ---- the i-th of n words, and those after it
module _ (img : List ℕ) (at n : ℕ) where
  pub words_more : (i : ℕ) → i < n
      → words img (at + 8 * i) (n - i) ≡ word64 img (at + 8 * i) ∷ words img (at + 8 * (i + 1)) (n - (i + 1))
  unfolding words
  words_more i h =
      let left : n - i ≡ suc (n - (i + 1)) = omega arith in
      let place : at + 8 * i + 8 ≡ at + 8 * (i + 1) = omega arith in
      ap (words img (at + 8 * i)) left ∙ ap (λ (m : ℕ). word64 img (at + 8 * i) ∷ words img m (n - (i + 1))) place

  pub words_none : (i : ℕ) → n ≤ i → words img (at + 8 * i) (n - i) ≡ []
  unfolding words
  words_none i h = let left : n - i ≡ 0 = omega arith in ap (words img (at + 8 * i)) left

  pub words_all : words img at n ≡ words img (at + 8 * 0) (n - 0)
  words_all =
      let left : n ≡ n - 0 = omega arith in
      let place : at ≡ at + 8 * 0 = omega arith in
      ap (words img at) left ∙ ap (λ (m : ℕ). words img m (n - 0)) place
