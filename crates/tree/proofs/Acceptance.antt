-- What acceptance tells (demand 3): every block of the unfolded tree is whole and has its four links, the depth fits, and N is the tree's size; and a higher limit
-- changes no accepted count. Assumes nothing.
use Rattle.std.specs.Prelude.{Err, Ok}
use mathlib.Core.Path.{◌≡◌, refl, sym, ap, ◌∙◌}
use mathlib.Core.Bool.{Bool, true, false, cond}
use mathlib.Core.List.{List, [], ◌∷◌, ◌++◌}
use Prim.Native.Nat.{ℕ, zero, suc, ◌+◌, ◌≤◌}
use native.Mathlib.Omega.{arith}
use borrow.Author.Tests.{ltb-false}
use lib.Dec.{eqb, leb}
use lib.ListN.{length, length-append}
use Rattle.words.proofs.Clash.{clash}
use Rattle.common.specs.Header.{inside, is_conversion}
use Rattle.common.specs.declared.refusal.Refusal.TheVariants.{Outside, NotConversion, Short}
use Rattle.common.proofs.Headers.{inside_fits}
use Rattle.blocks.specs.Block.{block_end, block_at, opened, few_links}
use Rattle.blocks.specs.Place.{references}
use Rattle.blocks.specs.declared.Block.{Block}
use Rattle.tree.specs.Walk.{Walk, End, complete, fault, deep, stopped, onward, and_then, followed, walk_links, unless_few, unless_short, entered, on, classed, walk, trace, answer, checked}
use Rattle.tree.specs.Tree.{leads_in, sizes, size, Each, Sound}
use Rattle.tree.specs.declared.Link.{Link}
use Rattle.tree.specs.declared.Link.TheVariants.{Nowhere, Back, Nested}
use Rattle.tree.proofs.Answers.{under, accepted}
use Rattle.tree.proofs.Checks.{Rooted, walked, checked_walk}

-- ---- a complete walk, part by part
-- of two in a row each is complete
both : (e : End) (vs : List ℕ) (w : Walk) → (onward e vs w).ending ≡ complete
    → (e ≡ complete) × (w.ending ≡ complete) × (length (onward e vs w).visits ≡ length vs + length w.visits)
both complete vs w p = (refl, p, length-append vs w.visits)
both (fault f) vs w p = clash cc

-- where a reference leads, with the path left out
leads : (img path : List ℕ) (r : ℕ) (x : Link) → classed img path r ≡ x
    → (x ≡ Nowhere → leads_in img r ≡ false) × (x ≡ Nested → leads_in img r ≡ true)
unfolding classed leads_in
leads img path r x e = go (eqb r 0) (on r path) (inside img r) (is_conversion img r) e
  where
    go : (s t u v : Bool) → cond s Nowhere (cond t Back (cond u (cond v Nested Nowhere) Nowhere)) ≡ x
        → (x ≡ Nowhere → cond s false (cond u v false) ≡ false) × (x ≡ Nested → cond s false (cond u v false) ≡ true)
    go true t u v p = (λ q. refl, λ q. cc)
    go false true u v p = (λ q. cc, λ q. cc)
    go false false true true p = (λ q. cc, λ q. refl)
    go false false true false p = (λ q. refl, λ q. cc)
    go false false false v p = (λ q. refl, λ q. cc)

-- the references, given what a complete nested walk tells
module _ (f : ℕ → Walk) (img path : List ℕ) (g : ℕ → ℕ) (P : ℕ → Type 0)
    (counts : (r : ℕ) → (f r).ending ≡ complete → length (f r).visits ≡ g r) (holds : (r : ℕ) → (f r).ending ≡ complete → P r) where
  one : (r : ℕ) (w : Walk) (n : ℕ) (x : Link) → classed img path r ≡ x → (w.ending ≡ complete → length w.visits ≡ n)
      → (and_then (followed f x r) w).ending ≡ complete
      → (length (and_then (followed f x r) w).visits ≡ cond (leads_in img r) (g r) 0 + n) × (leads_in img r ≡ true → P r) × (w.ending ≡ complete)
  one r w n Nowhere e h p =
      let out = (leads img path r Nowhere e).0 refl in
      (rw out (omega (arith, h p)), (λ inward. absurd (let z : true ≡ false = cc in clash cc)), p)
  one r w n Back e h p = clash cc
  one r w n Nested e h p =
      let b = both (f r).ending (f r).visits w p in
      let inward = (leads img path r Nested e).1 refl in
      (rw inward (omega (arith, counts r b.0, h b.1, b.2)), (λ y. holds r b.0), b.1)

  all : (rs : List ℕ) → (walk_links f (classed img path) rs).ending ≡ complete
      → (length (walk_links f (classed img path) rs).visits ≡ sizes g (leads_in img) rs) × Each P (leads_in img) rs
  unfolding walk_links sizes Each
  all [] p = (refl, tt)
  all (r ∷ rs) p =
      let w = walk_links f (classed img path) rs in
      let o = one r w (sizes g (leads_in img) rs) (classed img path r) refl (λ q. (all rs q).0) p in
      (o.0, (o.1, (all rs o.2).1))

-- a walk that is complete was of a whole block with its four links
opens : (img : List ℕ) (a : ℕ) (g : Block → Walk) → (entered img a g).ending ≡ complete
    → (4 ≤ (block_at img a).links) × (opened img a ≡ Ok (block_at img a)) × (entered img a g ≡ g (block_at img a))
unfolding entered opened few_links block_at
opens img a g = go (few_links img a) refl (leb (block_end img a) (length img))
  where
    go : (f : Bool) → few_links img a ≡ f → (b : Bool)
        → (unless_few a f (unless_short a (cond b (Ok (block_at img a)) (Err (Short a))) g)).ending ≡ complete
        → (4 ≤ (block_at img a).links)
        × (cond b (Ok (block_at img a)) (Err (Short a)) ≡ Ok (block_at img a))
        × (unless_few a f (unless_short a (cond b (Ok (block_at img a)) (Err (Short a))) g) ≡ g (block_at img a))
    go true t b p = clash cc
    go false t true p = (ltb-false _ _ t, refl, refl)
    go false t false p = clash cc

-- a complete walk of a block has the tree's size, and the tree is sound
pub tree : (d : ℕ) (img path : List ℕ) (a : ℕ) → (walk d img path a).ending ≡ complete
    → (length (walk d img path a).visits ≡ size d img a) × Sound d img a
unfolding walk size Sound
tree zero img path a p =
    let o = opens img a (λ b. stopped (deep a)) p in
    let q : fault (deep a) ≡ complete = ap (λ (w : Walk). w.ending) (sym o.2) ∙ p in
    clash cc
tree (suc d) img path a p =
    let inner = path ++ (a ∷ []) in
    let links : Block → Walk = λ b. walk_links (walk d img inner) (classed img inner) (references img b) in
    let o = opens img a links p in
    let q : (links (block_at img a)).ending ≡ complete = ap (λ (w : Walk). w.ending) (sym o.2) ∙ p in
    let al =
    all (walk d img inner) img inner (size d img) (Sound d img) (λ r h. (tree d img inner r h).0) (λ r h. (tree d img inner r h).1)
    (references img (block_at img a)) q in
    (omega (arith, ap (λ (w : Walk). length w.visits) o.2, al.0), (o.0, o.1, al.1))

-- ---- an accepted check
pub record Acceptance (img : List ℕ) (a l n : ℕ) : Type 0 where
  pub header : a + 24 ≤ length img
  pub conversion : is_conversion img a ≡ true
  pub sound : Sound 21 img a
  pub count : n ≡ size 21 img a
  pub some : 1 ≤ n
  pub few : n ≤ l

module _ (img : List ℕ) (a l n : ℕ) (e : checked img a l ≡ Ok n) where
  the_walk : Rooted img a l × (answer l 0 (trace img a) ≡ Ok n)
  the_walk = walked img a l (Ok n) (λ q. no_outside q) (λ q. no_other q) e
    where
      no_outside : Err (Outside a) ≡ Ok n → ⊥
      no_outside q = clash cc

      no_other : Err (NotConversion a) ≡ Ok n → ⊥
      no_other q = clash cc

  pub acceptance : Acceptance img a l n
  unfolding walk
  acceptance =
      let w = the_walk in
      let h = accepted l 0 (trace img a) n w.1 in
      let t = tree 21 img [] a h.1 in
      record {
        header = inside_fits img a w.0.header;
        conversion = w.0.conversion;
        sound = t.1;
        count = omega (arith, h.2, t.0);
        some = omega (arith, h.2);
        few = omega (arith, h.0, h.2);
      }

  -- raising the limit changes no accepted count, and turns no acceptance into a refusal
  pub raised : (m : ℕ) → l ≤ m → checked img a m ≡ Ok n
  raised m k =
      let w = the_walk in
      let h = accepted l 0 (trace img a) n w.1 in
      checked_walk img a m w.0.header w.0.conversion
      ∙ under m 0 (trace img a) (omega (arith, h.0))
      ∙ sym (under l 0 (trace img a) h.0)
      ∙ w.1
