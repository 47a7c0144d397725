-- The converse of `acceptance` (demand 3): the check accepts exactly the trees that are sound and whose size is at most the limit, and refuses the
-- others. A sound tree has no loop, and more levels change neither that it is sound nor its size; each of its blocks parses. Assumes nothing.
use Rattle.std.specs.Prelude.{Err, Ok, Result}
use mathlib.Core.Path.{◌≡◌, refl, sym, ap, subst, ◌∙◌}
use mathlib.Core.Bool.{Bool, true, false, cond}
use mathlib.Core.Logic.{◌↔◌, ⊎_elim}
use mathlib.Core.List.{List, [], ◌∷◌, ◌++◌}
use Prim.Native.Nat.{ℕ, zero, suc, ◌+◌, ◌≤◌, ◌<◌}
use native.Mathlib.Omega.{arith}
use borrow.Author.Tests.{eqb-true, eq-eqb, le-leb, le-ltb}
use lib.Dec.{eqb}
use lib.ListN.{length, get_or, length-append}
use Rattle.words.specs.Words.{word64}
use Rattle.words.proofs.Clash.{clash}
use Rattle.common.specs.Header.{inside, is_conversion}
use Rattle.common.specs.declared.refusal.Refusal.{Refusal}
use Rattle.common.specs.declared.refusal.Refusal.TheVariants.{Limit}
use Rattle.common.proofs.Headers.{of_conversion}
use Rattle.blocks.specs.Block.{block_at, opened, parsed_for_repair, few_links, parsed}
use Rattle.blocks.specs.Place.{references}
use Rattle.blocks.specs.declared.Block.{Block}
use Rattle.blocks.proofs.Opening.{read_parses}
use Rattle.tree.specs.Walk.{Walk, End, complete, fault, onward, and_then, followed, walk_links, unless_short, entered, on, classed, walk, trace, ended, checked}
use Rattle.tree.specs.Tree.{leads_in, sizes, size, Each, Sound}
use Rattle.tree.specs.Follow.{Standing}
use Rattle.tree.specs.declared.Link.TheVariants.{Nowhere, Back, Nested}
use Rattle.tree.proofs.Answers.{lt_or_le}
use Rattle.tree.proofs.Paths.{off_path, not_inside, not_conversion, nested_fits, nested_conversion, on_more, standing_none, standing_more}
use Rattle.tree.proofs.Checks.{Rooted, limit_comes, ending_comes}
use Rattle.tree.proofs.Acceptance.{acceptance}

-- ---- more levels
module _ (P : ℕ → Type 0) (k : ℕ → Bool) where
  each_more : (Q : ℕ → Type 0) → ((r : ℕ) → P r → Q r) → (rs : List ℕ) → Each P k rs → Each Q k rs
  unfolding Each
  each_more Q f [] h = tt
  each_more Q f (r ∷ rs) h = (λ e. f r (h.0 e), each_more Q f rs h.1)

  sizes_same : (g j : ℕ → ℕ) → ((r : ℕ) → P r → g r ≡ j r) → (rs : List ℕ) → Each P k rs → sizes g k rs ≡ sizes j k rs
  unfolding Each sizes
  sizes_same g j f [] h = refl
  sizes_same g j f (r ∷ rs) h = go (k r) h.0 (sizes_same g j f rs h.1)
    where
      go : (b : Bool) → (b ≡ true → P r) → sizes g k rs ≡ sizes j k rs → cond b (g r) 0 + sizes g k rs ≡ cond b (j r) 0 + sizes j k rs
      go true p e = omega (arith, f r (p refl), e)
      go false p e = omega (arith, e)

-- a sound tree is sound with more levels
pub sound_levels : (d e : ℕ) (img : List ℕ) (a : ℕ) → d ≤ e → Sound d img a → Sound e img a
unfolding Sound
sound_levels zero e img a h s = absurd s
sound_levels (suc d) zero img a h s = absurd (omega arith)
sound_levels (suc d) (suc e) img a h s =
    (s.0, s.1, each_more (Sound d img) (leads_in img) (Sound e img) (λ r. sound_levels d e img r (omega arith)) (references img (block_at img a)) s.2)

-- and its size is the same
pub size_levels : (d e : ℕ) (img : List ℕ) (a : ℕ) → d ≤ e → Sound d img a → size e img a ≡ size d img a
unfolding Sound size
size_levels zero e img a h s = absurd s
size_levels (suc d) zero img a h s = absurd (omega arith)
size_levels (suc d) (suc e) img a h s =
    ap (λ (n : ℕ). 1 + n)
    (sizes_same (Sound d img) (leads_in img) (size e img) (size d img) (λ r. size_levels d e img r (omega arith)) (references img (block_at img a)) s.2)

-- ---- no loop: the tree of a block below another is the smaller one, so no block lies below itself
-- what holds of each holds of the one that is there
each_of : (P : ℕ → Type 0) (k : ℕ → Bool) (r : ℕ) → k r ≡ true → (rs : List ℕ) → on r rs ≡ true → Each P k rs → P r
unfolding on Each
each_of P k r t [] o h = clash cc
each_of P k r t (x ∷ rs) o h = go (eqb x r) refl o (λ p. each_of P k r t rs p h.1)
  where
    go : (b : Bool) → eqb x r ≡ b → cond b true (on r rs) ≡ true → (on r rs ≡ true → P r) → P r
    go true e p f = let same = eqb-true x r e in subst P same (h.0 (subst (λ (y : ℕ). k y ≡ true) (sym same) t))
    go false e p f = f p

-- and its size is at most the sum
summand : (g : ℕ → ℕ) (k : ℕ → Bool) (r : ℕ) → k r ≡ true → (rs : List ℕ) → on r rs ≡ true → g r ≤ sizes g k rs
unfolding on sizes
summand g k r t [] o = clash cc
summand g k r t (x ∷ rs) o = go (eqb x r) refl o (summand g k r t rs)
  where
    go : (b : Bool) → eqb x r ≡ b → cond b true (on r rs) ≡ true → (on r rs ≡ true → g r ≤ sizes g k rs) → g r ≤ cond (k x) (g x) 0 + sizes g k rs
    go true e p f =
        let same = eqb-true x r e in
        subst (λ (y : ℕ). g r ≤ cond (k y) (g y) 0 + sizes g k rs) (sym same) (rw t (omega arith))
    go false e p f = omega (arith, f p)

-- r is a reference of the block at a that leads to a block
abbrev pub Child : List ℕ → ℕ → ℕ → Type 0
Child img a r = (on r (references img (block_at img a)) ≡ true) × (leads_in img r ≡ true)

-- a block that is reached from the block at a, over one reference or more
pub data Below (img : List ℕ) (a : ℕ) : ℕ → Type 0 where
  directly : {r : ℕ} → Child img a r → Below img a r
  further : {x r : ℕ} → Below img a x → Child img x r → Below img a r

smaller_child : (d : ℕ) (img : List ℕ) (a r : ℕ) → Sound d img a → Child img a r → Sound d img r × (size d img r < size d img a)
unfolding Sound size
smaller_child zero img a r s c = absurd s
smaller_child (suc d) img a r s c =
    let rs = references img (block_at img a) in
    let under : Sound d img r = each_of (Sound d img) (leads_in img) r c.1 rs c.0 s.2 in
    let least = size_levels d (suc d) img r (omega arith) under in
    let most = summand (size d img) (leads_in img) r c.1 rs c.0 in
    (sound_levels d (suc d) img r (omega arith) under, omega (arith, least, most))

-- what lies below a sound tree's root is sound, and smaller
pub below_smaller : (d : ℕ) (img : List ℕ) (a x : ℕ) → Sound d img a → Below img a x → Sound d img x × (size d img x < size d img a)
below_smaller d img a x s (directly c) = smaller_child d img a x s c
below_smaller d img a x s (further {x = y} b c) =
    let up = below_smaller d img a y s b in
    let down = smaller_child d img y x up.0 c in
    (down.0, omega (arith, up.1, down.1))

-- a tree with a loop is not sound: no block of a sound one lies below itself
pub no_loop : (d : ℕ) (img : List ℕ) (a x : ℕ) → Sound d img a → Below img a x → Below img x x → ⊥
no_loop d img a x s b l = omega (arith, (below_smaller d img x x (below_smaller d img a x s b).0 l).1)

-- ---- the walk of a sound tree
-- two complete walks in a row
in_a_row : (v w : Walk) (m n : ℕ) → (v.ending ≡ complete) × (length v.visits ≡ m) → (w.ending ≡ complete) × (length w.visits ≡ n)
    → ((and_then v w).ending ≡ complete) × (length (and_then v w).visits ≡ m + n)
in_a_row v w m n h k = go v.ending h.0
  where
    go : (e : End) → e ≡ complete → ((onward e v.visits w).ending ≡ complete) × (length (onward e v.visits w).visits ≡ m + n)
    go complete e = (k.0, omega (arith, h.1, k.1, length-append v.visits w.visits))
    go (fault f) e = clash cc

-- on a path of ##CC blocks, a reference that leads to none leads nowhere
outward : (img path : List ℕ) (r : ℕ) → Standing img path → leads_in img r ≡ false → classed img path r ≡ Nowhere
unfolding classed leads_in
outward img path r stands e = go (eqb r 0) (inside img r) refl (is_conversion img r) refl e
  where
    go : (s u : Bool) → inside img r ≡ u → (v : Bool) → is_conversion img r ≡ v → cond s false (cond u v false) ≡ false
        → cond s Nowhere (cond (on r path) Back (cond u (cond v Nested Nowhere) Nowhere)) ≡ Nowhere
    go true u eu v ev p = refl
    go false true eu true ev p = clash cc
    go false true eu false ev p = rw (off_path img path r stands (not_conversion img r ev))
    go false false eu v ev p = rw (off_path img path r stands (not_inside img r eu))

-- and one that leads to a block off the path is followed
inward : (img path : List ℕ) (r : ℕ) → on r path ≡ false → leads_in img r ≡ true → classed img path r ≡ Nested
unfolding classed leads_in
inward img path r off e = go (eqb r 0) (on r path) off (inside img r) (is_conversion img r) e
  where
    go : (s t : Bool) → t ≡ false → (u v : Bool) → cond s false (cond u v false) ≡ true
        → cond s Nowhere (cond t Back (cond u (cond v Nested Nowhere) Nowhere)) ≡ Nested
    go true t o u v p = clash cc
    go false true o u v p = clash cc
    go false false o true true p = refl
    go false false o true false p = clash cc
    go false false o false v p = clash cc

-- the references of a block, where each nested walk is complete and none goes back
module _ (f : ℕ → Walk) (img path : List ℕ) (g : ℕ → ℕ) (stands : Standing img path) where
  abbrev Gone : ℕ → Type 0
  Gone r = (on r path ≡ false) × ((f r).ending ≡ complete) × (length (f r).visits ≡ g r)

  one_link : (r : ℕ) → (leads_in img r ≡ true → Gone r)
      → ((followed f (classed img path r) r).ending ≡ complete) × (length (followed f (classed img path r) r).visits ≡ cond (leads_in img r) (g r) 0)
  one_link r h = go (leads_in img r) refl
    where
      go : (b : Bool) → leads_in img r ≡ b
          → ((followed f (classed img path r) r).ending ≡ complete) × (length (followed f (classed img path r) r).visits ≡ cond b (g r) 0)
      go true e = let x = h e in rw (inward img path r x.0 e) (x.1, x.2)
      go false e = rw (outward img path r stands e) (refl, refl)

  all_links : (rs : List ℕ) → ((r : ℕ) → on r rs ≡ true → leads_in img r ≡ true → Gone r)
      → ((walk_links f (classed img path) rs).ending ≡ complete) × (length (walk_links f (classed img path) rs).visits ≡ sizes g (leads_in img) rs)
  unfolding walk_links sizes on
  all_links [] h = (refl, refl)
  all_links (r ∷ rs) h =
      in_a_row (followed f (classed img path r) r) (walk_links f (classed img path) rs) (cond (leads_in img r) (g r) 0) (sizes g (leads_in img) rs)
      (one_link r (h r (rw (eq-eqb r r refl))))
      (all_links rs (λ x o. h x (later x (eqb r x) o)))
    where
      later : (x : ℕ) (b : Bool) → on x rs ≡ true → cond b true (on x rs) ≡ true
      later x true o = refl
      later x false o = o

never : (b : Bool) → (b ≡ true → ⊥) → b ≡ false
never true h = absurd (h refl)
never false h = refl

-- a block with its four links that is whole is entered
sound_enters : (img : List ℕ) (a : ℕ) (g : Block → Walk) → 4 ≤ (block_at img a).links → opened img a ≡ Ok (block_at img a)
    → entered img a g ≡ g (block_at img a)
unfolding entered few_links block_at
sound_enters img a g h e = rw (le-ltb (word64 img (a + 16)) 4 h) (ap (λ (p : Result Block Refusal). unless_short a p g) e)

-- the walk of a sound tree is complete, and begins as many visits as the tree has blocks
pub sound_walk : (d : ℕ) (img path : List ℕ) (a : ℕ) → Standing img path → a + 24 ≤ length img → is_conversion img a ≡ true
    → ((x : ℕ) → on x path ≡ true → Below img x a) → Sound d img a
    → ((walk d img path a).ending ≡ complete) × (length (walk d img path a).visits ≡ size d img a)
unfolding walk size Sound
sound_walk zero img path a stands fits is above s = absurd s
sound_walk (suc d) img path a stands fits is above s =
    let inner = path ++ (a ∷ []) in
    let rs = references img (block_at img a) in
    let standing = standing_more img path a stands fits is in
    let links : Block → Walk = λ b. walk_links (walk d img inner) (classed img inner) (references img b) in
    let opens = sound_enters img a links s.0 s.1 in
    let al =
    all_links (walk d img inner) img inner (size d img) standing rs
    (λ r o t.
    let under : Sound d img r = each_of (Sound d img) (leads_in img) r t rs o s.2 in
    let up : (x : ℕ) → on x inner ≡ true → Below img x r = λ x e. ⊎_elim (λ p. further (above x p) (o, t)) (λ p. subst (λ (y : ℕ). Below img y r) p (directly (o, t))) (on_more path a x e) in
    let off = never (on r inner) (λ e. no_loop d img r r under (up r e) (up r e)) in
    let nested = inward img inner r off t in
    let w = sound_walk d img inner r standing (nested_fits img inner r nested) (nested_conversion img inner r nested) up under in
    (off, w.0, w.1)) in
    (ap (λ (w : Walk). w.ending) opens ∙ al.0, omega (arith, ap (λ (w : Walk). length w.visits) opens, al.1))

-- ---- the check
module _ (img : List ℕ) (a l : ℕ) (fits : a + 24 ≤ length img) (is : is_conversion img a ≡ true) (s : Sound 21 img a) where
  root : Rooted img a l
  unfolding inside
  root = record { header = le-leb (a + 24) (length img) fits; conversion = is }

  the_walk : ((trace img a).ending ≡ complete) × (length (trace img a).visits ≡ size 21 img a)
  unfolding on
  the_walk = sound_walk 21 img [] a (standing_none img) fits is (λ x e. clash cc) s

  -- a sound tree that fits the limit is accepted, with its size
  pub accepted_when : size 21 img a ≤ l → checked img a l ≡ Ok (size 21 img a)
  accepted_when h =
      ending_comes img a l root (omega (arith, the_walk.1))
      ∙ ap (ended (length (trace img a).visits)) the_walk.0
      ∙ ap Ok the_walk.1

  -- and one that does not is refused at the visit that would be one too many
  pub limited_when : l < size 21 img a → checked img a l ≡ Err (Limit (get_or (trace img a).visits l 0))
  limited_when h = limit_comes img a l root (omega (arith, the_walk.1))

  -- it is refused for nothing else: a tree that is refused for few links, a short block, its depth or a loop is not sound
  pub only_limit : (x : Refusal) → checked img a l ≡ Err x → (l < size 21 img a) × (x ≡ Limit (get_or (trace img a).visits l 0))
  only_limit x e =
      ⊎_elim
      (λ lt. let q : Err (Limit (get_or (trace img a).visits l 0)) ≡ Err x = sym (limited_when lt) ∙ e in (lt, (cc)))
      (λ le. let q : Ok (size 21 img a) ≡ Err x = sym (accepted_when le) ∙ e in clash cc)
      (lt_or_le l (size 21 img a))

-- the check accepts exactly the trees that are sound and whose size is at most the limit
pub accepted_iff : (img : List ℕ) (a l n : ℕ)
    → checked img a l ≡ Ok n ↔ (a + 24 ≤ length img) × (is_conversion img a ≡ true) × Sound 21 img a × (n ≡ size 21 img a) × (n ≤ l)
accepted_iff img a l n = (
  λ e. let h = acceptance img a l n e in (h.header, h.conversion, h.sound, h.count, h.few),
  λ h. accepted_when img a l h.0 h.1 h.2 (omega (arith, h.3, h.4)) ∙ ap Ok (sym h.3),
)

-- and refuses exactly the others
pub refused_iff : (img : List ℕ) (a l : ℕ)
    → ((x : Refusal) × (checked img a l ≡ Err x)) ↔ ¬ ((a + 24 ≤ length img) × (is_conversion img a ≡ true) × Sound 21 img a × (size 21 img a ≤ l))
refused_iff img a l = (
  λ r h. let e : Ok (size 21 img a) ≡ Err r.0 = sym (accepted_when img a l h.0 h.1 h.2 h.3) ∙ r.1 in clash cc,
  λ bad. go bad (checked img a l) refl,
)
  where
    go : ¬ ((a + 24 ≤ length img) × (is_conversion img a ≡ true) × Sound 21 img a × (size 21 img a ≤ l)) → (c : Result ℕ Refusal) → checked img a l ≡ c
        → (x : Refusal) × (c ≡ Err x)
    go bad (Ok n) e = let h = acceptance img a l n e in absurd (bad (h.header, h.conversion, h.sound, omega (arith, h.count, h.few)))
    go bad (Err x) e = (x, refl)

-- ---- 18 and 4 cannot follow an accepted check: parsing the root or any block below it gives its record
sound_parses : (d : ℕ) (img : List ℕ) (a : ℕ) → inside img a ≡ true → is_conversion img a ≡ true → Sound d img a → parsed img a ≡ Ok (block_at img a)
unfolding Sound parsed_for_repair
sound_parses zero img a h k s = absurd s
sound_parses (suc d) img a h k s = read_parses img a (block_at img a) (of_conversion img a _ _ _ h k ∙ s.1) s.0

leads_there : (img : List ℕ) (r : ℕ) → leads_in img r ≡ true → (inside img r ≡ true) × (is_conversion img r ≡ true)
unfolding leads_in
leads_there img r = go (eqb r 0) (inside img r) (is_conversion img r)
  where
    go : (s u v : Bool) → cond s false (cond u v false) ≡ true → (u ≡ true) × (v ≡ true)
    go true u v p = clash cc
    go false true v p = (refl, p)
    go false false v p = clash cc

pub root_parses : (img : List ℕ) (a l n : ℕ) → checked img a l ≡ Ok n → parsed img a ≡ Ok (block_at img a)
unfolding inside
root_parses img a l n e = let k = acceptance img a l n e in sound_parses 21 img a (le-leb (a + 24) (length img) k.header) k.conversion k.sound

pub below_parses : (img : List ℕ) (a l n x : ℕ) → checked img a l ≡ Ok n → Below img a x → parsed img x ≡ Ok (block_at img x)
below_parses img a l n x e b =
    let there = leads_there img x (last_leads b) in
    sound_parses 21 img x there.0 there.1 (below_smaller 21 img a x (acceptance img a l n e).sound b).0
  where
    last_leads : Below img a x → leads_in img x ≡ true
    last_leads (directly c) = c.1
    last_leads (further b c) = c.1
