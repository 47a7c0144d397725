-- Applying to a sound tree never meets a block that cannot be opened, begins no more blocks than the tree has, and no more than its levels where no
-- bit groups are reached (demand 3): no block of type 11, or the edition is 4.10. Assumes nothing.
use mathlib.Core.Path.{◌≡◌, subst}
use mathlib.Core.List.{List, ◌∷◌}
use Prim.Native.Nat.{ℕ, zero, suc, ◌≤◌}
use native.Mathlib.Omega.{arith}
use lib.ListN.{length}
use Rattle.words.proofs.Clash.{clash}
use Rattle.blocks.specs.Block.{block_at}
use Rattle.blocks.specs.Place.{references}
use Rattle.blocks.specs.View.{view_of}
use Rattle.blocks.specs.declared.Block.{Block}
use Rattle.rules.specs.Numbers.{taken}
use Rattle.rules.specs.declared.number.Value.{Value}
use Rattle.steps.specs.Choice.{chosen_key, chosen_range}
use Rattle.steps.specs.Step.{step_of}
use Rattle.steps.specs.declared.mode.Mode.{Mode}
use Rattle.steps.specs.declared.mode.Edition.{Edition}
use Rattle.steps.specs.declared.mode.Edition.TheVariants.{Mdf410, Mdf420}
use Rattle.steps.specs.declared.choice.Choice.{Choice}
use Rattle.steps.specs.declared.choice.Choice.TheVariants as choice
use Rattle.steps.specs.declared.step.Step.{Step}
use Rattle.steps.specs.declared.step.Step.TheVariants.{ByKey, ByRange, ByBits, Done}
use Rattle.pieces.specs.Answer.{broken}
use Rattle.tree.specs.Tree.{leads_in, size, Each, Sound}
use Rattle.engine.specs.Apply.{Ap, passed_on, ruled, applied}
use Rattle.conversion.specs.Reach.{NoGroups}
use Rattle.conversion.proofs.References.{Reference, each}
use Rattle.conversion.proofs.OneBlock.{Fine, one_block}
use Rattle.conversion.proofs.Steps.{Follows, step_follows, Chosen, chosen_key_lem, chosen_range_lem}

-- ---- every block
-- the tree at a reference is sound one level less
pub below : (d : ℕ) (img : List ℕ) (b : Block) → Each (Sound d img) (leads_in img) (references img b) → (a : ℕ) → Reference img b a → Sound d img a
below d img b h a r =
    rw r.there at (each (leads_in img) (Sound d img) (references img b) r.index h r.early (rw r.there r.leads))

some_begun : (d : ℕ) (mode : Mode) (img t : List ℕ) (a : ℕ) (v : Value) → 1 ≤ length (applied d mode img t a v).begun
unfolding applied
some_begun zero mode img t a v = omega arith
some_begun (suc d) mode img t a v = omega arith

few_fine : (d : ℕ) (mode : Mode) (img t : List ℕ) (a : ℕ) (v : Value) → Sound d img a
    → (length (applied d mode img t a v).begun ≤ size d img a) × Fine (applied d mode img t a v).says
unfolding applied size Sound
few_fine zero mode img t a v s = absurd s
few_fine (suc d) mode img t a v s =
    let b = block_at img a in
    let sound = below d img b s.2 in
    let one = one_block (applied d mode img t) img b (size d img) (λ r w h. few_fine d mode img t r w (sound r h)) mode.edition v
    (step_of mode img t a v)
    (step_follows mode img t b v a s.1) in
    (omega (arith, one.0), one.1)

-- some block is begun, the one applied; no more than the tree has; and no answer is that a block cannot be opened
pub reach : (d : ℕ) (mode : Mode) (img t : List ℕ) (a : ℕ) (v : Value) → Sound d img a
    → (1 ≤ length (applied d mode img t a v).begun) × (length (applied d mode img t a v).begun ≤ size d img a) × ((applied d mode img t a v).says ≡ broken → ⊥)
reach d mode img t a v s =
    let f = few_fine d mode img t a v s in
    (some_begun d mode img t a v, f.0, λ e. subst Fine e f.1)

-- ---- where no bit groups are reached
-- none of the blocks is bit groups to the edition: 4.10 knows none, 4.20 those of type 11
abbrev pub Groupless : Edition → List ℕ → List ℕ → Type 0
Groupless Mdf410 img begun = Unit {0}
Groupless Mdf420 img begun = NoGroups img begun

pub groupless : (e : Edition) (img begun : List ℕ) → NoGroups img begun → Groupless e img begun
groupless Mdf410 img begun none = tt
groupless Mdf420 img begun none = none

first : (e : Edition) (img : List ℕ) (a : ℕ) (rest : List ℕ) → Groupless e img (a ∷ rest) → (block_at img a).kind ≡ 11 → e ≡ Mdf420 → ⊥
unfolding NoGroups
first Mdf410 img a rest none eleven p = clash cc
first Mdf420 img a rest none eleven p = none.0 eleven

others : (e : Edition) (img : List ℕ) (a : ℕ) (rest : List ℕ) → Groupless e img (a ∷ rest) → Groupless e img rest
unfolding NoGroups
others Mdf410 img a rest none = tt
others Mdf420 img a rest none = none.1

module _ (nested : ℕ → Value → Ap) (img : List ℕ) (b : Block) (d : ℕ) (e : Edition)
    (few : (a : ℕ) (w : Value) → Reference img b a → Groupless e img (nested a w).begun → length (nested a w).begun ≤ d) where
  passed_shallow : (v : Value) (c : Choice) → Chosen img b c → Groupless e img (passed_on nested img v c).begun
      → length (passed_on nested img v c).begun ≤ d
  passed_shallow v (choice.Nested a) h none = few a v h none
  passed_shallow v (choice.Done p) h none = omega arith

  ruled_shallow : (v : Value) (s : Step) → Follows e b s → (b.kind ≡ 11 → e ≡ Mdf420 → ⊥) → Groupless e img (ruled nested img v s).begun
      → length (ruled nested img v s).begun ≤ d
  ruled_shallow v (ByKey c) h other none =
      rw h (passed_shallow v (chosen_key img (view_of b) (taken v)) (chosen_key_lem img b (taken v)) (rw h at none))
  ruled_shallow v (ByRange c) h other none =
      rw h (passed_shallow v (chosen_range img (view_of b) (taken v)) (chosen_range_lem img b (taken v)) (rw h at none))
  ruled_shallow v (ByBits c bits) h other none = absurd (other h.1 h.2)
  ruled_shallow v (Done p) h other none = omega arith

-- no more blocks are begun than there are levels
pub shallow : (d : ℕ) (mode : Mode) (img t : List ℕ) (a : ℕ) (v : Value) → Sound d img a
    → Groupless mode.edition img (applied d mode img t a v).begun → length (applied d mode img t a v).begun ≤ d
unfolding applied Sound
shallow zero mode img t a v s none = absurd s
shallow (suc d) mode img t a v s none =
    let e = mode.edition in
    let b = block_at img a in
    let sound = below d img b s.2 in
    let rest = (ruled (applied d mode img t) img v (step_of mode img t a v)).begun in
    let one = ruled_shallow (applied d mode img t) img b d e (λ r w h. shallow d mode img t r w (sound r h)) v (step_of mode img t a v)
    (step_follows mode img t b v a s.1) (first e img a rest none) (others e img a rest none) in
    omega (arith, one)
