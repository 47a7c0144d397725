-- Where the mode plays no part: two modes of edition 4.10 apply every conversion alike, and any two modes do where no block of type 11 is begun.
-- Assumes nothing.
use Rattle.std.specs.Prelude.{Ok, Result}
use mathlib.Core.Path.{◌≡◌, refl, sym, ap, subst, ◌∙◌}
use mathlib.Core.List.{List}
use Prim.Native.Nat.{ℕ, zero, suc}
use lib.Bits.{bit_and}
use Rattle.common.specs.Types.{type_of, number_of_type}
use Rattle.common.proofs.TypeNumbers.{type_number}
use Rattle.blocks.specs.Block.{block_at, opened}
use Rattle.blocks.specs.View.{view_of, seen_of, seen}
use Rattle.blocks.specs.declared.Block.{Block}
use Rattle.blocks.specs.declared.view.View.{View}
use Rattle.rules.specs.Numbers.{taken}
use Rattle.rules.specs.declared.number.Value.{Value}
use Rattle.rules.specs.declared.number.Value.TheVariants.{Unsigned}
use Rattle.steps.specs.Mode.{bits_of}
use Rattle.steps.specs.Choice.{chosen_key, chosen_range, malformed_range}
use Rattle.steps.specs.Step.{grouped_in, grouped, unless_cut, step_of}
use Rattle.steps.specs.declared.mode.Mode.{Mode}
use Rattle.steps.specs.declared.mode.Edition.{Edition}
use Rattle.steps.specs.declared.mode.Edition.TheVariants.{Mdf410}
use Rattle.steps.specs.declared.choice.Choice.{Choice}
use Rattle.steps.specs.declared.choice.Choice.TheVariants as choice
use Rattle.steps.specs.declared.step.Step.{Step}
use Rattle.steps.specs.declared.step.Step.TheVariants.{ByKey, ByRange, ByBits, Done}
use Rattle.tree.specs.Tree.{Sound}
use Rattle.engine.specs.Apply.{Ap, begin, noting, passed_on, ruled, mask_at, applied}
use Rattle.conversion.specs.Reach.{NoGroups}
use Rattle.conversion.proofs.References.{Reference}
use Rattle.conversion.proofs.Reach.{below}
use Rattle.conversion.proofs.Steps.{Follows, step_follows, Chosen, chosen_key_lem, chosen_range_lem}
use Rattle.modes.proofs.Same.{AgreeOn, one_block, same_typed, same_step}
use Rattle.common.specs.declared.refusal.Refusal.{Refusal}

-- ---- two modes of edition 4.10
module _ (one other : Mode) (older : one.edition ≡ Mdf410) (also : other.edition ≡ Mdf410) (img t : List ℕ) where
  unknown_in_both : (v : Value) (b : View) → grouped one b v ≡ grouped other b v
  unknown_in_both v b =
      ap (λ (e : Edition). grouped_in e b (bits_of one v)) older ∙ sym (ap (λ (e : Edition). grouped_in e b (bits_of other v)) also)

  agree : (here there : ℕ → Value → Ap) → ((a : ℕ) (w : Value) → here a w ≡ there a w) → (v : Value) (s : Step) → AgreeOn here there img v s
  agree here there known v (ByKey b) = λ a. known a v
  agree here there known v (ByRange b) = λ a. known a v
  agree here there known v (ByBits b bits) = λ i a. known a (Unsigned (bit_and bits (mask_at img b i)))
  agree here there known v (Done p) = tt

  pub same_in_410 : (d a : ℕ) (v : Value) → applied d one img t a v ≡ applied d other img t a v
  unfolding applied
  same_in_410 zero a v = refl
  same_in_410 (suc d) a v =
      let s = step_of one img t a v in
      let nested = agree (applied d one img t) (applied d other img t) (λ x w. same_in_410 d x w) v s in
      ap (begin a)
      (one_block (applied d one img t) (applied d other img t) img v s nested
      ∙ ap (ruled (applied d other img t) img v) (same_step one other img t a v (unknown_in_both v)))

-- ---- any two modes, where no block of type 11 is begun
-- what a block that has another type does with the value, given that the nested ones agree
module _ (here there : ℕ → Value → Ap) (img : List ℕ) (b : Block)
    (known : (a : ℕ) (w : Value) → Reference img b a → NoGroups img (here a w).begun → here a w ≡ there a w) where
  passed : (v : Value) (c : Choice) → Chosen img b c → NoGroups img (passed_on here img v c).begun → passed_on here img v c ≡ passed_on there img v c
  passed v (choice.Nested a) h none = known a v h none
  passed v (choice.Done p) h none = refl

  other_type : (e : Edition) (v : Value) (s : Step) → Follows e b s → (b.kind ≡ 11 → ⊥) → NoGroups img (ruled here img v s).begun
      → ruled here img v s ≡ ruled there img v s
  other_type e v (ByKey c) h other none =
      rw h (passed v (chosen_key img (view_of b) (taken v)) (chosen_key_lem img b (taken v)) (rw h at none))
  other_type e v (ByRange c) h other none =
      rw h
      (ap (noting (malformed_range img (view_of b) (taken v)))
      (passed v (chosen_range img (view_of b) (taken v)) (chosen_range_lem img b (taken v)) (rw h at none)))
  other_type e v (ByBits c bits) h other none = absurd (other h.1)
  other_type e v (Done p) h other none = refl

module _ (one other : Mode) (img t : List ℕ) where
  step_of_other : (a : ℕ) (v : Value) → opened img a ≡ Ok (block_at img a) → ((block_at img a).kind ≡ 11 → ⊥)
      → step_of one img t a v ≡ step_of other img t a v
  unfolding step_of seen
  step_of_other a v whole another =
      let b = block_at img a in
      subst (λ (p : Result Block Refusal). unless_cut one img t v (seen_of p) ≡ unless_cut other img t v (seen_of p)) (sym whole)
      (same_typed one other img t (view_of b) v (type_of b.kind)
      (λ is. absurd (another (sym (type_number b.kind) ∙ ap number_of_type is))))

  pub same_without : (d a : ℕ) (v : Value) → Sound d img a → NoGroups img (applied d one img t a v).begun → applied d one img t a v ≡ applied d other img t a v
  unfolding applied Sound NoGroups
  same_without zero a v s none = absurd s
  same_without (suc d) a v s none =
      let b = block_at img a in
      let sound = below d img b s.2 in
      ap (begin a)
      (other_type (applied d one img t) (applied d other img t) img b (λ r w h. same_without d r w (sound r h)) one.edition v (step_of one img t a v)
      (step_follows one img t b v a s.1) none.0 none.1
      ∙ ap (ruled (applied d other img t) img v) (step_of_other a v s.1 none.0))
