-- An application says that a malformed table was consulted exactly where it began a block with a number whose table is malformed (request [5]).
-- Assumes nothing.
use Rattle.std.specs.Prelude.{Err, None, Ok, Option, Result, Some}
use mathlib.Core.Path.{◌≡◌, refl, sym, ap, subst, ◌∙◌}
use mathlib.Core.Bool.{Bool, true, false, ◌&&◌, ◌||◌}
use mathlib.Core.List.{List, [], ◌∷◌, ◌++◌}
use Prim.Native.Nat.{ℕ, zero, suc}
use borrow.Author.Tests.{eqb-true}
use lib.Bits.{bit_and}
use lib.Dec.{eqb}
use Rattle.words.proofs.Clash.{clash}
use Rattle.std.proofs.Math.Bool.{or_assoc, and-false}
use Rattle.common.specs.Types.{type_of, number_of_type}
use Rattle.common.specs.declared.refusal.Refusal.{Refusal}
use Rattle.common.specs.declared.types.ConversionType.{ConversionType}
use Rattle.common.specs.declared.types.ConversionType.TheVariants as kind
use Rattle.common.proofs.TypeNumbers.{type_number}
use Rattle.blocks.specs.Block.{block_at, opened}
use Rattle.blocks.specs.View.{view_of, seen_of, seen}
use Rattle.blocks.specs.declared.Block.{Block}
use Rattle.blocks.specs.declared.view.View.{View}
use Rattle.leads.specs.Lead.{lead_at}
use Rattle.leads.specs.declared.lead.Lead.{Lead}
use Rattle.leads.specs.declared.lead.Lead.TheVariants as lead
use Rattle.rules.specs.Values.{values}
use Rattle.rules.specs.Numbers.{taken}
use Rattle.rules.specs.Search.{malformed}
use Rattle.rules.specs.declared.number.Value.{Value}
use Rattle.rules.specs.declared.number.Value.TheVariants as value
use Rattle.rules.proofs.Malformed.{malformed_said}
use Rattle.rules.proofs.Steps.{values_length}
use Rattle.steps.specs.Mode.{bits_of}
use Rattle.steps.specs.Choice.{chosen_key, chosen_range, malformed_range}
use Rattle.steps.specs.Step.{grouped_in, typed, unless_cut, step_of}
use Rattle.steps.specs.declared.mode.Mode.{Mode}
use Rattle.steps.specs.declared.mode.Edition.{Edition}
use Rattle.steps.specs.declared.mode.Edition.TheVariants.{Mdf410, Mdf420}
use Rattle.steps.specs.declared.choice.Choice.{Choice}
use Rattle.steps.specs.declared.choice.Choice.TheVariants as choice
use Rattle.steps.specs.declared.step.Step.{Step}
use Rattle.steps.specs.declared.step.Step.TheVariants.{ByKey, ByRange, ByBits, Done}
use Rattle.pieces.specs.Answer.{Answer, number, text, unchanged, unknown, formula, broken}
use Rattle.tree.specs.Tree.{Sound}
use Rattle.tree.specs.Walk.{checked}
use Rattle.tree.proofs.Acceptance.{acceptance}
use Rattle.engine.specs.Apply.{Ap, passed_on, mask_at, group_count, part_of, Groups, going, halted, grown, more, groups, gathered, bit_groups, ruled, applied}
use Rattle.conversion.specs.Entry.{Call, settled, by_check, applying}
use Rattle.conversion.specs.Reach.{has_malformed, some_malformed, has_number, consulted}
use Rattle.conversion.proofs.References.{Reference, reference_of_lem}
use Rattle.conversion.proofs.OneBlock.{met}
use Rattle.conversion.proofs.Steps.{Chosen, chosen_key_lem, chosen_range_lem}
use Rattle.conversion.proofs.Demand.{after_check}
use Rattle.conversion.proofs.Reach.{below}
use Rattle.rules.specs.declared.number.Taken.{Taken}

-- ---- truths
some_append : (img xs ys : List ℕ) → some_malformed img (xs ++ ys) ≡ (some_malformed img xs || some_malformed img ys)
unfolding some_malformed
some_append img [] ys = refl
some_append img (a ∷ xs) ys =
    ap (λ (s : Bool). has_malformed (block_at img a) || s) (some_append img xs ys) ∙ sym (or_assoc (has_malformed (block_at img a)) (some_malformed img xs) (some_malformed img ys))

-- ---- the step of a whole block b: by range only where it has type 8, and by bits only for a number
abbrev Begins : Block → Value → Step → Type 0
Begins b v (ByKey c) = (c ≡ view_of b) × (has_malformed b ≡ false)
Begins b v (ByRange c) = (c ≡ view_of b) × (b.kind ≡ 8)
Begins b v (ByBits c bits) = (c ≡ view_of b) × ((has_malformed b ≡ false) × (has_number (taken v) ≡ true))
Begins b v (Done p) = has_malformed b ≡ false

module _ (mode : Mode) (img t : List ℕ) (b : Block) where
  by_bits : (e : Edition) (v : Value) → has_malformed b ≡ false → Begins b v (grouped_in e (view_of b) (bits_of mode v))
  by_bits Mdf410 v h = h
  by_bits Mdf420 (value.Unsigned n) h = (refl, (h, refl))
  by_bits Mdf420 (value.Signed n) h = (refl, (h, refl))
  by_bits Mdf420 (value.Float x) h = h
  by_bits Mdf420 value.Text h = h
  by_bits Mdf420 value.Other h = h

  by_type : (v : Value) (k : ConversionType) → b.kind ≡ number_of_type k → has_malformed b ≡ false → Begins b v (typed mode img t (view_of b) v k)
  by_type v kind.Identity e h = h
  by_type v kind.Linear e h = h
  by_type v kind.Rational e h = h
  by_type v kind.Formula e h = h
  by_type v kind.TableInterpolated e h = h
  by_type v kind.TableNearest e h = h
  by_type v kind.RangeToValue e h = h
  by_type v kind.ValueToText e h = (refl, h)
  by_type v kind.RangeToText e h = (refl, e)
  by_type v kind.TextToValue e h = h
  by_type v kind.TextToText e h = h
  by_type v kind.BitGroups e h = by_bits mode.edition v h
  by_type v (kind.Unknown n) e h = h

  eight : (v : Value) → b.kind ≡ 8 → Begins b v (typed mode img t (view_of b) v (type_of b.kind))
  unfolding type_of
  eight v e = subst (λ (n : ℕ). Begins b v (typed mode img t (view_of b) v (type_of n))) (sym e) (refl, e)

  by_kind : (v : Value) (x : Bool) → eqb b.kind 8 ≡ x → Begins b v (typed mode img t (view_of b) v (type_of b.kind))
  by_kind v true h = eight v (eqb-true _ _ h)
  by_kind v false h = by_type v (type_of b.kind) (sym (type_number b.kind)) (ap (λ (x : Bool). x && malformed b.valcount) h)

  begins : (v : Value) (a : ℕ) → opened img a ≡ Ok b → Begins b v (step_of mode img t a v)
  unfolding step_of seen
  begins v a e = subst (λ (p : Result Block Refusal). Begins b v (unless_cut mode img t v (seen_of p))) (sym e) (by_kind v (eqb b.kind 8) refl)

-- ---- the groups so far
abbrev flag : Groups → Bool
flag (going ps begun odd) = odd
flag (halted x begun odd) = odd

grown_same : (img : List ℕ) (ps : List (List ℕ)) (begun : List ℕ) (odd : Bool) (x : Answer) → odd ≡ some_malformed img begun
    → flag (grown ps begun odd x) ≡ some_malformed img (met (grown ps begun odd x))
grown_same img ps begun odd (number x) h = h
grown_same img ps begun odd (text t) h = h
grown_same img ps begun odd unchanged h = h
grown_same img ps begun odd unknown h = h
grown_same img ps begun odd formula h = h
grown_same img ps begun odd broken h = h

more_same : (img : List ℕ) (s : Groups) (x : Ap) → flag s ≡ some_malformed img (met s) → x.malformed ≡ some_malformed img x.begun
    → flag (more s x) ≡ some_malformed img (met (more s x))
more_same img (going ps begun odd) x h k =
    grown_same img ps (begun ++ x.begun) (odd || x.malformed) x.says
    (ap (λ (o : Bool). o || x.malformed) h ∙ ap (λ (o : Bool). some_malformed img begun || o) k ∙ sym (some_append img begun x.begun))
more_same img (halted y begun odd) x h k = h

gathered_same : (img : List ℕ) (s : Groups) → flag s ≡ some_malformed img (met s) → (gathered s).malformed ≡ some_malformed img (gathered s).begun
gathered_same img (going ps begun odd) h = h
gathered_same img (halted x begun odd) h = h

-- ---- one block, given that it holds of the nested ones
module _ (nested : ℕ → Value → Ap) (img : List ℕ) (b : Block)
    (known : (a : ℕ) (w : Value) → Reference img b a → (nested a w).malformed ≡ consulted img w (nested a w).begun) where
  passed : (v : Value) (c : Choice) → Chosen img b c → (passed_on nested img v c).malformed ≡ consulted img v (passed_on nested img v c).begun
  unfolding some_malformed
  passed v (choice.Nested a) h = known a v h
  passed v (choice.Done p) h = sym (and-false (has_number (taken v)))

  -- the table that was consulted is the block's
  ranged : (v : Value) (x : Option Taken) → taken v ≡ x → b.kind ≡ 8
      → (malformed_range img (view_of b) x || (passed_on nested img v (chosen_range img (view_of b) x)).malformed)
      ≡ (has_number x && (has_malformed b || some_malformed img (passed_on nested img v (chosen_range img (view_of b) x)).begun))
  ranged v (Some y) e h =
      let vs = values img b.firstval b.valcount in
      let c = chosen_range img (view_of b) (Some y) in
      let own : malformed_range img (view_of b) (Some y) ≡ has_malformed b =
      malformed_said y.whole y.number vs ∙ ap malformed (values_length img b.firstval b.valcount) ∙ ap (λ (n : ℕ). eqb n 8 && malformed b.valcount) (sym h) in
      let rest : (passed_on nested img v c).malformed ≡ some_malformed img (passed_on nested img v c).begun =
      passed v c (chosen_range_lem img b (Some y)) ∙ ap (λ (n : Option Taken). has_number n && some_malformed img (passed_on nested img v c).begun) e in
      ap (λ (o : Bool). o || (passed_on nested img v c).malformed) own ∙ ap (λ (o : Bool). has_malformed b || o) rest
  ranged v None e h = refl

  part_same : (i m : ℕ) (l : Lead) → lead_at img (view_of b) i ≡ l → (part_of nested img l m).malformed ≡ some_malformed img (part_of nested img l m).begun
  unfolding some_malformed
  part_same i m (lead.Words run) e = refl
  part_same i m (lead.Nested a) e = known a (value.Unsigned m) (reference_of_lem img b i a e)
  part_same i m lead.Nil e = refl
  part_same i m lead.Elsewhere e = refl

  groups_same : (bits n : ℕ) → flag (groups nested img (view_of b) bits n) ≡ some_malformed img (met (groups nested img (view_of b) bits n))
  unfolding groups some_malformed
  groups_same bits zero = refl
  groups_same bits (suc n) =
      let m = bit_and bits (mask_at img (view_of b) n) in
      more_same img (groups nested img (view_of b) bits n) (part_of nested img (lead_at img (view_of b) n) m) (groups_same bits n) (part_same n m (lead_at img (view_of b) n) refl)

  bits_same : (bits : ℕ) → (bit_groups nested img (view_of b) bits).malformed ≡ some_malformed img (bit_groups nested img (view_of b) bits).begun
  unfolding bit_groups
  bits_same bits = gathered_same img (groups nested img (view_of b) bits (group_count (view_of b))) (groups_same bits (group_count (view_of b)))

  one_block : (v : Value) (s : Step) → Begins b v s
      → (ruled nested img v s).malformed ≡ (has_number (taken v) && (has_malformed b || some_malformed img (ruled nested img v s).begun))
  unfolding some_malformed
  one_block v (ByKey c) h = rw (h.0, h.1) (passed v (chosen_key img (view_of b) (taken v)) (chosen_key_lem img b (taken v)))
  one_block v (ByRange c) h = rw h.0 (ranged v (taken v) refl h.1)
  one_block v (ByBits c bits) h = rw (h.0, h.1.0, h.1.1) (bits_same bits)
  one_block v (Done p) h = rw h (sym (and-false (has_number (taken v))))

-- ---- every block of a sound tree
pub consulted_iff : (d : ℕ) (mode : Mode) (img t : List ℕ) (a : ℕ) (v : Value) → Sound d img a
    → (applied d mode img t a v).malformed ≡ consulted img v (applied d mode img t a v).begun
unfolding applied Sound some_malformed
consulted_iff zero mode img t a v s = absurd s
consulted_iff (suc d) mode img t a v s =
    let b = block_at img a in
    one_block (applied d mode img t) img b (λ r w h. consulted_iff d mode img t r w (below d img b s.2 r h)) v (step_of mode img t a v)
    (begins mode img t b v a s.1)

-- ---- a value that is no number begins the root alone, whatever stands there
module _ (nested : ℕ → Value → Ap) (mode : Mode) (img t : List ℕ) (v : Value) (none : taken v ≡ None) where
  no_bits : (e : Edition) (b : View) (w : Value) → taken w ≡ None → (ruled nested img v (grouped_in e b (bits_of mode w))).begun ≡ []
  no_bits Mdf410 b w h = refl
  no_bits Mdf420 b (value.Unsigned n) h = clash cc
  no_bits Mdf420 b (value.Signed n) h = clash cc
  no_bits Mdf420 b (value.Float x) h = refl
  no_bits Mdf420 b value.Text h = refl
  no_bits Mdf420 b value.Other h = refl

  alone_by : (b : View) (k : ConversionType) → (ruled nested img v (typed mode img t b v k)).begun ≡ []
  alone_by b kind.Identity = refl
  alone_by b kind.Linear = refl
  alone_by b kind.Rational = refl
  alone_by b kind.Formula = refl
  alone_by b kind.TableInterpolated = refl
  alone_by b kind.TableNearest = refl
  alone_by b kind.RangeToValue = refl
  alone_by b kind.ValueToText = rw none
  alone_by b kind.RangeToText = rw none
  alone_by b kind.TextToValue = refl
  alone_by b kind.TextToText = refl
  alone_by b kind.BitGroups = no_bits mode.edition b v none
  alone_by b (kind.Unknown n) = refl

  alone_seen : (s : Option View) → (ruled nested img v (unless_cut mode img t v s)).begun ≡ []
  alone_seen (Some b) = alone_by b (type_of b.kind)
  alone_seen None = refl

pub alone : (d : ℕ) (mode : Mode) (img t : List ℕ) (a : ℕ) (v : Value) → taken v ≡ None → (applied d mode img t a v).begun ≡ a ∷ []
unfolding applied step_of
alone zero mode img t a v h = refl
alone (suc d) mode img t a v h = ap (λ (l : List ℕ). a ∷ l) (alone_seen (applied d mode img t) mode img t v h (seen img a))

-- ---- what a call says
module _ (mode : Mode) (img : List ℕ) (a limit : ℕ) (v : Value) (t out : List ℕ) where
  -- where the check accepts: no more and no less than the blocks begun tell
  pub flag_accepted : (n : ℕ) → checked img a limit ≡ Ok n
      → (applying mode img a limit v t out).result.malformed ≡ consulted img v (applied 21 mode img t a v).begun
  unfolding settled
  flag_accepted n e =
      ap (λ (c : Call). c.result.malformed) (after_check mode img a limit n v t out e) ∙ consulted_iff 21 mode img t a v (acceptance img a limit n e).sound

  -- a refusal of the check consulted no table
  pub flag_refused : (r : Refusal) → checked img a limit ≡ Err r → (applying mode img a limit v t out).result.malformed ≡ false
  unfolding applying
  flag_refused r e = ap (λ (c : Result ℕ Refusal). (by_check c (λ n. settled n a (applied 21 mode img t a v) out) out).result.malformed) e
