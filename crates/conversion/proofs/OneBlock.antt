-- What one block begins and answers, given what holds of the blocks nested in it: no more than all of its references begin, and never that a block
-- cannot be opened. Assumes nothing.
use mathlib.Core.Path.{◌≡◌, refl, ap}
use mathlib.Core.Bool.{Bool, ◌||◌, cond}
use mathlib.Core.List.{List, ◌++◌}
use Prim.Native.Nat.{ℕ, zero, suc, ◌+◌, ◌-◌, ◌≤◌}
use native.Mathlib.Omega.{arith}
use lib.Bits.{bit_and}
use lib.ListN.{length, get_or, take, length-append}
use Rattle.blocks.specs.Place.{references}
use Rattle.blocks.specs.View.{view_of}
use Rattle.blocks.specs.declared.Block.{Block}
use Rattle.leads.specs.Lead.{lead_at}
use Rattle.leads.specs.declared.lead.Lead.{Lead}
use Rattle.leads.specs.declared.lead.Lead.TheVariants as lead
use Rattle.rules.specs.Numbers.{taken}
use Rattle.rules.specs.declared.number.Value.{Value}
use Rattle.rules.specs.declared.number.Value.TheVariants.{Unsigned}
use Rattle.steps.specs.Choice.{chosen_key, chosen_range}
use Rattle.steps.specs.declared.mode.Edition.{Edition}
use Rattle.steps.specs.declared.plain.Plain.{Plain}
use Rattle.steps.specs.declared.plain.Plain.TheVariants as plain
use Rattle.steps.specs.declared.choice.Choice.{Choice}
use Rattle.steps.specs.declared.choice.Choice.TheVariants as choice
use Rattle.steps.specs.declared.step.Step.{Step}
use Rattle.steps.specs.declared.step.Step.TheVariants.{ByKey, ByRange, ByBits, Done}
use Rattle.pieces.specs.Answer.{Answer, number, text, unchanged, unknown, formula, broken, spelled, prefixed}
use Rattle.pieces.specs.Label.{label}
use Rattle.tree.specs.Tree.{leads_in, sizes}
use Rattle.engine.specs.Apply.{Ap, passed_on, mask_at, group_count, part_of, Groups, going, halted, grown, more, groups, gathered, bit_groups, ruled}
use Rattle.conversion.proofs.References.{Reference, reference_count, nested_lead, reference_of_lem, one_of, next_of, first_of}
use Rattle.conversion.proofs.Steps.{Sane, Follows, Chosen, chosen_key_lem, chosen_range_lem}

-- every answer but that a block cannot be opened
abbrev pub Fine : Answer → Type 0
Fine (number x) = Unit {0}
Fine (text t) = Unit {0}
Fine unchanged = Unit {0}
Fine unknown = Unit {0}
Fine formula = Unit {0}
Fine broken = ⊥

fine_plain : (img : List ℕ) (p : Plain) → Sane p → Fine (spelled img p)
fine_plain img (plain.Number x) h = tt
fine_plain img (plain.Words run) h = tt
fine_plain img plain.Unchanged h = tt
fine_plain img plain.Unknown h = tt
fine_plain img plain.Formula h = tt
fine_plain img plain.Broken h = h

fine_prefixed : (pre : List ℕ) (x : Answer) → Fine x → Fine (prefixed pre x)
fine_prefixed pre (number x) h = tt
fine_prefixed pre (text t) h = tt
fine_prefixed pre unchanged h = tt
fine_prefixed pre unknown h = tt
fine_prefixed pre formula h = tt
fine_prefixed pre broken h = h

-- ---- the groups so far
abbrev pub met : Groups → List ℕ
met (going ps begun odd) = begun
met (halted x begun odd) = begun

abbrev FineGroups : Groups → Type 0
FineGroups (going ps begun odd) = Unit {0}
FineGroups (halted x begun odd) = Fine x

met_grown : (ps : List (List ℕ)) (begun : List ℕ) (odd : Bool) (x : Answer) → met (grown ps begun odd x) ≡ begun
met_grown ps begun odd (number x) = refl
met_grown ps begun odd (text t) = refl
met_grown ps begun odd unchanged = refl
met_grown ps begun odd unknown = refl
met_grown ps begun odd formula = refl
met_grown ps begun odd broken = refl

met_more : (s : Groups) (x : Ap) → length (met (more s x)) ≤ length (met s) + length x.begun
met_more (going ps begun odd) x =
    omega (arith, ap length (met_grown ps (begun ++ x.begun) (odd || x.malformed) x.says), length-append begun x.begun)
met_more (halted y begun odd) x = omega arith

fine_grown : (ps : List (List ℕ)) (begun : List ℕ) (odd : Bool) (x : Answer) → Fine x → FineGroups (grown ps begun odd x)
fine_grown ps begun odd (number x) h = tt
fine_grown ps begun odd (text t) h = tt
fine_grown ps begun odd unchanged h = tt
fine_grown ps begun odd unknown h = tt
fine_grown ps begun odd formula h = tt
fine_grown ps begun odd broken h = h

fine_more : (s : Groups) (x : Ap) → FineGroups s → Fine x.says → FineGroups (more s x)
fine_more (going ps begun odd) x h k = fine_grown ps (begun ++ x.begun) (odd || x.malformed) x.says k
fine_more (halted y begun odd) x h k = h

met_gathered : (s : Groups) → (gathered s).begun ≡ met s
met_gathered (going ps begun odd) = refl
met_gathered (halted x begun odd) = refl

fine_gathered : (s : Groups) → FineGroups s → Fine (gathered s).says
fine_gathered (going ps begun odd) h = tt
fine_gathered (halted x begun odd) h = h

-- ---- one block, given what holds of the nested ones: g bounds the blocks begun
module _ (nested : ℕ → Value → Ap) (img : List ℕ) (b : Block) (g : ℕ → ℕ)
    (known : (a : ℕ) (w : Value) → Reference img b a → (length (nested a w).begun ≤ g a) × Fine (nested a w).says) where
  abbrev all : ℕ
  all = sizes g (leads_in img) (references img b)

  passed : (v : Value) (c : Choice) → Chosen img b c → (length (passed_on nested img v c).begun ≤ all) × Fine (passed_on nested img v c).says
  passed v (choice.Nested a) h =
      let one : g a ≤ all = rw (h.there, h.leads) at (one_of (leads_in img) g (references img b) h.index h.early) in
      (omega (arith, one, (known a v h).0), (known a v h).1)
  passed v (choice.Done p) h = (omega arith, fine_plain img p h)

  part_few : (i m : ℕ) (l : Lead) → lead_at img (view_of b) i ≡ l
      → length (part_of nested img l m).begun ≤ cond (leads_in img (get_or (references img b) i 0)) (g (get_or (references img b) i 0)) 0
  part_few i m (lead.Words run) e = omega arith
  part_few i m (lead.Nested a) e =
      let n = nested_lead img b i a e in
      rw (n.1, n.2) (known a (Unsigned m) (reference_of_lem img b i a e)).0
  part_few i m lead.Nil e = omega arith
  part_few i m lead.Elsewhere e = omega arith

  part_fine : (i m : ℕ) (l : Lead) → lead_at img (view_of b) i ≡ l → Fine (part_of nested img l m).says
  part_fine i m (lead.Words run) e = tt
  part_fine i m (lead.Nested a) e =
      fine_prefixed (label img a) (nested a (Unsigned m)).says (known a (Unsigned m) (reference_of_lem img b i a e)).1
  part_fine i m lead.Nil e = tt
  part_fine i m lead.Elsewhere e = tt

  groups_few : (bits n : ℕ) → n ≤ b.links - 4 → length (met (groups nested img (view_of b) bits n)) ≤ sizes g (leads_in img) (take n (references img b))
  unfolding groups
  groups_few bits zero h = omega arith
  groups_few bits (suc n) h =
      let m = bit_and bits (mask_at img (view_of b) n) in
      omega (
        arith,
        groups_few bits n (omega arith),
        met_more (groups nested img (view_of b) bits n) (part_of nested img (lead_at img (view_of b) n) m),
        part_few n m (lead_at img (view_of b) n) refl,
        next_of (leads_in img) g (references img b) n (omega (arith, reference_count img b)),
      )

  groups_fine : (bits n : ℕ) → FineGroups (groups nested img (view_of b) bits n)
  unfolding groups
  groups_fine bits zero = tt
  groups_fine bits (suc n) =
      let m = bit_and bits (mask_at img (view_of b) n) in
      fine_more (groups nested img (view_of b) bits n) (part_of nested img (lead_at img (view_of b) n) m) (groups_fine bits n) (part_fine n m (lead_at img (view_of b) n) refl)

  bits_few : (bits : ℕ) → length (bit_groups nested img (view_of b) bits).begun ≤ all
  unfolding bit_groups
  bits_few bits =
      let s = groups nested img (view_of b) bits (group_count (view_of b)) in
      omega (
        arith,
        ap length (met_gathered s),
        groups_few bits (group_count (view_of b)) (omega arith),
        first_of (leads_in img) g (references img b) (group_count (view_of b)),
      )

  bits_fine : (bits : ℕ) → Fine (bit_groups nested img (view_of b) bits).says
  unfolding bit_groups
  bits_fine bits = fine_gathered (groups nested img (view_of b) bits (group_count (view_of b))) (groups_fine bits (group_count (view_of b)))

  pub one_block : (e : Edition) (v : Value) (s : Step) → Follows e b s → (length (ruled nested img v s).begun ≤ all) × Fine (ruled nested img v s).says
  one_block e v (ByKey c) h = rw h (passed v (chosen_key img (view_of b) (taken v)) (chosen_key_lem img b (taken v)))
  one_block e v (ByRange c) h = rw h (passed v (chosen_range img (view_of b) (taken v)) (chosen_range_lem img b (taken v)))
  one_block e v (ByBits c bits) h = rw h.0 (bits_few bits, bits_fine bits)
  one_block e v (Done p) h = (omega arith, fine_plain img p h)
