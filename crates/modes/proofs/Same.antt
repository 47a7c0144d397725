-- Two modes of one edition that let the same bits of a value pass apply a conversion alike: a nested block gets the value itself, or a part of those
-- bits, of which both let pass all. Assumes nothing.
use Rattle.std.specs.Prelude.{Err, None, Ok, Option, Some}
use mathlib.Core.Path.{◌≡◌, refl, sym, ap, ap₂, subst, ◌∙◌}
use mathlib.Core.Bool.{Bool, true, false, cond}
use mathlib.Core.List.{List}
use Prim.Native.Nat.{ℕ, zero, suc, ◌^◌, ◌<◌}
use native.Mathlib.Nat.{mod-eq_of_lt, mod-lt, lt_of_le_of_lt}
use lib.Bits.{bit_and, and_le_l}
use lib.Dec.{leb}
use lib.ListN.{length}
use lib.Pow.{pow_pos}
use Rattle.floats.specs.Twos.{twos}
use Rattle.common.specs.Types.{type_of}
use Rattle.common.specs.declared.refusal.Refusal.TheVariants.{Short}
use Rattle.common.specs.declared.types.ConversionType.{ConversionType}
use Rattle.common.specs.declared.types.ConversionType.TheVariants as kind
use Rattle.blocks.specs.Block.{block_at, block_end, opened}
use Rattle.blocks.specs.View.{view_of, seen_of, seen}
use Rattle.blocks.specs.declared.view.View.{View}
use Rattle.leads.specs.Lead.{lead_at}
use Rattle.leads.specs.declared.lead.Lead.{Lead}
use Rattle.leads.specs.declared.lead.Lead.TheVariants as lead
use Rattle.rules.specs.Numbers.{taken}
use Rattle.rules.specs.declared.number.Value.{Value}
use Rattle.rules.specs.declared.number.Value.TheVariants.{Unsigned, Signed, Float, Text, Other}
use Rattle.steps.specs.Mode.{bits_of}
use Rattle.steps.specs.Choice.{chosen_key, chosen_range, malformed_range}
use Rattle.steps.specs.Step.{grouped_in, grouped, typed, unless_cut, step_of}
use Rattle.steps.specs.declared.mode.Mode.{Mode}
use Rattle.steps.specs.declared.mode.Edition.{Edition}
use Rattle.steps.specs.declared.mode.Edition.TheVariants.{Mdf410, Mdf420}
use Rattle.steps.specs.declared.choice.Choice.{Choice}
use Rattle.steps.specs.declared.choice.Choice.TheVariants as choice
use Rattle.steps.specs.declared.step.Step.{Step}
use Rattle.steps.specs.declared.step.Step.TheVariants.{ByKey, ByRange, ByBits, Done}
use Rattle.engine.specs.Apply.{Ap, begin, noting, passed_on, mask_at, group_count, part_of, prefixed_ap, more, groups, gathered, bit_groups, ruled, applied}
use Rattle.pieces.specs.Label.{label}

-- ---- the bits that pass, and what a mask leaves of them
abbrev pub Below : Mode → Option ℕ → Type 0
Below mode (Some bits) = bits < 2 ^ mode.width
Below mode None = Unit {0}

-- they are below the width's power of two
pub below : (mode : Mode) (v : Value) → Below mode (bits_of mode v)
below mode (Unsigned n) = mod-lt n (pow_pos mode.width)
below mode (Signed n) = mod-lt (twos n) (pow_pos mode.width)
below mode (Float x) = tt
below mode Text = tt
below mode Other = tt

-- the bits of a number that a mode lets pass whole
pub held : (mode : Mode) (n : ℕ) → n < 2 ^ mode.width → bits_of mode (Unsigned n) ≡ Some n
held mode n h = ap Some (mod-eq_of_lt h)

-- ---- one block, given that the nested ones agree on what it gives them
module _ (one other : ℕ → Value → Ap) (img : List ℕ) where
  abbrev pub Agree : Value → Type 0
  Agree v = (a : ℕ) → one a v ≡ other a v

  passed : (v : Value) → Agree v → (c : Choice) → passed_on one img v c ≡ passed_on other img v c
  passed v same (choice.Nested a) = same a
  passed v same (choice.Done p) = refl

  parted : (m : ℕ) → Agree (Unsigned m) → (l : Lead) → part_of one img l m ≡ part_of other img l m
  parted m same (lead.Words run) = refl
  parted m same (lead.Nested a) = ap (prefixed_ap (label img a)) (same a)
  parted m same lead.Nil = refl
  parted m same lead.Elsewhere = refl

  module _ (b : View) (bits : ℕ) (same : (i : ℕ) → Agree (Unsigned (bit_and bits (mask_at img b i)))) where
    so_many : (n : ℕ) → groups one img b bits n ≡ groups other img b bits n
    unfolding groups
    so_many zero = refl
    so_many (suc i) = ap₂ more (so_many i) (parted (bit_and bits (mask_at img b i)) (same i) (lead_at img b i))

    all_groups : bit_groups one img b bits ≡ bit_groups other img b bits
    unfolding bit_groups
    all_groups = ap gathered (so_many (group_count b))

  -- what a block gives the nested ones: types 7 and 8 the value, bit groups what the masks leave
  abbrev pub AgreeOn : Value → Step → Type 0
  AgreeOn v (ByKey b) = Agree v
  AgreeOn v (ByRange b) = Agree v
  AgreeOn v (ByBits b bits) = (i : ℕ) → Agree (Unsigned (bit_and bits (mask_at img b i)))
  AgreeOn v (Done p) = Unit {0}

  pub one_block : (v : Value) (s : Step) → AgreeOn v s → ruled one img v s ≡ ruled other img v s
  one_block v (ByKey b) same = passed v same (chosen_key img b (taken v))
  one_block v (ByRange b) same = ap (noting (malformed_range img b (taken v))) (passed v same (chosen_range img b (taken v)))
  one_block v (ByBits b bits) same = all_groups b bits same
  one_block v (Done p) same = refl

-- ---- what a block does depends on the bits that pass
module _ (mode : Mode) (img t : List ℕ) where
  -- the bits that reach the masks are those
  abbrev BelowIn : Step → Type 0
  BelowIn (ByKey b) = Unit {0}
  BelowIn (ByRange b) = Unit {0}
  BelowIn (ByBits b bits) = bits < 2 ^ mode.width
  BelowIn (Done p) = Unit {0}

  below_in : (e : Edition) (b : View) (w : Option ℕ) → Below mode w → BelowIn (grouped_in e b w)
  below_in Mdf410 b w h = tt
  below_in Mdf420 b (Some bits) h = h
  below_in Mdf420 b None h = tt

  below_typed : (b : View) (v : Value) (k : ConversionType) → BelowIn (typed mode img t b v k)
  below_typed b v kind.Identity = tt
  below_typed b v kind.Linear = tt
  below_typed b v kind.Rational = tt
  below_typed b v kind.Formula = tt
  below_typed b v kind.TableInterpolated = tt
  below_typed b v kind.TableNearest = tt
  below_typed b v kind.RangeToValue = tt
  below_typed b v kind.ValueToText = tt
  below_typed b v kind.RangeToText = tt
  below_typed b v kind.TextToValue = tt
  below_typed b v kind.TextToText = tt
  below_typed b v kind.BitGroups = below_in mode.edition b (bits_of mode v) (below mode v)
  below_typed b v (kind.Unknown n) = tt

  below_seen : (v : Value) (s : Option View) → BelowIn (unless_cut mode img t v s)
  below_seen v (Some b) = below_typed b v (type_of b.kind)
  below_seen v None = tt

  below_step : (a : ℕ) (v : Value) → BelowIn (step_of mode img t a v)
  unfolding step_of
  below_step a v = below_seen v (seen img a)

-- ---- two modes
module _ (one other : Mode) (img t : List ℕ) where
  -- only type 11 looks at the mode
  pub same_typed : (b : View) (v : Value) (k : ConversionType) → (k ≡ kind.BitGroups → grouped one b v ≡ grouped other b v)
      → typed one img t b v k ≡ typed other img t b v k
  same_typed b v kind.Identity h = refl
  same_typed b v kind.Linear h = refl
  same_typed b v kind.Rational h = refl
  same_typed b v kind.Formula h = refl
  same_typed b v kind.TableInterpolated h = refl
  same_typed b v kind.TableNearest h = refl
  same_typed b v kind.RangeToValue h = refl
  same_typed b v kind.ValueToText h = refl
  same_typed b v kind.RangeToText h = refl
  same_typed b v kind.TextToValue h = refl
  same_typed b v kind.TextToText h = refl
  same_typed b v kind.BitGroups h = h refl
  same_typed b v (kind.Unknown n) h = refl

  same_seen : (v : Value) (s : Option View) → ((b : View) → grouped one b v ≡ grouped other b v) → unless_cut one img t v s ≡ unless_cut other img t v s
  same_seen v (Some b) h = same_typed b v (type_of b.kind) (λ _. h b)
  same_seen v None h = refl

  pub same_step : (a : ℕ) (v : Value) → ((b : View) → grouped one b v ≡ grouped other b v) → step_of one img t a v ≡ step_of other img t a v
  unfolding step_of
  same_step a v h = same_seen v (seen img a) h

-- ---- two modes of one edition
module _ (one other : Mode) (edition : one.edition ≡ other.edition) (img t : List ℕ) where
  same_grouped : (v w : Value) → bits_of one v ≡ bits_of other w → (b : View) → grouped one b v ≡ grouped other b w
  same_grouped v w h b = ap₂ (λ (e : Edition) (x : Option ℕ). grouped_in e b x) edition h

  -- what a mask leaves of bits that both let pass, both let pass
  masked : (bits m : ℕ) → bits < 2 ^ one.width → bits < 2 ^ other.width → bits_of one (Unsigned (bit_and bits m)) ≡ bits_of other (Unsigned (bit_and bits m))
  masked bits m h k =
      held one (bit_and bits m) (lt_of_le_of_lt (and_le_l bits m) h) ∙ sym (held other (bit_and bits m) (lt_of_le_of_lt (and_le_l bits m) k))

  -- so nested blocks that agree wherever the same bits pass, agree on what a block gives them
  agree : (here there : ℕ → Value → Ap) → ((a : ℕ) (w : Value) → bits_of one w ≡ bits_of other w → here a w ≡ there a w)
      → (v : Value) → bits_of one v ≡ bits_of other v → (s : Step) → BelowIn one img t s → BelowIn other img t s → AgreeOn here there img v s
  agree here there known v h (ByKey b) p q = λ a. known a v h
  agree here there known v h (ByRange b) p q = λ a. known a v h
  agree here there known v h (ByBits b bits) p q = λ i a. known a (Unsigned (bit_and bits (mask_at img b i))) (masked bits (mask_at img b i) p q)
  agree here there known v h (Done r) p q = tt

  -- where both let the same bits of the value pass, the application is the same: the answer, the blocks begun and the flag
  pub same_bits : (d a : ℕ) (v : Value) → bits_of one v ≡ bits_of other v → applied d one img t a v ≡ applied d other img t a v
  unfolding applied
  same_bits zero a v h = refl
  same_bits (suc d) a v h =
      let same = same_step one other img t a v (same_grouped v v h) in
      let both = agree (applied d one img t) (applied d other img t) (λ x w k. same_bits d x w k) v h (step_of one img t a v) (below_step one img t a v)
      (subst (BelowIn other img t) (sym same) (below_step other img t a v)) in
      ap (begin a)
      (one_block (applied d one img t) (applied d other img t) img v (step_of one img t a v) both ∙ ap (ruled (applied d other img t) img v) same)

  -- a bit-group block: the bits that pass decide, and the value itself plays no part
  by_groups : (d : ℕ) (e : Edition) (b : View) (v w : Value) (x : Option ℕ) → Below one x → Below other x
      → ruled (applied d one img t) img v (grouped_in e b x) ≡ ruled (applied d other img t) img w (grouped_in e b x)
  by_groups d Mdf410 b v w x p q = refl
  by_groups d Mdf420 b v w (Some bits) p q =
      all_groups (applied d one img t) (applied d other img t) img b bits
      (λ i a. same_bits d a (Unsigned (bit_and bits (mask_at img b i))) (masked bits (mask_at img b i) p q))
  by_groups d Mdf420 b v w None p q = refl

  -- what a block does that is whole, or is not
  abbrev By : Mode → ℕ → ℕ → Value → Bool → Ap
  By mode d a v whole = ruled (applied d mode img t) img v (unless_cut mode img t v (seen_of (cond whole (Ok (block_at img a)) (Err (Short a)))))

  of_root : (d a : ℕ) (v w : Value) → (block_at img a).kind ≡ 11 → bits_of one v ≡ bits_of other w → (whole : Bool) → By one d a v whole ≡ By other d a w whole
  unfolding type_of
  of_root d a v w eleven h true =
      let b = view_of (block_at img a) in
      subst
      (λ (k : ℕ). ruled (applied d one img t) img v (typed one img t b v (type_of k)) ≡ ruled (applied d other img t) img w (typed other img t b w (type_of k)))
      (sym eleven)
      (by_groups d one.edition b v w (bits_of one v) (below one v) (subst (Below other) (sym h) (below other w))
      ∙ ap (ruled (applied d other img t) img w) (same_grouped v w h b))
  of_root d a v w eleven h false = refl

  -- two modes and two values: of a bit-group block the application is the same wherever the same bits pass
  pub same_root : (d a : ℕ) (v w : Value) → (block_at img a).kind ≡ 11 → bits_of one v ≡ bits_of other w → applied d one img t a v ≡ applied d other img t a w
  unfolding applied step_of seen opened
  same_root zero a v w eleven h = refl
  same_root (suc d) a v w eleven h = ap (begin a) (of_root d a v w eleven h (leb (block_end img a) (length img)))
