-- Laws of a call in a mode that is asked for in numbers, over what it answers (`applying_at`), for every image, address, limit, text and output: the two
-- tests, and the width. Those of the edition stand in `Editions`. Assumes nothing.
use Rattle.std.specs.Prelude.{Err, Ok, Result, Some}
use mathlib.Core.Path.{◌≡◌, refl, sym, ap, ap₂, subst, ◌∙◌}
use mathlib.Core.Bool.{Bool, true, false, cond, ◌&&◌}
use mathlib.Core.Logic.{◌⊎◌, inl, inr, ⊎_elim}
use mathlib.Core.List.{List}
use Prim.Native.Nat.{ℕ, ◌*◌, ◌^◌, ◌≤◌, ◌<◌}
use native.Mathlib.Nat.{lt_of_lt_of_le, lt_of_le_of_lt}
use native.Mathlib.Omega.{arith}
use borrow.Author.Tests.{leb-true}
use lib.Bits.{bit_and, and_comm, and_le_l, and_shifted}
use lib.Dec.{ltb, leb}
use lib.Pow.{pow_mono}
use Rattle.std.proofs.lemmas.Bool.{and_parts}
use Rattle.words.proofs.Clash.{clash}
use Rattle.common.specs.Refusal.{number_of}
use Rattle.common.specs.declared.refusal.Refusal.{Refusal}
use Rattle.common.specs.declared.refusal.Refusal.TheVariants.{Width, Edition as WrongEdition}
use Rattle.blocks.specs.Block.{block_at}
use Rattle.rules.specs.declared.number.Value.{Value}
use Rattle.rules.specs.declared.number.Value.TheVariants.{Unsigned}
use Rattle.steps.specs.Mode.{standard, bits_of}
use Rattle.steps.specs.declared.mode.Mode.{Mode}
use Rattle.tree.specs.Walk.{checked}
use Rattle.tree.proofs.Checks.{OfCheck, check_refuses}
use Rattle.engine.specs.Apply.{Ap, applied}
use Rattle.conversion.specs.Entry.{Call, call, refused_before, by_check, settled, applying}
use Rattle.conversion.specs.declared.logic.Answer.TheVariants.{Refused}
use Rattle.conversion.proofs.Demand.{untouched}
use Rattle.conversion.proofs.DemandThree.{demand_3}
use Rattle.modes.specs.Asked.{is_edition, is_width, mode_of, mode_asked, applying_at}
use Rattle.modes.proofs.Same.{below, held, same_bits, same_root}

-- ---- the refusals of a call that has a mode
-- a call in a mode refuses with 1 to 8 or 18
pub mode_refuses : (mode : Mode) (img : List ℕ) (a limit : ℕ) (v : Value) (t out : List ℕ) (r : Refusal)
    → (applying mode img a limit v t out).result.answer ≡ Refused r → (number_of r ≤ 8) ⊎ (number_of r ≡ 18)
mode_refuses mode img a limit v t out r p = go (checked img a limit) refl
  where
    go : (c : Result ℕ Refusal) → checked img a limit ≡ c → (number_of r ≤ 8) ⊎ (number_of r ≡ 18)
    go (Ok n) e =
        ⊎_elim (λ seven. inl (omega (arith, seven))) (λ eight. inl (omega (arith, eight))) (((demand_3 mode img a limit v t out).accepted n e).refusals r p)
    go (Err s) e =
        let same : Refused s ≡ Refused r = sym ((demand_3 mode img a limit v t out).refused s e).answer ∙ p in
        let it : s ≡ r = cc in
        ⊎_elim (λ six. inl (omega (arith, six, ap number_of it))) (λ few. inr (omega (arith, few, ap number_of it))) (subst OfCheck e (check_refuses img a limit))

-- so it never refuses with a number between these
not_between : {P : Type 0} (n : ℕ) → 8 < n → n < 18 → (n ≤ 8) ⊎ (n ≡ 18) → P
not_between n low high h = absurd (⊎_elim (λ le. omega arith) (λ e. omega arith) h)

-- ---- the bits that pass
at_most_64 : (width : ℕ) → is_width width ≡ true → width ≤ 64
at_most_64 width h = leb-true width 64 (and_parts (ltb 0 width) (leb width 64) h).1

-- a mask that has no bit below the width leaves nothing
pub none_above : (mode : Mode) (v : Value) (bits k : ℕ) → bits_of mode v ≡ Some bits → bit_and bits (k * 2 ^ mode.width) ≡ 0
none_above mode v bits k e = and_comm bits (k * 2 ^ mode.width) ∙ and_shifted k mode.width bits (rw e at (below mode v))

-- ---- a block under bit groups
-- it gets what a mask left of the bits, and does with it what it does at width 64, whatever the width
pub under_groups : (d : ℕ) (edition width : ℕ) (img t : List ℕ) (a : ℕ) (v : Value) (bits mask : ℕ) → width ≤ 64
    → bits_of (mode_of edition width) v ≡ Some bits
    → applied d (mode_of edition width) img t a (Unsigned (bit_and bits mask)) ≡ applied d (mode_of edition 64) img t a (Unsigned (bit_and bits mask))
under_groups d edition width img t a v bits mask h e =
    let small = lt_of_le_of_lt (and_le_l bits mask) (rw e at (below (mode_of edition width) v)) in
    same_bits (mode_of edition width) (mode_of edition 64) refl img t d a (Unsigned (bit_and bits mask))
    (held (mode_of edition width) (bit_and bits mask) small
    ∙ sym (held (mode_of edition 64) (bit_and bits mask) (lt_of_lt_of_le small (pow_mono {i = width} {j = 64} h))))

-- ---- one call
module _ (img : List ℕ) (a limit : ℕ) (t out : List ℕ) where
  -- two applications that are the same wherever the check accepts give the same call: the check's refusals know no mode and no value
  pub called : (x y : Ap) → ((n : ℕ) → checked img a limit ≡ Ok n → x ≡ y)
      → by_check (checked img a limit) (λ n. settled n a x out) out ≡ by_check (checked img a limit) (λ n. settled n a y out) out
  called x y same = go (checked img a limit) refl
    where
      go : (c : Result ℕ Refusal) → checked img a limit ≡ c → by_check c (λ n. settled n a x out) out ≡ by_check c (λ n. settled n a y out) out
      go (Ok n) e = ap (λ (z : Ap). settled n a z out) (same n e)
      go (Err r) e = refl

  -- two modes of one edition, at a block of type 11: the call is the same wherever the same bits of the two values pass
  same_groups : (one other : Mode) → one.edition ≡ other.edition → (v w : Value) → (block_at img a).kind ≡ 11 → bits_of one v ≡ bits_of other w
      → applying one img a limit v t out ≡ applying other img a limit w t out
  unfolding applying
  same_groups one other e v w eleven h = called _ _ (λ _ _. same_root one other e img t 21 a v w eleven h)

  module _ (edition width : ℕ) where
    -- what the two tests decide
    abbrev tested : Value → Bool → Bool → Call
    tested v named fits =
        cond named (cond fits (applying (mode_of edition width) img a limit v t out) (call (refused_before Width) out)) (call (refused_before WrongEdition) out)

    by_tests : (v : Value) (named fits : Bool) → is_edition edition ≡ named → is_width width ≡ fits → applying_at edition width img a limit v t out ≡ tested v named fits
    unfolding applying_at
    by_tests v named fits h k = ap₂ (λ (x y : Bool). tested v x y) h k

    -- edition 410 or 420 and a width from 1 to 64: the call is one in that mode, so that demand 3 is that of `applying`
    pub mode_taken : (v : Value) → is_edition edition ≡ true → is_width width ≡ true
        → applying_at edition width img a limit v t out ≡ applying (mode_of edition width) img a limit v t out
    mode_taken v h k = by_tests v true true h k

    -- any other edition: refusal 16 and nothing else, whatever the width, the image, the address, the limit and the value are
    pub edition_refused : (v : Value) → is_edition edition ≡ false → applying_at edition width img a limit v t out ≡ call (refused_before WrongEdition) out
    edition_refused v h = by_tests v false (is_width width) h refl

    -- any other width: refusal 11 and nothing else
    pub width_refused : (v : Value) → is_edition edition ≡ true → is_width width ≡ false
        → applying_at edition width img a limit v t out ≡ call (refused_before Width) out
    width_refused v h k = by_tests v true false h k

    -- the mode that is asked for decides
    abbrev pub by_mode : Value → Result Mode Refusal → Call
    by_mode v (Ok mode) = applying mode img a limit v t out
    by_mode v (Err r) = call (refused_before r) out

    pub as_asked : (v : Value) (r : Result Mode Refusal) → r ≡ mode_asked edition width → by_mode v r ≡ applying_at edition width img a limit v t out
    unfolding applying_at
    as_asked v r e = ap (by_mode v) e ∙ go (is_edition edition) (is_width width)
      where
        go : (named fits : Bool) → by_mode v (cond named (cond fits (Ok (mode_of edition width)) (Err Width)) (Err WrongEdition)) ≡ tested v named fits
        go true true = refl
        go true false = refl
        go false fits = refl

    -- where one of the two tests fails
    pub mode_refused : (v : Value) → (is_edition edition && is_width width) ≡ false
        → applying_at edition width img a limit v t out ≡ call (refused_before (cond (is_edition edition) Width WrongEdition)) out
    mode_refused v = go (is_edition edition) (is_width width) refl refl
      where
        go : (named fits : Bool) → is_edition edition ≡ named → is_width width ≡ fits → (named && fits) ≡ false
            → applying_at edition width img a limit v t out ≡ call (refused_before (cond named Width WrongEdition)) out
        go true true h k e = clash cc
        go true false h k e = width_refused v h k
        go false fits h k e = edition_refused v h

    answered : (v : Value) (c : Call) (r : Refusal) → applying_at edition width img a limit v t out ≡ c
        → (applying_at edition width img a limit v t out).result.answer ≡ Refused r → c.result.answer ≡ Refused r
    answered v c r e p = ap (λ (x : Call). x.result.answer) (sym e) ∙ p

    -- refusal 16 is given for no other reason
    pub sixteen_only : (v : Value) → (applying_at edition width img a limit v t out).result.answer ≡ Refused WrongEdition → is_edition edition ≡ false
    sixteen_only v p = go (is_edition edition) (is_width width) refl refl
      where
        go : (named fits : Bool) → is_edition edition ≡ named → is_width width ≡ fits → is_edition edition ≡ false
        go true true h k =
            not_between 16 (omega arith) (omega arith) (mode_refuses (mode_of edition width) img a limit v t out WrongEdition (answered v _ WrongEdition (mode_taken v h k) p))
        go true false h k = let same : Refused Width ≡ Refused WrongEdition = answered v _ WrongEdition (width_refused v h k) p in clash cc
        go false fits h k = h

    -- refusal 11 is given for no other reason, and only where the edition is right
    pub eleven_only : (v : Value) → (applying_at edition width img a limit v t out).result.answer ≡ Refused Width
        → (is_edition edition ≡ true) × (is_width width ≡ false)
    eleven_only v p = go (is_edition edition) (is_width width) refl refl
      where
        go : (named fits : Bool) → is_edition edition ≡ named → is_width width ≡ fits → (is_edition edition ≡ true) × (is_width width ≡ false)
        go true true h k =
            not_between 11 (omega arith) (omega arith) (mode_refuses (mode_of edition width) img a limit v t out Width (answered v _ Width (mode_taken v h k) p))
        go true false h k = (h, k)
        go false fits h k = let same : Refused WrongEdition ≡ Refused Width = answered v _ Width (edition_refused v h) p in clash cc

    -- a refusal leaves the output as it was
    pub kept_at : (v : Value) (r : Refusal) → (applying_at edition width img a limit v t out).result.answer ≡ Refused r
        → (applying_at edition width img a limit v t out).output ≡ out
    unfolding applying_at
    kept_at v r = go (is_edition edition) (is_width width)
      where
        go : (named fits : Bool) → (tested v named fits).result.answer ≡ Refused r → (tested v named fits).output ≡ out
        go true true p = untouched (mode_of edition width) img a limit v t out r p
        go true false p = refl
        go false fits p = refl

    -- at a block of type 11 the value's bits at and above the width do not matter: two integers that agree on the low bits give the same call
    pub low_bits_decide : (v w : Value) → (block_at img a).kind ≡ 11 → bits_of (mode_of edition width) v ≡ bits_of (mode_of edition width) w
        → applying_at edition width img a limit v t out ≡ applying_at edition width img a limit w t out
    unfolding applying_at
    low_bits_decide v w eleven h =
        ap
        (λ (c : Call). cond (is_edition edition) (cond (is_width width) c (call (refused_before Width) out)) (call (refused_before WrongEdition) out))
        (same_groups (mode_of edition width) (mode_of edition width) refl v w eleven h)

  module _ (edition width : ℕ) (named : is_edition edition ≡ true) (fits : is_width width ≡ true) where
    -- and the call is that of the low bits as an unsigned integer at width 64: a 4-bit -1 shows what 15 shows
    pub as_low_bits : (v : Value) (bits : ℕ) → (block_at img a).kind ≡ 11 → bits_of (mode_of edition width) v ≡ Some bits
        → applying_at edition width img a limit v t out ≡ applying_at edition 64 img a limit (Unsigned bits) t out
    as_low_bits v bits eleven h =
        mode_taken edition width v named fits
        ∙ same_groups (mode_of edition width) (mode_of edition 64) refl v (Unsigned bits) eleven
        (h
        ∙ sym
        (held (mode_of edition 64) bits
        (lt_of_lt_of_le (rw h at (below (mode_of edition width) v)) (pow_mono {i = width} {j = 64} (at_most_64 width fits)))))
        ∙ sym (mode_taken edition 64 (Unsigned bits) named refl)

    -- whatever the blocks are: where the width lets all bits of the value pass, and for a float, a text and "other", the call is that of width 64
    pub width_unneeded : (v : Value) → bits_of (mode_of edition width) v ≡ bits_of (mode_of edition 64) v
        → applying_at edition width img a limit v t out ≡ applying_at edition 64 img a limit v t out
    unfolding applying
    width_unneeded v h =
        mode_taken edition width v named fits
        ∙ called _ _ (λ _ _. same_bits (mode_of edition width) (mode_of edition 64) refl img t 21 a v h)
        ∙ sym (mode_taken edition 64 v named refl)

  -- edition 4.20 and width 64 are document 01's rule: the entry then answers what `apply` answers
  pub standard_at : (v : Value) → applying_at 420 64 img a limit v t out ≡ applying standard img a limit v t out
  standard_at v = mode_taken 420 64 v refl refl
