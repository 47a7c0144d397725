-- Laws of the edition: in 4.10 a block of type 11 is unknown, and M is at most 21; the check knows no edition and no width; where the mode plays no
-- part. Assumes nothing.
use Rattle.std.specs.Prelude.{Err, None, Ok, Option, Result, Some}
use mathlib.Core.Path.{◌≡◌, refl, sym, ap, subst, ◌∙◌}
use mathlib.Core.Bool.{Bool, true, false}
use mathlib.Core.Logic.{⊎_elim}
use mathlib.Core.List.{List, [], ◌∷◌}
use Prim.Native.Nat.{ℕ, suc, ◌≤◌}
use native.Mathlib.Omega.{arith}
use Rattle.common.specs.Refusal.{number_of}
use Rattle.common.specs.Types.{type_of}
use Rattle.common.specs.declared.refusal.Refusal.{Refusal}
use Rattle.common.specs.declared.types.ConversionType.TheVariants as kind
use Rattle.blocks.specs.Block.{block_at, opened}
use Rattle.blocks.specs.View.{view_of, seen_of, seen}
use Rattle.blocks.specs.declared.view.View.{View}
use Rattle.rules.specs.Numbers.{taken}
use Rattle.rules.specs.Values.{values}
use Rattle.rules.specs.declared.number.Value.{Value}
use Rattle.steps.specs.Mode.{standard, bits_of}
use Rattle.steps.specs.Plain.{by_taken}
use Rattle.steps.specs.Step.{grouped_in, typed, unless_cut, step_of}
use Rattle.steps.specs.declared.mode.Mode.{Mode}
use Rattle.steps.specs.declared.mode.Edition.{Edition}
use Rattle.steps.specs.declared.mode.Edition.TheVariants.{Mdf410}
use Rattle.steps.specs.declared.plain.Plain.TheVariants as plain
use Rattle.steps.specs.declared.step.Step.{Step}
use Rattle.steps.specs.declared.step.Step.TheVariants.{Done}
use Rattle.tree.specs.Tree.{Sound}
use Rattle.tree.specs.Walk.{checked}
use Rattle.tree.proofs.Acceptance.{acceptance}
use Rattle.pieces.specs.Answer as says
use Rattle.engine.specs.Apply.{Ap, begin, ruled, applied}
use Rattle.conversion.specs.Entry.{Call, call, answer_in, output_after, settled, refused_before, by_check, applying}
use Rattle.conversion.specs.Reach.{NoGroups}
use Rattle.conversion.specs.declared.logic.Answer.TheVariants.{Unchanged, Refused}
use Rattle.conversion.proofs.Demand.{after_check, few_visits_410}
use Rattle.conversion.proofs.DemandThree.{demand_3}
use Rattle.modes.specs.Asked.{is_edition, is_width, mode_of, applying_at}
use Rattle.modes.proofs.Alike.{same_in_410, same_without}
use Rattle.modes.proofs.Laws.{called, mode_taken, width_refused}
use Rattle.blocks.specs.declared.Block.{Block}
use Rattle.rules.specs.declared.number.Taken.{Taken}

-- ---- 4.10: "type 11 is unknown: it leaves its value Unchanged, counts one in M, and passes nothing to its references"
module _ (mode : Mode) (older : mode.edition ≡ Mdf410) (img t : List ℕ) where
  -- a block of type 11 does what one of an unknown type does, whatever the value
  pub as_unknown : (b : View) (v : Value) (n : ℕ) → typed mode img t b v kind.BitGroups ≡ typed mode img t b v (kind.Unknown n)
  as_unknown b v n = ap (λ (e : Edition). grouped_in e b (bits_of mode v)) older ∙ sym (unknown (taken v))
    where
      unknown : (x : Option Taken) → Done (by_taken (kind.Unknown n) (values img b.firstval b.valcount) x) ≡ Done plain.Unchanged
      unknown (Some x) = refl
      unknown None = refl

  -- applied anywhere in a tree it leaves its value unchanged, begins itself and no other block, and consults no table
  pub alone_in_410 : (d a : ℕ) (v : Value) → opened img a ≡ Ok (block_at img a) → (block_at img a).kind ≡ 11
      → applied (suc d) mode img t a v ≡ record { says = says.unchanged; begun = a ∷ []; malformed = false }
  unfolding applied step_of seen type_of
  alone_in_410 d a v whole eleven =
      let b = view_of (block_at img a) in
      let step : step_of mode img t a v ≡ Done plain.Unchanged =
      ap (λ (p : Result Block Refusal). unless_cut mode img t v (seen_of p)) whole
      ∙ ap (λ (k : ℕ). typed mode img t b v (type_of k)) eleven
      ∙ ap (λ (e : Edition). grouped_in e b (bits_of mode v)) older in
      ap (λ (s : Step). begin a (ruled (applied d mode img t) img v s)) step

  -- a call whose root has type 11 answers Unchanged with M 1, and N as the check counts it; the output stays
  pub eleven_in_410 : (a limit n : ℕ) (v : Value) (out : List ℕ) → checked img a limit ≡ Ok n → (block_at img a).kind ≡ 11
      → applying mode img a limit v t out ≡ call (record { answer = Unchanged; checked = n; applied = 1; malformed = false }) out
  unfolding settled answer_in output_after Sound
  eleven_in_410 a limit n v out e eleven =
      after_check mode img a limit n v t out e
      ∙ ap (λ (x : Ap). settled n a x out) (alone_in_410 20 a v (acceptance img a limit n e).sound.1 eleven)

-- ---- one call
module _ (img : List ℕ) (a limit : ℕ) (v : Value) (t out : List ℕ) where
  -- a call is as the check without a mode says: where that accepts with n, N is n and a refusal is 7 or 8; where it refuses, the call is that refusal
  abbrev pub AsChecked : Result ℕ Refusal → Call → Type 0
  AsChecked (Ok n) c = (c.result.checked ≡ n) × ((r : Refusal) → c.result.answer ≡ Refused r → (7 ≤ number_of r) × (number_of r ≤ 8))
  AsChecked (Err r) c = c ≡ call (refused_before r) out

  -- "The check is alike in both": N and the check's refusals are those of the plain check in every mode
  pub as_checked : (mode : Mode) → AsChecked (checked img a limit) (applying mode img a limit v t out)
  unfolding applying
  as_checked mode = go (checked img a limit) refl
    where
      go : (c : Result ℕ Refusal) → checked img a limit ≡ c → AsChecked c (applying mode img a limit v t out)
      go (Ok n) e =
          let it = (demand_3 mode img a limit v t out).accepted n e in
          (it.its_count, λ r p. ⊎_elim (λ seven. (omega (arith, seven), omega (arith, seven))) (λ eight. (omega (arith, eight), omega (arith, eight))) (it.refusals r p))
      go (Err r) e = ap (λ (c : Result ℕ Refusal). by_check c (λ n. settled n a (applied 21 mode img t a v) out) out) e

  -- the same of the entry that takes numbers
  pub as_checked_at : (edition width : ℕ) → is_edition edition ≡ true → is_width width ≡ true
      → AsChecked (checked img a limit) (applying_at edition width img a limit v t out)
  as_checked_at edition width h k =
      subst (AsChecked (checked img a limit)) (sym (mode_taken img a limit t out edition width v h k)) (as_checked (mode_of edition width))

  -- a root of type 11 in 4.10, whatever the value and the width
  pub unchanged_in_410 : (width n : ℕ) → is_width width ≡ true → checked img a limit ≡ Ok n → (block_at img a).kind ≡ 11
      → applying_at 410 width img a limit v t out ≡ call (record { answer = Unchanged; checked = n; applied = 1; malformed = false }) out
  unchanged_in_410 width n k e eleven =
      mode_taken img a limit t out 410 width v refl k ∙ eleven_in_410 (mode_of 410 width) refl img t a limit n v out e eleven

  -- in 4.10 M <= 21 for every image, address, limit, value and width
  pub few_in_410 : (width : ℕ) → (applying_at 410 width img a limit v t out).result.applied ≤ 21
  few_in_410 width = go (is_width width) refl
    where
      go : (fits : Bool) → is_width width ≡ fits → (applying_at 410 width img a limit v t out).result.applied ≤ 21
      go true k =
          omega (
            arith,
            few_visits_410 (mode_of 410 width) img a limit v t out refl,
            ap (λ (c : Call). c.result.applied) (mode_taken img a limit t out 410 width v refl k),
          )
      go false k = omega (arith, ap (λ (c : Call). c.result.applied) (width_refused img a limit t out 410 width v refl k))

  -- ---- where the mode plays no part
  -- in 4.10 the width changes nothing
  pub no_width_in_410 : (width : ℕ) → is_width width ≡ true → applying_at 410 width img a limit v t out ≡ applying_at 410 64 img a limit v t out
  unfolding applying
  no_width_in_410 width k =
      mode_taken img a limit t out 410 width v refl k
      ∙ called img a limit t out _ _ (λ _ _. same_in_410 (mode_of 410 width) (mode_of 410 64) refl refl img t 21 a v)
      ∙ sym (mode_taken img a limit t out 410 64 v refl refl)

  -- where none of the blocks begun has type 11, every mode is document 01's: edition and width change nothing
  pub mode_unneeded : (edition width : ℕ) → is_edition edition ≡ true → is_width width ≡ true
      → NoGroups img (applied 21 (mode_of edition width) img t a v).begun → applying_at edition width img a limit v t out ≡ applying standard img a limit v t out
  unfolding applying
  mode_unneeded edition width h k none =
      mode_taken img a limit t out edition width v h k
      ∙ called img a limit t out _ _
      (λ n e. same_without (mode_of edition width) standard img t 21 a v (acceptance img a limit n e).sound none)
