-- The functions of `engine` that call each other meet their contracts. Assumes nothing.
use mathlib.Core.Path.{◌≡◌, refl, sym, subst}
use mathlib.Core.Bool.{◌||◌}
use mathlib.Core.Logic.{inl, inr}
use Prim.Native.Nat.{◌+◌}
use native.Mathlib.Omega.{arith}
use Rattle.common.specs.declared.text.Span.{Span}
use Rattle.leads.specs.Lead.{LeadIn}
use Rattle.leads.proofs.Leads.{lead_at_inside}
use Rattle.steps.specs.Step.{StepIn}
use Rattle.pieces.specs.Answer.{broken}
use Rattle.pieces.specs.Did.{NoWords}
use Rattle.pieces.specs.Label.{bar}
use Rattle.pieces.specs.declared.said.Said.{Said}
use Rattle.pieces.specs.declared.said.Said.TheVariants as said
use Rattle.pieces.proofs.Answers.{told_as, quiet_did, counted_did, pasted_did}
use Rattle.pieces.proofs.Laws.{placed}
use Rattle.engine.specs.Apply.{applied, groups}
use Rattle.engine.proofs.Groups.{Grown, passed, start, turn, stop, finish}
use Rattle.engine.proofs.Levels.{level, labelled_did}
use Rattle.engine.proofs.+apply_bit_groups_part_pass_on_range_to_text_value_to_text.Goals as goal
use Rattle.engine.proofs.+apply_bit_groups_part_pass_on_range_to_text_value_to_text.Goals.{bit_groups-in-Text, bit_groups-in-Number}

-- ---- apply
pub apply-returns-then-left-eq0 : goal.apply-returns-then-left-eq0
unfolding applied
apply-returns-then-left-eq0 t c = rw c.if-left-eq0.true (counted_did (quiet_did broken _ _ _ c.quiet.ensures refl refl) c.counted.ensures)

pub apply-returns-in-ByKey : goal.apply-returns-in-ByKey
apply-returns-in-ByKey t c = rw (level _ _ _ _ _ _ c.if-left-eq0.false, ← c.step_at.ensures.0, c.in-ByKey.is)
    (counted_did c.value_to_text.ensures c.counted-in-ByKey.ensures)

pub apply-returns-in-ByRange : goal.apply-returns-in-ByRange
apply-returns-in-ByRange t c = rw (level _ _ _ _ _ _ c.if-left-eq0.false, ← c.step_at.ensures.0, c.in-ByRange.is)
    (counted_did c.range_to_text.ensures c.counted-in-ByRange.ensures)

pub apply-returns-in-ByBits : goal.apply-returns-in-ByBits
apply-returns-in-ByBits t c = rw (level _ _ _ _ _ _ c.if-left-eq0.false, ← c.step_at.ensures.0, c.in-ByBits.is)
    (counted_did c.bit_groups.ensures c.counted-in-ByBits.ensures)

pub apply-returns-in-Done : goal.apply-returns-in-Done
apply-returns-in-Done t c =
    let img = c.args.asked.now.image.now in
    let lies = subst (StepIn img) c.in-Done.is c.step_at.ensures.1 in
    rw (level _ _ _ _ _ _ c.if-left-eq0.false, ← c.step_at.ensures.0, c.in-Done.is)
    (counted_did (told_as img c.args.out.now c.args.place.pos c.args.place.lim c.in-Done.p lies c.told.ensures) c.counted-in-Done.ensures)

-- ---- bit_groups
pub bit_groups-loop-i-init : goal.bit_groups-loop-i-init
bit_groups-loop-i-init t c = start _ _ _ _ _ _ c.requires.1

pub bit_groups-part-x-requires : goal.bit_groups-part-x-requires
bit_groups-part-x-requires t c =
    let img = c.args.asked.now.image.now in
    let inner = subst (LeadIn img) (sym c.lead_at-lead.ensures) (lead_at_inside img c.args.b c.loop-i.i) in
    (omega arith, (placed c.requires c.loop-i.invariant.put, inner))

pub bit_groups-returns-in-Formula : goal.bit_groups-returns-in-Formula
bit_groups-returns-in-Formula t c =
    let a = c.args.asked.now in
    stop _ _ _ _ c.loop-i.i c.group_count-i-end.result c.loop-i.next c.loop-i.started c.loop-i-test.true c.group_count-i-end.ensures (inl refl)
    (turn (applied c.args.left a.mode a.image.now a.text.now) a.image.now c.args.b c.args.bits c.loop-i.i c.saturating_add-visits.result c.mask_at.result c.lead_at-lead.result said.Formula c.loop-i.malformed
    c.requires.0 c.loop-i.invariant c.lead_at-lead.ensures c.mask_at.ensures c.part-x.ensures.0 c.part-x.ensures.1 c.saturating_add-visits.ensures c.in-Formula.is)
    refl refl

pub bit_groups-returns-in-Broken : goal.bit_groups-returns-in-Broken
bit_groups-returns-in-Broken t c =
    let a = c.args.asked.now in
    stop _ _ _ _ c.loop-i.i c.group_count-i-end.result c.loop-i.next c.loop-i.started c.loop-i-test.true c.group_count-i-end.ensures (inr refl)
    (turn (applied c.args.left a.mode a.image.now a.text.now) a.image.now c.args.b c.args.bits c.loop-i.i c.saturating_add-visits.result c.mask_at.result c.lead_at-lead.result said.Broken c.loop-i.malformed
    c.requires.0 c.loop-i.invariant c.lead_at-lead.ensures c.mask_at.ensures c.part-x.ensures.0 c.part-x.ensures.1 c.saturating_add-visits.ensures c.in-Broken.is)
    refl refl

pub bit_groups-loop-i-preserved : goal.bit_groups-loop-i-preserved
bit_groups-loop-i-preserved t c =
    let a = c.args.asked.now in
    let nested = applied c.args.left a.mode a.image.now a.text.now in
    -- what one turn gives, by the part's word
    let turned : (x : Said) → c.part-x.result.said ≡ x
    → Grown x (groups nested a.image.now c.args.b c.args.bits (c.loop-i.i + 1)) c.args.out.now c.part-x.new.out c.args.place c.loop-i.next c.loop-i.started c.saturating_add-visits.result (c.loop-i.malformed || c.part-x.result.malformed) =
    λ x told.
    turn nested a.image.now c.args.b c.args.bits c.loop-i.i c.saturating_add-visits.result c.mask_at.result c.lead_at-lead.result x c.loop-i.malformed
    c.requires.0 c.loop-i.invariant c.lead_at-lead.ensures c.mask_at.ensures c.part-x.ensures.0 c.part-x.ensures.1 c.saturating_add-visits.ensures told in
    elim c.match-x.branch [
      | bit_groups-in-Text w ↦ rw (w.next-is, w.started-is) (turned (said.Text _) w.in-Text.is)
      | bit_groups-in-Number w ↦ rw (w.next-is, w.started-is) (passed c.part-x.result.said c.part-x.ensures.1 w.in-Number.is (turned c.part-x.result.said refl))
    ]

pub bit_groups-returns : goal.bit_groups-returns
bit_groups-returns t c = finish _ _ _ _ c.loop-i.i c.group_count-i-end.result (omega arith) c.group_count-i-end.ensures c.loop-i.invariant

-- ---- part
-- any word but a part of the image
not_words : (s : Said) → ((run : Span) → s ≡ said.Words run → ⊥) → NoWords s
not_words (said.Number x) h = tt
not_words (said.Words run) h = h run refl
not_words (said.Text e) h = tt
not_words said.Unchanged h = tt
not_words said.Unknown h = tt
not_words said.Formula h = tt
not_words said.Broken h = tt

pub part-returns-in-Words-said : goal.part-returns-in-Words-said
part-returns-in-Words-said t c =
    let put = c.paste_label-start.ensures in
    rw c.in-Nested.is (
      labelled_did (bar c.args.started) _ _ c.requires.0.0 tt put
          (pasted_did _ _ (placed c.requires.0 put) c.apply-x.ensures c.in-Words-said.is c.paste-end-in-Words-said.ensures refl refl refl),
      tt,
    )

pub part-returns-in_default : goal.part-returns-in_default
part-returns-in_default t c =
    let plain = not_words c.apply-x.result.said c.in_default.not-Words in
    rw c.in-Nested.is (labelled_did (bar c.args.started) _ _ c.requires.0.0 plain c.paste_label-start.ensures c.apply-x.ensures, plain)
