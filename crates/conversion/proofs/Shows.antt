-- The second entry of type 10 shows what applying answers for a text value. Assumes nothing.
use Rattle.std.specs.Prelude.{Ok, Result, Some}
use mathlib.Core.Path.{◌≡◌, refl, sym, ap, ◌∙◌}
use mathlib.Core.Logic.{◌⊎◌, inl, inr}
use mathlib.Core.List.{List}
use Prim.Native.Nat.{ℕ, suc}
use Rattle.common.specs.Types.{type_of}
use Rattle.blocks.specs.Block.{opened, block_at}
use Rattle.blocks.specs.View.{view_of, seen_of, seen}
use Rattle.common.proofs.Texts.{text_shown}
use Rattle.leads.specs.Keys.{translated}
use Rattle.leads.specs.declared.lead.Lead.{Lead}
use Rattle.leads.specs.declared.lead.Lead.TheVariants.{Words, Nested, Nil, Elsewhere}
use Rattle.rules.specs.declared.number.Value.TheVariants.{Text}
use Rattle.steps.specs.Plain.{or_unchanged}
use Rattle.steps.specs.Step.{typed, unless_cut, step_of}
use Rattle.steps.specs.declared.mode.Mode.{Mode}
use Rattle.tree.specs.Tree.{Sound}
use Rattle.tree.specs.Walk.{checked}
use Rattle.tree.proofs.Acceptance.{acceptance}
use Rattle.pieces.specs.Answer.{Answer, text, unchanged, spelled}
use Rattle.engine.specs.Apply.{ruled, applied}
use Rattle.conversion.specs.Shown.{of_lead, of_block, of_check, shown_for, showing}
use Rattle.conversion.proofs.Showing.{shown_ten}
use Rattle.blocks.specs.declared.Block.{Block}
use Rattle.common.specs.declared.refusal.Refusal.{Refusal}

abbrev Agree : List ℕ → Answer → List ℕ → Type 0
Agree question x shown =
    ((s : List ℕ) → x ≡ text s → shown ≡ s) × (x ≡ unchanged → shown ≡ question) × ((x ≡ text shown) ⊎ (x ≡ unchanged))

agree : (img question : List ℕ) (l : Lead) → Agree question (spelled img (or_unchanged l)) (showing img question (of_lead img l))
agree img question (Words run) = ((λ s e. text_shown img run.from run.to ∙ cc), (λ e. cc), inl (ap text (sym (text_shown img run.from run.to))))
agree img question (Nested a) = ((λ s e. cc), (λ e. refl), inr refl)
agree img question Nil = ((λ s e. cc), (λ e. refl), inr refl)
agree img question Elsewhere = ((λ s e. cc), (λ e. refl), inr refl)

answers : (d : ℕ) (mode : Mode) (img question : List ℕ) (a : ℕ) → opened img a ≡ Ok (block_at img a) → (block_at img a).kind ≡ 10
    → (applied (suc d) mode img question a Text).says ≡ spelled img (or_unchanged (translated img (view_of (block_at img a)) question))
unfolding applied step_of seen type_of
answers d mode img question a whole ten =
    ap (λ (p : Result Block Refusal). (ruled (applied d mode img question) img Text (unless_cut mode img question Text (seen_of p))).says) whole
    ∙ ap (λ (k : ℕ). (ruled (applied d mode img question) img Text (typed mode img question (view_of (block_at img a)) Text (type_of k))).says) ten

-- after an accepted check of a root of type 10: where applying answers a text, that text is shown, where it answers Unchanged, the question; and its
-- answer is one of the two
pub shows : (mode : Mode) (img question : List ℕ) (a l n : ℕ) → checked img a l ≡ Ok n → (block_at img a).kind ≡ 10
    → ((s : List ℕ) → (applied 21 mode img question a Text).says ≡ text s → showing img question (shown_for img a l question) ≡ s)
    × ((applied 21 mode img question a Text).says ≡ unchanged → showing img question (shown_for img a l question) ≡ question)
    × (((applied 21 mode img question a Text).says ≡ text (showing img question (shown_for img a l question)))
    ⊎ ((applied 21 mode img question a Text).says ≡ unchanged))
unfolding Sound shown_for seen
shows mode img question a l n e ten =
    let k = acceptance img a l n e in
    let whole = k.sound.1 in
    let root : seen img a ≡ Some (view_of (block_at img a)) = ap seen_of whole in
    let said = answers 20 mode img question a whole ten in
    let shown : shown_for img a l question ≡ of_lead img (translated img (view_of (block_at img a)) question) =
    ap (λ (c : Result ℕ Refusal). of_check c (of_block img question (seen img a))) e ∙ sym (shown_ten img question a (view_of (block_at img a)) root _ ten refl).0 in
    rw (shown, said) (agree img question (translated img (view_of (block_at img a)) question))
