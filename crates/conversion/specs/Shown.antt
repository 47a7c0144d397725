-- What the second entry of type 10 shows (document 01: "it shows a part of the image, or the whole question. The question is shown unless the
-- check accepts, the root has type 10 and a text is chosen."). Assumes nothing: these are definitions.
use Rattle.std.specs.Prelude.{ℕ, ◌+◌, cond, List, eqb, length, Err, None, Ok, Option, Result, Some}
use Rattle.words.specs.Words.{part, PartIn}
use Rattle.common.specs.Text.{text_bytes}
use Rattle.blocks.specs.View.{seen}
use Rattle.leads.specs.Keys.{translated}
use Rattle.leads.specs.declared.lead.Lead.{Lead}
use Rattle.leads.specs.declared.lead.Lead.TheVariants.{Words, Nested, Nil, Elsewhere}
use Rattle.tree.specs.Walk.{checked}
use Rattle.blocks.specs.declared.view.View.{View}
use Rattle.common.specs.declared.refusal.Refusal.{Refusal}
use Rattle.common.specs.declared.text.Span.{Span}

-- a text is chosen: it is shown to its end
abbrev pub of_lead : List ℕ → Lead → Option Span
of_lead img (Words run) = Some (record { from = run.from; to = run.from + length (text_bytes img run.from run.to) })
of_lead img (Nested a) = None
of_lead img Nil = None
of_lead img Elsewhere = None

-- the root has type 10
abbrev pub of_block : List ℕ → List ℕ → Option View → Option Span
of_block img question (Some b) = cond (eqb b.kind 10) (of_lead img (translated img b question)) None
of_block img question None = None

-- the check accepts
abbrev pub of_check : Result ℕ Refusal → Option Span → Option Span
of_check (Ok n) s = s
of_check (Err r) s = None

unfoldable pub shown_for : List ℕ → ℕ → ℕ → List ℕ → Option Span
shown_for img a limit question = of_check (checked img a limit) (of_block img question (seen img a))

-- the bytes that are shown
abbrev pub showing : List ℕ → List ℕ → Option Span → List ℕ
showing img question (Some s) = part img s.from s.to
showing img question None = question

-- a part lies in the image
abbrev pub ShownIn : List ℕ → Option Span → Type 0
ShownIn img (Some s) = PartIn img s.from s.to
ShownIn img None = Unit {0}
