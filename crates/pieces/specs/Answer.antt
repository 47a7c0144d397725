-- What an application answers (document 01, "What a call can say": "Number, Text with its length, Unchanged, Unknown"), and the two things that
-- stop it. Assumes nothing: these are definitions.
use Rattle.std.specs.Prelude.{ℕ, List, ◌++◌, Float}
use Rattle.common.specs.Text.{text_bytes}
use Rattle.steps.specs.declared.plain.Plain.{Plain}
use Rattle.steps.specs.declared.plain.Plain.TheVariants as plain

-- a text is its bytes; a formula was met; or a block could not be opened
pub data Answer : Type 0 where
  number : Float → Answer
  text : List ℕ → Answer
  unchanged : Answer
  unknown : Answer
  formula : Answer
  broken : Answer

-- a text that runs in the image is its bytes
abbrev pub spelled : List ℕ → Plain → Answer
spelled img (plain.Number x) = number x
spelled img (plain.Words run) = text (text_bytes img run.from run.to)
spelled img plain.Unchanged = unchanged
spelled img plain.Unknown = unknown
spelled img plain.Formula = formula
spelled img plain.Broken = broken

-- a text with other bytes before it
abbrev pub prefixed : List ℕ → Answer → Answer
prefixed pre (number x) = number x
prefixed pre (text t) = text (pre ++ t)
prefixed pre unchanged = unchanged
prefixed pre unknown = unknown
prefixed pre formula = formula
prefixed pre broken = broken
