-- A text laid into the output from byte 0 on, and the answer given with it (for inner contracts). Assumes nothing: these are definitions.
use Rattle.std.specs.Prelude.{◌≡◌, List, ℕ, length}
use Rattle.common.specs.Text.{text_bytes}
use Rattle.pieces.specs.Answer as says
use Rattle.pieces.specs.Write.{Wrote}
use Rattle.pieces.specs.declared.said.Said.{Said}
use Rattle.pieces.specs.declared.said.Said.TheVariants as said
use Rattle.conversion.specs.Entry.{answer_in, output_after}
use Rattle.conversion.specs.declared.logic.Answer.{Answer}

-- o became p: a text that runs in the image is copied as far as the limit, and all else changes nothing
abbrev pub Laid : List ℕ → ℕ → List ℕ → List ℕ → Said → Type 0
Laid img lim o p (said.Number x) = p ≡ o
Laid img lim o p (said.Words run) = Wrote o p 0 lim (text_bytes img run.from run.to)
Laid img lim o p (said.Text e) = p ≡ o
Laid img lim o p said.Unchanged = p ≡ o
Laid img lim o p said.Unknown = p ≡ o
Laid img lim o p said.Formula = p ≡ o
Laid img lim o p said.Broken = p ≡ o

-- o became p, and the answer r was given, as the application at a says
abbrev pub Answered : ℕ → says.Answer → List ℕ → List ℕ → Answer → Type 0
Answered a x o p r = (r ≡ answer_in (length o) a x) × (p ≡ output_after o x)
