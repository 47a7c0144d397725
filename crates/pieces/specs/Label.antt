-- What stands before a part of a bit group's text (document 01, bit groups: "with name and " = " before it if its name link gives a text. Parts
-- are joined by "|""). Assumes nothing: these are definitions.
use Rattle.std.specs.Prelude.{ℕ, ◌+◌, Bool, true, false, cond, List, [], ◌∷◌, ◌++◌, leb, length, None, Option, Some}
use Rattle.words.specs.Words.{word64}
use Rattle.common.specs.Text.{run_of, text_bytes}
use Rattle.common.specs.declared.text.Span.{Span}

-- "|" before every part but the first
unfoldable pub bar : Bool → List ℕ
bar true = 124 ∷ []
bar false = []

-- " = "
abbrev pub equals : List ℕ
equals = 32 ∷ 61 ∷ 32 ∷ []

-- where the text of the name link may run; it is the first of the four fixed links, where the image goes so far
unfoldable pub name_at : List ℕ → ℕ → Option Span
name_at img a = cond (leb (a + 32) (length img)) (run_of img (word64 img (a + 24))) None

abbrev pub name_by : List ℕ → Option Span → List ℕ
name_by img (Some run) = text_bytes img run.from run.to ++ equals
name_by img None = []

-- the name of the block at a and " = ", if its name link gives a text
unfoldable pub label : List ℕ → ℕ → List ℕ
label img a = name_by img (name_at img a)
