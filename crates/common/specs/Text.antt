-- The text of a text block (document 01, "A text block (S)"). Assumes nothing: these are definitions.
use Rattle.std.specs.Prelude.{ℕ, ◌+◌, Option, Some, None, Bool, not, ◌&&◌, cond, List, [], ◌∷◌, leb, eqb, length}
use Rattle.words.specs.Words.{word64, part, PartIn}
use Rattle.common.specs.Header.{inside, text_id, has_id}
use Rattle.common.specs.declared.text.Span.{Span}

-- the bytes before the first zero byte
unfoldable pub until_zero : List ℕ → List ℕ
until_zero [] = []
until_zero (b ∷ bs) = cond (eqb b 0) [] (b ∷ until_zero bs)

-- the block at a, whose header lies in the image, has this id; its length is not under 24 and does not pass the image end
unfoldable pub is_whole_text : ℕ → List ℕ → ℕ → Bool
is_whole_text id img a = has_id id img a && leb 24 (word64 img (a + 8)) && leb (a + word64 img (a + 8)) (length img)

-- where its text may run: from byte 24 to the block length
unfoldable pub run_at : ℕ → List ℕ → ℕ → Option Span
run_at id img a = cond (is_whole_text id img a) (Some (record { from = a + 24; to = a + word64 img (a + 8) })) None

-- where the text that a link leads to may run: zero is NIL and leads to no block, and the block of a text is a ##TX
unfoldable pub run_of : List ℕ → ℕ → Option Span
run_of img link = cond (not (eqb link 0) && inside img link) (run_at text_id img link) None

-- the text of a run: to the first zero byte, or to the run's end
unfoldable pub text_bytes : List ℕ → ℕ → ℕ → List ℕ
text_bytes img from to = until_zero (part img from to)

-- a run, cut off where its text ends
abbrev pub cut_off : List ℕ → Option Span → Option Span
cut_off img (Some run) = Some (record { from = run.from; to = run.from + length (text_bytes img run.from run.to) })
cut_off img None = None

-- the text that a link leads to
unfoldable pub text_of : List ℕ → ℕ → Option Span
text_of img link = cut_off img (run_of img link)

-- the bytes of the image that an answer shows
abbrev pub shown : List ℕ → Option Span → List ℕ
shown img (Some s) = part img s.from s.to
shown img None = []

-- an answer's part lies in the image
abbrev pub TextIn : List ℕ → Option Span → Type 0
TextIn img (Some s) = PartIn img s.from s.to
TextIn img None = Unit {0}
