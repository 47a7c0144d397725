-- What each function of an application ensures (for inner contracts). Assumes nothing: these are definitions.
use Rattle.std.specs.Prelude.{◌≡◌, Bool, false, ◌||◌, List, [], ℕ, ◌+◌, length}
use Rattle.words.specs.Words.{PartIn}
use Rattle.common.specs.Text.{text_bytes}
use Rattle.steps.specs.declared.plain.Plain.{Plain}
use Rattle.steps.specs.declared.plain.Plain.TheVariants as plain
use Rattle.pieces.specs.Write.{sat, sat32, Wrote}
use Rattle.pieces.specs.Answer.{Answer, number, text, unchanged, unknown, formula, broken}
use Rattle.pieces.specs.declared.said.Said.{Said}
use Rattle.pieces.specs.declared.said.Said.TheVariants as said
use Rattle.pieces.specs.declared.said.Outcome.{Outcome}

-- a text t is said by where it runs in the image, or, put together from pos on, by the place behind it, or one behind the room
abbrev pub SaysText : List ℕ → ℕ → ℕ → List ℕ → Said → Type 0
SaysText img room pos t (said.Number x) = ⊥
SaysText img room pos t (said.Words run) = (t ≡ text_bytes img run.from run.to) × PartIn img run.from run.to
SaysText img room pos t (said.Text e) = e ≡ sat room (pos + length t)
SaysText img room pos t said.Unchanged = ⊥
SaysText img room pos t said.Unknown = ⊥
SaysText img room pos t said.Formula = ⊥
SaysText img room pos t said.Broken = ⊥

-- the code's word for an answer
abbrev pub Says : List ℕ → ℕ → ℕ → Answer → Said → Type 0
Says img room pos (number x) s = s ≡ said.Number x
Says img room pos (text t) s = SaysText img room pos t s
Says img room pos unchanged s = s ≡ said.Unchanged
Says img room pos unknown s = s ≡ said.Unknown
Says img room pos formula s = s ≡ said.Formula
Says img room pos broken s = s ≡ said.Broken

-- a run that is said lies in the image
abbrev pub SaidIn : List ℕ → Said → Type 0
SaidIn img (said.Number x) = Unit {0}
SaidIn img (said.Words run) = PartIn img run.from run.to
SaidIn img (said.Text e) = Unit {0}
SaidIn img said.Unchanged = Unit {0}
SaidIn img said.Unknown = Unit {0}
SaidIn img said.Formula = Unit {0}
SaidIn img said.Broken = Unit {0}

-- what is put into the output by then: a text that was put together
abbrev pub laid_text : List ℕ → Said → List ℕ
laid_text t (said.Number x) = []
laid_text t (said.Words run) = []
laid_text t (said.Text e) = t
laid_text t said.Unchanged = []
laid_text t said.Unknown = []
laid_text t said.Formula = []
laid_text t said.Broken = []

abbrev pub laid : Answer → Said → List ℕ
laid (number x) s = []
laid (text t) s = laid_text t s
laid unchanged s = []
laid unknown s = []
laid formula s = []
laid broken s = []

-- o became p, with the answer x told after n begun blocks; odd says whether a malformed table was consulted
pub record Did (img o p : List ℕ) (pos lim : ℕ) (x : Answer) (n : ℕ) (odd : Bool) (r : Outcome) : Type 0 where
  pub says : Says img (length o) pos x r.said
  pub count : r.visits ≡ sat32 n
  pub flag : r.malformed ≡ odd
  pub wrote : Wrote o p pos lim (laid x r.said)

-- no text that runs in the image: what a bit group says of its parts
abbrev pub NoWords : Said → Type 0
NoWords (said.Number x) = Unit {0}
NoWords (said.Words run) = ⊥
NoWords (said.Text e) = Unit {0}
NoWords said.Unchanged = Unit {0}
NoWords said.Unknown = Unit {0}
NoWords said.Formula = Unit {0}
NoWords said.Broken = Unit {0}

-- what is said with no block begun and no table consulted; the same with one block more begun; and with a table consulted too, malformed or not
abbrev pub quiet_of : Said → Outcome
quiet_of s = record { said = s; visits = 0; malformed = false }

abbrev pub counted_of : Outcome → Outcome
counted_of r = record { said = r.said; visits = sat32 (1 + r.visits); malformed = r.malformed }

abbrev pub noted_of : Bool → Outcome → Outcome
noted_of odd r = record { said = r.said; visits = r.visits; malformed = odd || r.malformed }

-- a plain answer as it is said
abbrev pub said_of : Plain → Said
said_of (plain.Number x) = said.Number x
said_of (plain.Words run) = said.Words run
said_of plain.Unchanged = said.Unchanged
said_of plain.Unknown = said.Unknown
said_of plain.Formula = said.Formula
said_of plain.Broken = said.Broken

abbrev pub told_of : Plain → Outcome
told_of p = quiet_of (said_of p)
