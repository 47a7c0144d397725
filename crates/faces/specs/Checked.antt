-- How C sees the check's answer, and what the type 10 entry shows. Fields that do not apply are 0. Assumes nothing: these are definitions.
use Rattle.std.specs.Prelude.{ℕ, ◌-◌, ◌≤◌, Err, None, Ok, Option, Result, Some}
use Rattle.common.specs.Refusal.{number_of, address_of}
use Rattle.faces.specs.declared.checked.MdfChecked.{MdfChecked}
use Rattle.faces.specs.declared.checked.MdfShown.{MdfShown}
use Rattle.common.specs.declared.refusal.Refusal.{Refusal}
use Rattle.common.specs.declared.text.Span.{Span}

abbrev pub address_or : Option ℕ → ℕ
address_or (Some a) = a
address_or None = 0

-- refusal 0: accepted, visits is N
abbrev pub checked_face : Result ℕ Refusal → MdfChecked
checked_face (Ok n) = record { refusal = 0; visits = n; address = 0 }
checked_face (Err r) = record { refusal = number_of r; visits = 0; address = address_or (address_of r) }

-- a part of the image, or the question, from 0 on with its length
abbrev pub shown_face : Option Span → ℕ → MdfShown
shown_face (Some s) length = record { fromimage = 1; start = s.from; length = s.to - s.from }
shown_face None length = record { fromimage = 0; start = 0; length = length }

-- a part ends where it starts or later
abbrev pub Ordered : Option Span → Type 0
Ordered (Some s) = s.from ≤ s.to
Ordered None = Unit {0}
