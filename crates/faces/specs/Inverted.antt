-- How C sees what making the inverse of a block answers. Fields that do not apply are 0. Assumes nothing: these are definitions.
use Rattle.std.specs.Prelude.{Option, Some, None, List, ℕ, Err, Ok, Result}
use Rattle.common.specs.Refusal.{number_of, address_of, index_of}
use Rattle.common.specs.Written.{WriteCall}
use Rattle.faces.specs.Checked.{address_or}
use Rattle.faces.specs.declared.inverted.MdfInverted.{MdfInverted}
use Rattle.common.specs.declared.refusal.Refusal.{Refusal}

-- the index of a key, or 0 where there is none
abbrev pub index_or : Option ℕ → ℕ
index_or (Some i) = i
index_or None = 0

-- refusal 0: a block of so many bytes was made; the index is a key's for 12, 13 and 14 alone
abbrev pub inverted_face : Result ℕ Refusal → MdfInverted
inverted_face (Ok n) = record { refusal = 0; index = 0; address = 0; length = n }
inverted_face (Err r) = record { refusal = number_of r; index = index_or (index_of r); address = address_or (address_of r); length = 0 }

-- the answer, and what the lent output holds
pub record FaceInverted : Type 0 where
  pub result : MdfInverted
  pub output : List ℕ

abbrev pub face_inverted : MdfInverted → List ℕ → FaceInverted
face_inverted r out = record { result = r; output = out }

abbrev pub inverting_face : WriteCall → FaceInverted
inverting_face o = face_inverted (inverted_face o.result) o.output
