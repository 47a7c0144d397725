-- How C sees a text block that was read, and which id C gives. Fields that do not apply are 0. Assumes nothing: these are definitions.
use Rattle.std.specs.Prelude.{Bool, true, false, ℕ, ◌-◌, ◌≤◌, Err, Ok, Result}
use Rattle.common.specs.Refusal.{number_of, address_of}
use Rattle.texts.specs.declared.read.TextId.{TextId}
use Rattle.texts.specs.declared.read.TextId.TheVariants.{Tx, Md}
use Rattle.faces.specs.Checked.{address_or}
use Rattle.faces.specs.declared.text.MdfText.{MdfText}
use Rattle.common.specs.declared.refusal.Refusal.{Refusal}
use Rattle.texts.specs.declared.read.TextRead.{TextRead}

-- MDF_TX and MDF_MD
abbrev pub id_number : TextId → ℕ
id_number Tx = 0
id_number Md = 1

-- the id to write: ##MD for metadata, else ##TX
abbrev pub id_of : Bool → TextId
id_of true = Md
id_of false = Tx

-- refusal 0: the text stands in the image from `start` on
abbrev pub text_face : Result TextRead Refusal → MdfText
text_face (Ok t) = record { refusal = 0; id = id_number t.id; address = 0; start = t.text.from; length = t.text.to - t.text.from }
text_face (Err r) = record { refusal = number_of r; id = 0; address = address_or (address_of r); start = 0; length = 0 }

-- a text ends where it starts or later
abbrev pub InOrder : Result TextRead Refusal → Type 0
InOrder (Ok t) = t.text.from ≤ t.text.to
InOrder (Err r) = Unit {0}
