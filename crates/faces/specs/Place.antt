-- How C sees a word that is read by place. Fields that do not apply are 0. Assumes nothing: these are definitions.
use Rattle.std.specs.Prelude.{List, ℕ, Err, None, Ok, Option, Result, Some}
use Rattle.common.specs.Refusal.{number_of, address_of}
use Rattle.common.specs.declared.refusal.Refusal.{Refusal}
use Rattle.blocks.specs.Block.{parsed}
use Rattle.blocks.specs.declared.Block.{Block}
use Rattle.faces.specs.Checked.{address_or}
use Rattle.faces.specs.declared.place.MdfWord.{MdfWord}

-- found 1: the block has that place, and this stands there
abbrev pub word_face : Option ℕ → MdfWord
word_face (Some w) = record { refusal = 0; found = 1; address = 0; word = w }
word_face None = record { refusal = 0; found = 0; address = 0; word = 0 }

-- no block was parsed
abbrev pub unread_face : Refusal → MdfWord
unread_face r = record { refusal = number_of r; found = 0; address = address_or (address_of r); word = 0 }

-- what a way of reading finds in what was parsed
abbrev pub read_face : (Block → Option ℕ) → Result Block Refusal → MdfWord
read_face read (Ok b) = word_face (read b)
read_face read (Err r) = unread_face r

-- the block at an address is parsed, then read at a place: for a reference and for a value alike
abbrev pub place_face : (List ℕ → Block → ℕ → Option ℕ) → List ℕ → ℕ → ℕ → MdfWord
place_face read img address index = read_face (λ (b : Block). read img b index) (parsed img address)
