-- How C sees an application. Fields that do not apply are 0. Assumes nothing: these are definitions.
use Rattle.std.specs.Prelude.{ℕ, List, Float}
use Rattle.std.specs.Float.{binary64}
use Rattle.std.specs.Float.Ieee.{of_bits}
use Rattle.common.specs.Refusal.{number_of, address_of}
use Rattle.conversion.specs.Entry.{Call}
use Rattle.conversion.specs.declared.logic.Answer.{Answer}
use Rattle.conversion.specs.declared.logic.Answer.TheVariants.{Number, Text, Unchanged, Unknown, Refused}
use Rattle.conversion.specs.declared.logic.Applied.{Applied}
use Rattle.faces.specs.Checked.{address_or}
use Rattle.faces.specs.Block.{flag_of}
use Rattle.faces.specs.declared.applied.MdfApplied.{MdfApplied}

-- refusal, kind, number, length and address, which the answer decides; then the call's N, M and whether a malformed table was consulted
abbrev pub made_of : ℕ → ℕ → Float → ℕ → ℕ → Applied → MdfApplied
made_of refusal kind number length address a =
    record {
      refusal = refusal;
      kind = kind;
      number = number;
      length = length;
      address = address;
      checked = a.checked;
      applied = a.applied;
      malformed = flag_of a.malformed;
    }

-- kind 0 refused, 1 number, 2 text, 3 unchanged, 4 unknown
abbrev pub answer_face : Answer → Applied → MdfApplied
answer_face (Number x) a = made_of 0 1 x 0 0 a
answer_face (Text k) a = made_of 0 2 (of_bits binary64 0) k 0 a
answer_face Unchanged a = made_of 0 3 (of_bits binary64 0) 0 0 a
answer_face Unknown a = made_of 0 4 (of_bits binary64 0) 0 0 a
answer_face (Refused r) a = made_of (number_of r) 0 (of_bits binary64 0) 0 (address_or (address_of r)) a

abbrev pub applied_face : Applied → MdfApplied
applied_face a = answer_face a.answer a

-- the answer, and what the lent output holds
pub record FaceCall : Type 0 where
  pub result : MdfApplied
  pub output : List ℕ

abbrev pub face : MdfApplied → List ℕ → FaceCall
face r out = record { result = r; output = out }

abbrev pub call_face : Call → FaceCall
call_face c = face (applied_face c.result) c.output
