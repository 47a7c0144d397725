-- What one call of applying answers, and what the lent output holds then (document 01, "Applying", "What a call can say"). Assumes nothing: these
-- are definitions.
use Rattle.std.specs.Prelude.{ℕ, false, cond, List, ◌++◌, leb, length, drop, Err, None, Ok, Option, Result}
use Rattle.common.specs.Refusal.{number_of, address_of}
use Rattle.common.specs.declared.refusal.Refusal.{Refusal}
use Rattle.common.specs.declared.refusal.Refusal.TheVariants as refusal
use Rattle.rules.specs.declared.number.Value.{Value}
use Rattle.steps.specs.declared.mode.Mode.{Mode}
use Rattle.tree.specs.Walk.{checked}
use Rattle.pieces.specs.Answer as says
use Rattle.engine.specs.Apply.{Ap, applied}
use Rattle.conversion.specs.declared.logic.Answer.{Answer}
use Rattle.conversion.specs.declared.logic.Answer.TheVariants.{Number, Text, Unchanged, Unknown, Refused}
use Rattle.conversion.specs.declared.logic.Applied.{Applied}

-- the number of a refusal; 0 for an answer that is none
abbrev pub refusal_number : Answer → ℕ
refusal_number (Number x) = 0
refusal_number (Text n) = 0
refusal_number Unchanged = 0
refusal_number Unknown = 0
refusal_number (Refused r) = number_of r

-- the address that refusals 1 to 6 and 18 carry
abbrev pub address_in : Answer → Option ℕ
address_in (Number x) = None
address_in (Text n) = None
address_in Unchanged = None
address_in Unknown = None
address_in (Refused r) = address_of r

-- the answer, with N, M and whether a malformed table was consulted; and what the lent output holds
pub record Call : Type 0 where
  pub result : Applied
  pub output : List ℕ

abbrev pub call : Applied → List ℕ → Call
call r out = record { result = r; output = out }

-- the answer where the output has so much room: 7 before 8. A block that cannot be opened is not met after an accepted check (`no_broken`)
unfoldable pub answer_in : ℕ → ℕ → says.Answer → Answer
answer_in room a (says.number x) = Number x
answer_in room a (says.text t) = cond (leb (length t) room) (Text (length t)) (Refused refusal.Room)
answer_in room a says.unchanged = Unchanged
answer_in room a says.unknown = Unknown
answer_in room a says.formula = Refused refusal.Formula
answer_in room a says.broken = Refused (refusal.Short a)

-- a success writes its text from byte 0 on and changes nothing after; all else leaves the output untouched
unfoldable pub output_after : List ℕ → says.Answer → List ℕ
output_after out (says.number x) = out
output_after out (says.text t) = cond (leb (length t) (length out)) (t ++ drop (length t) out) out
output_after out says.unchanged = out
output_after out says.unknown = out
output_after out says.formula = out
output_after out says.broken = out

-- after a check that was accepted with n visits; M is the number of blocks begun
unfoldable pub settled : ℕ → ℕ → Ap → List ℕ → Call
settled n a x out =
    call (record { answer = answer_in (length out) a x.says; checked = n; applied = length x.begun; malformed = x.malformed })
    (output_after out x.says)

-- a refusal before applying tells no visits, and has consulted no table
abbrev pub refused_before : Refusal → Applied
refused_before r = record { answer = Refused r; checked = 0; applied = 0; malformed = false }

-- check refusals come first
abbrev pub by_check : Result ℕ Refusal → (ℕ → Call) → List ℕ → Call
by_check (Ok n) f out = f n
by_check (Err r) f out = call (refused_before r) out

-- one call checks, then applies: depths 0 to 20 are 21 levels
unfoldable pub applying : Mode → List ℕ → ℕ → ℕ → Value → List ℕ → List ℕ → Call
applying mode img a limit v t out = by_check (checked img a limit) (λ n. settled n a (applied 21 mode img t a v) out) out
