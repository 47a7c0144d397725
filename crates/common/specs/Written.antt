-- What a writer answers, and what the lent output holds then (document 01: "A refusal leaves the output buffer untouched. A success
-- writes its text or block from byte 0 and changes nothing after"). Assumes nothing: these are definitions.
use Rattle.std.specs.Prelude.{ℕ, Result, Ok, Err, cond, List, ◌++◌, ltb, length, drop}
use Rattle.common.specs.declared.refusal.Refusal.{Refusal}
use Rattle.common.specs.declared.refusal.Refusal.TheVariants.{Room}

-- a success writes the block from byte 0 and changes nothing after; a refusal leaves the output untouched
abbrev pub output_holds : Result ℕ Refusal → List ℕ → List ℕ → List ℕ
output_holds (Ok n) block out = block ++ drop n out
output_holds (Err r) block out = out

-- an answer, with what the lent output holds then
pub record WriteCall : Type 0 where
  pub result : Result ℕ Refusal
  pub output : List ℕ

abbrev pub write_call : Result ℕ Refusal → List ℕ → WriteCall
write_call r out = record { result = r; output = out }

-- bytes in a lent output: from byte 0 on, and behind them what was there; an output too short for them stays as it was: 8
unfoldable pub holding : List ℕ → List ℕ → WriteCall
holding bytes out =
    cond (ltb (length out) (length bytes)) (write_call (Err Room) out) (write_call (Ok (length bytes)) (bytes ++ drop (length bytes) out))
