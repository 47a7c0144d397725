-- A record without padding is written as document 01's writer writes it, so that every law of that writer stands. Assumes nothing.
use Rattle.std.specs.Prelude.{is_some, Err, Ok, Result}
use mathlib.Core.Path.{◌≡◌, refl, ap, ◌∙◌}
use mathlib.Core.Bool.{Bool, true, false}
use mathlib.Core.List.{List, append-nil}
use Prim.Native.Nat.{ℕ}
use native.Mathlib.Nat.{add-zero}
use lib.ListN as ListN
use Rattle.blocks.specs.declared.Block.{Block}
use Rattle.common.specs.Header.{header_bytes}
use Rattle.common.specs.Written.{output_holds, write_call}
use Rattle.writer.specs.Write.{write_size, front_bytes, block_bytes, read_as_range, write_answer, writing}
use Rattle.writer.specs.Plain.{plain_size, plain_header, plain_front, plain_bytes, plain_answer, plain_writing}
use Rattle.common.specs.declared.refusal.Refusal.{Refusal}

size_is : (ranged : Bool) (refs values : ℕ) → write_size ranged refs values 0 ≡ plain_size ranged refs values
unfolding write_size plain_size
size_is ranged refs values = add-zero _

-- no excess is read as a range
pub no_excess : (ranged : Bool) → read_as_range ranged 0 ≡ false
no_excess true = refl
no_excess false = refl

module _ (b : Block) (refs values : List ℕ) (reserved : b.reserved ≡ 0) (excess : b.excess ≡ 0) where
  bytes_are : block_bytes b refs values ≡ plain_bytes b refs values
  unfolding block_bytes plain_bytes front_bytes plain_front header_bytes plain_header
  bytes_are = rw (excess, reserved, size_is (is_some b.range) (ListN.length refs) (ListN.length values)) (append-nil _)

  answer_is : (room : ℕ) → write_answer (is_some b.range) (ListN.length refs) (ListN.length values) b.excess room
      ≡ plain_answer (is_some b.range) (ListN.length refs) (ListN.length values) room
  unfolding write_answer plain_answer
  answer_is room = rw (excess, no_excess (is_some b.range), size_is (is_some b.range) (ListN.length refs) (ListN.length values))

  pub plain_writing_lem : (out : List ℕ) → writing b refs values out ≡ plain_writing b refs values out
  unfolding writing plain_writing
  plain_writing_lem out =
      let says = plain_answer (is_some b.range) (ListN.length refs) (ListN.length values) (ListN.length out) in
      ap (λ (w : Result ℕ Refusal). write_call w (output_holds w (block_bytes b refs values) out)) (answer_is (ListN.length out))
      ∙ ap (λ (bytes : List ℕ). write_call says (output_holds says bytes out)) bytes_are
