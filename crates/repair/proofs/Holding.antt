-- The writer's answer and output are those of a block's bytes held. Assumes nothing.
use Rattle.std.specs.Prelude.{is_some, Err, Ok, Result}
use mathlib.Core.Path.{◌≡◌, refl, sym, ap, ◌∙◌}
use mathlib.Core.Bool.{Bool, true, false}
use mathlib.Core.List.{List}
use Prim.Native.Nat.{ℕ, ◌-◌, ◌≤◌}
use native.Mathlib.Omega.{arith}
use borrow.Author.Tests.{ltb-true, ltb-false}
use lib.Dec.{ltb}
use lib.ListN.{length}
use Rattle.words.specs.Words.{words}
use Rattle.words.proofs.Slices.{length_words}
use Rattle.blocks.specs.Place.{references, value_words}
use Rattle.blocks.specs.declared.Block.{Block}
use Rattle.common.specs.Written.{output_holds, WriteCall, write_call, holding}
use Rattle.common.proofs.Holding.{none_held, all_held}
use Rattle.writer.specs.Write.{block_bytes, read_as_range, writing}
use Rattle.writer.proofs.Writing.{length_block, no_room, block_written}
use Rattle.writer.proofs.Plain.{no_excess}
use Rattle.repair.specs.Repair.{rewritten}
use Rattle.common.specs.declared.refusal.Refusal.{Refusal}

-- a block of at most 65,535 values and without excess
pub writing_holds : (b : Block) (refs values out : List ℕ) → length values ≤ 65535 → b.excess ≡ 0
    → writing b refs values out ≡ holding (block_bytes b refs values) out
unfolding writing
writing_holds b refs values out few none = go (ltb (length out) (length (block_bytes b refs values))) refl
  where
    unread : read_as_range (is_some b.range) b.excess ≡ false
    unread = ap (read_as_range (is_some b.range)) none ∙ no_excess (is_some b.range)

    go : (t : Bool) → ltb (length out) (length (block_bytes b refs values)) ≡ t → writing b refs values out ≡ holding (block_bytes b refs values) out
    go true t =
        let less = ltb-true (length out) (length (block_bytes b refs values)) t in
        ap (λ (w : Result ℕ Refusal). write_call w (output_holds w (block_bytes b refs values) out))
        (no_room (is_some b.range) (length refs) (length values) b.excess (length out) few unread (omega (arith, length_block b refs values)))
        ∙ sym (none_held (block_bytes b refs values) out less)
    go false t =
        let most = ltb-false (length out) (length (block_bytes b refs values)) t in
        block_written b refs values out (length (block_bytes b refs values)) few unread (sym (length_block b refs values)) most
        ∙ sym (all_held (block_bytes b refs values) out most)

-- the words that were gathered for a block, n and m of them, are its references and its values
pub rewriting : (input out : List ℕ) (b : Block) {n m : ℕ} {refs values : List ℕ} {made : WriteCall} → refs ≡ words input b.firstref n
    → values ≡ words input b.firstval m → made ≡ writing b refs values out → n ≡ b.links - 4 → m ≡ b.valcount → b.valcount ≤ 65535 → b.excess ≡ 0
    → made ≡ holding (rewritten input (Ok b)) out
unfolding references value_words
rewriting input out b f g made n m few none =
    made ∙ rw (f, g, n, m) (writing_holds b (references input b) (value_words input b) out (omega (arith, length_words input b.firstval b.valcount)) none)
