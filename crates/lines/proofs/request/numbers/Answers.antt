-- `lines::request::numbers` meets its contract: the next number is stored behind those that were. Assumes nothing.
use mathlib.Core.Path.{◌≡◌, refl, sym, ap, ◌∙◌}
use Prim.Native.Nat.{ℕ, ◌*◌, ◌<◌}
use Rattle.std.proofs.Common.{zero-add}
use native.Mathlib.Omega.{arith}
use lib.ListN.{length, length-replicate, length-set}
use Rattle.words.specs.Words.{word64, words}
use Rattle.words.proofs.Slices.{gathered}
use Rattle.lines.proofs.request.numbers.Goals as goal

pub loop-i-init : goal.loop-i-init
unfolding words
loop-i-init g c = (refl, refl, length-replicate {A = ℕ} g.row.N 0)

pub loop-i-preserved : goal.loop-i-preserved
loop-i-preserved g c =
    let (done, end, long) = c.loop-i.invariant in
    let left = c.loop-i-test.true in
    let inside : c.loop-i.i < length c.loop-i.number-items = omega (arith, left, long) in
    let read = c.u64_at.ensures ∙ ap (word64 c.args.bytes.now) (sym (zero-add (8 * c.loop-i.i))) in
    (gathered c.args.bytes.now 0 c.loop-i.i _ c.loop-i.number-items inside done read, refl, length-set _ _ _ ∙ long)
