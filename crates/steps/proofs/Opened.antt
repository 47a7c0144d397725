-- A block that is seen whole fits its image. Assumes nothing.
use Rattle.std.specs.Prelude.{Err, Ok, Some}
use mathlib.Core.Path.{◌≡◌, refl, subst}
use mathlib.Core.Bool.{Bool, true, false, cond}
use mathlib.Core.List.{List}
use Prim.Native.Nat.{ℕ, ◌≤◌}
use native.Mathlib.Omega.{arith}
use borrow.Author.Tests.{leb-true}
use lib.Dec.{leb}
use lib.ListN.{length}
use Rattle.words.proofs.Clash.{clash}
use Rattle.blocks.specs.Block.{ref_count, fields_place, fields_at, val_count, values_place, block_end, block_at, opened}
use Rattle.blocks.specs.View.{view_of, seen_of, seen}
use Rattle.blocks.specs.declared.Block.{Block}
use Rattle.blocks.specs.declared.view.View.{View}
use Rattle.common.specs.declared.refusal.Refusal.{Refusal}
use Rattle.steps.specs.Fits.{Fits}

test : (img : List ℕ) (x : Bool) (b : View) (c : Block) (r : Refusal) → (x ≡ true → Fits img (view_of c)) → seen_of (cond x (Ok c) (Err r)) ≡ Some b → Fits img b
test img true b c r h e = let same : view_of c ≡ b = cc in subst (Fits img) same (h refl)
test img false b c r h e = clash cc

at_fits : (img : List ℕ) (a : ℕ) → block_end img a ≤ length img → Fits img (view_of (block_at img a))
unfolding block_end values_place fields_place ref_count val_count block_at fields_at
at_fits img a h = (omega arith, omega arith)

pub seen_fits : (img : List ℕ) (a : ℕ) (b : View) → seen img a ≡ Some b → Fits img b
unfolding seen opened
seen_fits img a b e =
    test img (leb (block_end img a) (length img)) b (block_at img a) _ (λ t. at_fits img a (leb-true (block_end img a) (length img) t)) e
