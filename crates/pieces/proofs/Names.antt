-- The run of a block's name lies in the image. Assumes nothing.
use Rattle.std.specs.Prelude.{None, Option}
use mathlib.Core.Bool.{Bool, true, false, cond}
use mathlib.Core.List.{List}
use Prim.Native.Nat.{ℕ, ◌+◌}
use lib.Dec.{leb}
use lib.ListN.{length}
use Rattle.words.specs.Words.{word64}
use Rattle.common.specs.Text.{run_of, TextIn}
use Rattle.common.proofs.Texts.{run_within}
use Rattle.pieces.specs.Label.{name_at}
use Rattle.common.specs.declared.text.Span.{Span}

pub name_within : (img : List ℕ) (a : ℕ) → TextIn img (name_at img a)
unfolding name_at
name_within img a = go (leb (a + 32) (length img)) (run_of img (word64 img (a + 24))) (run_within img (word64 img (a + 24)))
  where
    go : (b : Bool) (t : Option Span) → TextIn img t → TextIn img (cond b t None)
    go true t h = h
    go false t h = tt
