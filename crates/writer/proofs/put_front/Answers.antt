-- `writer::put_front` meets its contract. Assumes nothing.
use mathlib.Core.Path.{ap, ◌∙◌}
use mathlib.Core.List.{List, map-id}
use Prim.Native.Nat.{ℕ}
use native.Mathlib.Omega.{arith}
use Rattle.words.specs.Words.{put, links}
use Rattle.blocks.specs.Block.{range_size}
use Rattle.writer.proofs.Writing.{front_parts}
use Rattle.writer.proofs.put_front.Goals as goal

pub returns : goal.returns
returns c =
    let a = c.args in (
      omega (arith, ap range_size c.is_some.ensures),
      front_parts a.block a.refs.now a.values a.length a.out.now c.put.ensures c.put_fixed.ensures
          (c.put_words.ensures ∙ ap (λ (vs : List ℕ). put c.put_fixed.new.out 56 (links vs)) (map-id a.refs.now)) c.put_fields.ensures c.put_range.ensures,
    )
