-- A block as far as walking and applying need it, and its references and values read by place. Assumes nothing: these are definitions.
use Rattle.std.specs.Prelude.{ℕ, Option, Some, None, Result, Ok, Err, Float, ◌-◌, List}
use Rattle.blocks.specs.Block.{opened}
use Rattle.blocks.specs.Place.{word_in, as_value}
use Rattle.blocks.specs.declared.Block.{Block}
use Rattle.blocks.specs.declared.view.View.{View}
use Rattle.common.specs.declared.refusal.Refusal.{Refusal}

abbrev pub view_of : Block → View
view_of b =
    record {
      kind = b.kind;
      refs = b.links - 4;
      firstref = b.firstref;
      valcount = b.valcount;
      firstval = b.firstval;
    }

abbrev pub seen_of : Result Block Refusal → Option View
seen_of (Ok b) = Some (view_of b)
seen_of (Err r) = None

-- what is seen of a ##CC block whose header lies in the image
unfoldable pub seen : List ℕ → ℕ → Option View
seen img a = seen_of (opened img a)

unfoldable pub reference_in : List ℕ → View → ℕ → Option ℕ
reference_in img v i = word_in img v.firstref v.refs i

unfoldable pub value_word_in : List ℕ → View → ℕ → Option ℕ
value_word_in img v i = word_in img v.firstval v.valcount i

unfoldable pub value_in : List ℕ → View → ℕ → Option Float
value_in img v i = as_value (value_word_in img v i)
