-- `rules::search::search_key` meets its contract. Assumes nothing.
use mathlib.Core.Path.{sym, ap, ◌∙◌}
use Prim.Native.Nat.{ℕ}
use Rattle.rules.specs.Stored.{listed}
use Rattle.rules.specs.Search.{searched}
use Rattle.rules.proofs.Steps.{values_length, key_searched}
use Rattle.rules.proofs.search.search_key.Goals as goal

pub returns : goal.returns
returns c =
    let v = c.args.values in
    c.searched_at.ensures
    ∙ ap (λ (i : ℕ). searched i v.count) c.key_index.ensures
    ∙ sym (key_searched (listed v) c.args.x v.count (values_length v.image.now v.first v.count))
