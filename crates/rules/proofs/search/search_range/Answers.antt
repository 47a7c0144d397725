-- `rules::search::search_range` meets its contract. Assumes nothing.
use mathlib.Core.Path.{◌≡◌, sym, ap, ◌∙◌}
use Prim.Native.Nat.{ℕ, ◌/◌}
use lib.ListN.{length}
use Rattle.rules.specs.Stored.{listed}
use Rattle.rules.specs.Search.{searched}
use Rattle.rules.proofs.Steps.{values_length, range_malformed, range_searched}
use Rattle.rules.proofs.search.search_range.Goals as goal

pub returns-then-is_malformed_length : goal.returns-then-is_malformed_length
returns-then-is_malformed_length c =
    let v = c.args.values in
    let len : length (listed v) ≡ v.count = values_length v.image.now v.first v.count in
    sym (range_malformed (listed v) c.args.whole c.args.x v.count len (sym c.is_malformed_length.ensures ∙ c.if-is_malformed_length.true))

pub returns : goal.returns
returns c =
    let v = c.args.values in
    let len : length (listed v) ≡ v.count = values_length v.image.now v.first v.count in
    c.searched_at.ensures
    ∙ ap (λ (i : ℕ). searched i (v.count / 2)) c.range_index.ensures
    ∙ sym (range_searched (listed v) c.args.whole c.args.x v.count len (sym c.is_malformed_length.ensures ∙ c.if-is_malformed_length.false))
