-- `tree::path::Path::contains` meets its contract. Assumes nothing.
use mathlib.Core.Path.{◌∙◌}
use Rattle.std.specs.Prelude.{nat_eq}
use Rattle.std.proofs.Common.{rules, tests}
use Rattle.std.proofs.lemmas.Iterator.{YieldsList-from_slice}
use Rattle.std.proofs.lemmas.Iterator.Search.{any_from_yields_List}
use Rattle.tree.specs.Path.{walked}
use Rattle.tree.proofs.Paths.{on_any}
use Rattle.tree.proofs.path.Path.contains.Goals as goal

pub returns : goal.returns
returns c =
    let path = walked c.args.self.now in
    any_from_yields_List (λ y. nat_eq y c.args.a) _ _ _ c.any.ensures.ran (YieldsList-from_slice path cc) (λ x b q k. search (rules, tests))
    ∙ on_any c.args.a path
