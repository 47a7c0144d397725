-- Linear and rational (document 01, "Applying"), over the list of a block's values. Assumes nothing: these are definitions.
use Rattle.std.specs.Prelude.{List, [], ◌∷◌, Float}
use Rattle.rules.specs.Values.{plus, times, over}

-- linear, 2 or more values: v0 + v1*x; fewer: x
unfoldable pub linear : List Float → Float → Float
linear (v0 ∷ v1 ∷ vs) x = plus v0 (times v1 x)
linear (v0 ∷ []) x = x
linear [] x = x

-- ((p1*x)*x + p2*x) + p3
abbrev pub poly : Float → Float → Float → Float → Float
poly p1 p2 p3 x = plus (plus (times (times p1 x) x) (times p2 x)) p3

-- rational, 6 or more: that over the same with p4, p5, p6; fewer: x
unfoldable pub rational : List Float → Float → Float
rational (p1 ∷ p2 ∷ p3 ∷ p4 ∷ p5 ∷ p6 ∷ vs) x = over (poly p1 p2 p3 x) (poly p4 p5 p6 x)
rational (p1 ∷ p2 ∷ p3 ∷ p4 ∷ p5 ∷ []) x = x
rational (p1 ∷ p2 ∷ p3 ∷ p4 ∷ []) x = x
rational (p1 ∷ p2 ∷ p3 ∷ []) x = x
rational (p1 ∷ p2 ∷ []) x = x
rational (p1 ∷ []) x = x
rational [] x = x
