-- Tables of pairs, and range to value (document 01, "Applying"), over the list of a block's values. Assumes nothing: these are definitions.
use Rattle.std.specs.Prelude.{suc, ◌%◌, List, [], ◌∷◌, Bool, true, false, not, ◌&&◌, ◌||◌, cond, length, get_or, ltb, eqb, Float}
use Rattle.std.specs.Float.{nan}
use Rattle.std.specs.Float.Ieee.{le, lt}
use Rattle.rules.specs.Values.{plus, minus, times, over}

-- interpolated, v0 + ((x-k0)/(k1-k0))*(v1-v0); nearest, v1 if k1-x < x-k0, else v0
unfoldable pub between : Bool → Float → Float → Float → Float → Float → Float
between false k0 v0 k1 v1 x = plus v0 (times (over (minus x k0) (minus k1 k0)) (minus v1 v0))
between true k0 v0 k1 v1 x = cond (lt (minus k1 x) (minus x k0)) v1 v0

-- the first neighbours with k0 <= x <= k1, from the pair (k0, v0) on; none: x
unfoldable pub scan : Bool → Float → Float → List Float → Float → Float
scan near k0 v0 (k1 ∷ v1 ∷ vs) x = cond (le k0 x && le x k1) (between near k0 v0 k1 v1 x) (scan near k1 v1 vs x)
scan near k0 v0 (k1 ∷ []) x = x
scan near k0 v0 [] x = x

-- length under 2 or odd: x; x <= first key: first value; x >= last key: last value; else the neighbours
unfoldable pub table : Bool → List Float → Float → Float
table near (k0 ∷ v0 ∷ vs) x =
    let n = length vs in
    cond (eqb (n % 2) 1) x
    (cond (le x k0) v0
    (cond (le (get_or (k0 ∷ v0 ∷ vs) n nan) x) (get_or (k0 ∷ v0 ∷ vs) (suc n) nan) (scan near k0 v0 vs x)))
table near (k0 ∷ []) x = x
table near [] x = x

-- a range holds x if min <= x and, for integers, x <= max; for floats x < max
unfoldable pub holds : Bool → Float → Float → Float → Bool
holds whole low high x = le low x && cond whole (le x high) (lt x high)

-- triples and a default: the first range holding x, else the default
unfoldable pub first_triple : Bool → List Float → Float → Float
first_triple whole (low ∷ high ∷ v ∷ vs) x = cond (holds whole low high x) v (first_triple whole vs x)
first_triple whole (d ∷ e ∷ []) x = x
first_triple whole (d ∷ []) x = d
first_triple whole [] x = x

-- length under 4, or length - 1 not a multiple of 3: x
unfoldable pub range_value : Bool → List Float → Float → Float
range_value whole vs x = cond (ltb (length vs) 4 || not (eqb (length vs % 3) 1)) x (first_triple whole vs x)
