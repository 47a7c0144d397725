-- One step of each rule's definition, over a list of values; what the code's tests and loops cite. Assumes nothing.
use mathlib.Core.Path.{◌≡◌, refl, sym, ap, ◌∙◌}
use mathlib.Core.List.{List, [], ◌∷◌}
use mathlib.Core.Logic.{◌⊎◌, ⊎_elim}
use mathlib.Core.Bool.{Bool, true, false, ◌&&◌, ◌||◌, cond}
use Prim.Native.Nat.{ℕ, zero, suc, ◌+◌, ◌-◌, ◌*◌, ◌/◌, ◌%◌, ◌≤◌, ◌<◌}
use native.Mathlib.Omega.{arith}
use borrow.Author.Tests.{ne_eqb, lt-ltb, le-ltb}
use lib.Dec.{eqb, ltb}
use lib.ListN.{length, get_or, drop, drop_of_length-le, length-drop}
use lib.Seq.{drop-cons}
use native.Mathlib.Numerals.{add-one}
use lib.Ieee.{Float, nan, inf, fin, le, lt, eq, binary64, of_bits}
use Rattle.words.specs.Words.{word64, value_at}
use Rattle.rules.specs.Values.{values, plus, times, over}
use Rattle.rules.specs.Linear.{linear, rational, poly}
use Rattle.rules.specs.Table.{between, scan, table, holds, first_triple, range_value}
use Rattle.rules.specs.Search.{first_key, key_search, first_range, malformed, range_search, searched}
use Rattle.rules.specs.declared.search.Searched.TheVariants.{Malformed}

or_true : (b : Bool) → (b || true) ≡ true
or_true true = refl
or_true false = refl

and_true : (b : Bool) → (b && true) ≡ b
and_true true = refl
and_true false = refl

and_false : (b : Bool) → (b && false) ≡ false
and_false true = refl
and_false false = refl

or_left : (a b : Bool) → (a || b) ≡ false → a ≡ false
or_left true b h = h
or_left false b h = refl

-- ---- a NaN is no key, and nothing is under it
pub no_key : (x : Float) → eq nan x ≡ false
unfolding eq
no_key x = refl

pub none_under : (whole : Bool) (x : Float) → cond whole (le x nan) (lt x nan) ≡ false
unfolding le lt eq
none_under true nan = refl
none_under true (inf s) = refl
none_under true (fin s m e) = refl
none_under false nan = refl
none_under false (inf s) = refl
none_under false (fin s m e) = refl

-- what is above a bound is under it neither way
pub not_under : (whole : Bool) (x high : Float) → le x high ≡ false → cond whole (le x high) (lt x high) ≡ false
unfolding le
not_under true x high t = t
not_under false x high t = or_left (lt x high) (eq x high) t

-- ---- a range by its upper bound first
pub held_under : (whole : Bool) (low high x : Float) → cond whole (le x high) (lt x high) ≡ true → holds whole low high x ≡ le low x
unfolding holds
held_under whole low high x t = rw t (and_true (le low x))

pub held_over : (whole : Bool) (low high x : Float) → cond whole (le x high) (lt x high) ≡ false → holds whole low high x ≡ false
unfolding holds
held_over whole low high x t = rw t (and_false (le low x))

-- ---- the values of an image as a list
module _ (img : List ℕ) where
  pub values_length : (p n : ℕ) → length (values img p n) ≡ n
  unfolding values
  values_length p zero = refl
  values_length p (suc n) = ap suc (values_length (p + 8) n)

  pub values_at : (p n i : ℕ) → i < n → get_or (values img p n) i nan ≡ value_at img (p + i * 8)
  unfolding values
  values_at p zero i h = absurd (omega arith)
  values_at p (suc n) zero h = let e : p + 0 ≡ p = omega arith in rw e
  values_at p (suc n) (suc i) h =
      let e : p + 8 + i * 8 ≡ p + suc i * 8 = omega arith in
      values_at (p + 8) n i (omega arith) ∙ ap (value_at img) e

  pub values_bits : (p n i : ℕ) → i < n → get_or (values img p n) i nan ≡ of_bits binary64 (word64 img (p + i * 8))
  unfolding value_at
  values_bits p n i h = values_at p n i h

-- ---- linear and rational
pub linear_few : (vs : List Float) (x : Float) → length vs < 2 → linear vs x ≡ x
unfolding linear
linear_few [] x h = refl
linear_few (a ∷ []) x h = refl
linear_few (a ∷ b ∷ vs) x h = absurd (omega arith)

pub linear_two : (vs : List Float) (x : Float) → 2 ≤ length vs → linear vs x ≡ plus (get_or vs 0 nan) (times (get_or vs 1 nan) x)
unfolding linear
linear_two [] x h = absurd (omega arith)
linear_two (a ∷ []) x h = absurd (omega arith)
linear_two (a ∷ b ∷ vs) x h = refl

-- the half of a fraction by three values from the i-th on
abbrev pub poly_at : List Float → ℕ → Float → Float
poly_at vs i x = poly (get_or vs i nan) (get_or vs (i + 1) nan) (get_or vs (i + 2) nan) x

pub rational_few : (vs : List Float) (x : Float) → length vs < 6 → rational vs x ≡ x
unfolding rational
rational_few [] x h = refl
rational_few (a ∷ []) x h = refl
rational_few (a ∷ b ∷ []) x h = refl
rational_few (a ∷ b ∷ c ∷ []) x h = refl
rational_few (a ∷ b ∷ c ∷ d ∷ []) x h = refl
rational_few (a ∷ b ∷ c ∷ d ∷ e ∷ []) x h = refl
rational_few (a ∷ b ∷ c ∷ d ∷ e ∷ f ∷ vs) x h = absurd (omega arith)

pub rational_six : (vs : List Float) (x : Float) → 6 ≤ length vs → rational vs x ≡ over (poly_at vs 0 x) (poly_at vs 3 x)
unfolding rational
rational_six [] x h = absurd (omega arith)
rational_six (a ∷ []) x h = absurd (omega arith)
rational_six (a ∷ b ∷ []) x h = absurd (omega arith)
rational_six (a ∷ b ∷ c ∷ []) x h = absurd (omega arith)
rational_six (a ∷ b ∷ c ∷ d ∷ []) x h = absurd (omega arith)
rational_six (a ∷ b ∷ c ∷ d ∷ e ∷ []) x h = absurd (omega arith)
rational_six (a ∷ b ∷ c ∷ d ∷ e ∷ f ∷ vs) x h = refl

-- ---- the table as the code goes through it
module _ (near : Bool) (x : Float) where
  pub table_bad : (vs : List Float) → (length vs < 2) ⊎ (length vs % 2 ≡ 1) → table near vs x ≡ x
  unfolding table
  table_bad [] h = refl
  table_bad (k ∷ []) h = refl
  table_bad (k ∷ v ∷ vs) h =
      ⊎_elim (λ (few : length (k ∷ v ∷ vs) < 2). absurd (omega arith)) (λ (odd : length (k ∷ v ∷ vs) % 2 ≡ 1). let o : length vs % 2 ≡ 1 = omega arith in rw o) h

  table_is : (vs : List Float) → 2 ≤ length vs → (length vs % 2 ≡ 1 → ⊥)
      → table near vs x
      ≡ cond (le x (get_or vs 0 nan)) (get_or vs 1 nan)
      (cond (le (get_or vs (length vs - 2) nan) x) (get_or vs (length vs - 1) nan)
      (scan near (get_or vs 0 nan) (get_or vs 1 nan) (drop 2 vs) x))
  unfolding table
  table_is [] h o = absurd (omega arith)
  table_is (k ∷ []) h o = absurd (omega arith)
  table_is (k ∷ v ∷ vs) h o =
      let even : eqb (length vs % 2) 1 ≡ false = ne_eqb _ _ (λ e. o (omega arith)) in
      let key : length (k ∷ v ∷ vs) - 2 ≡ length vs = omega arith in
      let last : length (k ∷ v ∷ vs) - 1 ≡ suc (length vs) = omega arith in
      rw (even, key, last)

  module _ (vs : List Float) (n : ℕ) (len : length vs ≡ n) (more : 2 ≤ n) (even : n % 2 ≡ 1 → ⊥) where
    is : table near vs x
        ≡ cond (le x (get_or vs 0 nan)) (get_or vs 1 nan)
        (cond (le (get_or vs (n - 2) nan) x) (get_or vs (n - 1) nan) (scan near (get_or vs 0 nan) (get_or vs 1 nan) (drop 2 vs) x))
    is = rw (sym len) (table_is vs (omega arith) (λ e. even (omega arith)))

    pub table_first : le x (get_or vs 0 nan) ≡ true → table near vs x ≡ get_or vs 1 nan
    table_first t = is ∙ rw t

    pub table_last : le x (get_or vs 0 nan) ≡ false → le (get_or vs (n - 2) nan) x ≡ true → table near vs x ≡ get_or vs (n - 1) nan
    table_last t u = is ∙ rw (t, u)

    pub table_scan : le x (get_or vs 0 nan) ≡ false → le (get_or vs (n - 2) nan) x ≡ false
        → table near vs x ≡ scan near (get_or vs 0 nan) (get_or vs 1 nan) (drop 2 vs) x
    table_scan t u = is ∙ rw (t, u)

-- ---- what is left of a list from the j-th value on
module _ (vs : List Float) where
  none : (j : ℕ) → length vs ≤ j → drop j vs ≡ []
  none j h = drop_of_length-le vs h

  one : (j : ℕ) → j < length vs → drop j vs ≡ get_or vs j nan ∷ drop (j + 1) vs
  one j h = rw (add-one, drop-cons vs j nan h)

  two : (j : ℕ) → j + 1 < length vs → drop j vs ≡ get_or vs j nan ∷ get_or vs (j + 1) nan ∷ drop (j + 2) vs
  two j h =
      let e : j + 1 + 1 ≡ j + 2 = omega arith in
      one j (omega arith) ∙ ap (λ (l : List Float). get_or vs j nan ∷ l) (one (j + 1) h ∙ rw e)

  three : (j : ℕ) → j + 2 < length vs → drop j vs ≡ get_or vs j nan ∷ get_or vs (j + 1) nan ∷ get_or vs (j + 2) nan ∷ drop (j + 3) vs
  three j h =
      let e : j + 2 + 1 ≡ j + 3 = omega arith in
      two j (omega arith) ∙ ap (λ (l : List Float). get_or vs j nan ∷ get_or vs (j + 1) nan ∷ l) (one (j + 2) h ∙ rw e)

  -- ---- the neighbours, behind the pair whose key is k and whose value is v
  module _ (near : Bool) (x k v : Float) where
    pub scan_none : (j : ℕ) → length vs ≤ j + 1 → scan near k v (drop j vs) x ≡ x
    unfolding scan
    scan_none j h = go (drop j vs) (length-drop j vs)
      where
        go : (l : List Float) → length l ≡ length vs - j → scan near k v l x ≡ x
        go [] e = refl
        go (a ∷ []) e = refl
        go (a ∷ b ∷ l) e = absurd (omega arith)

    scan_step : (j : ℕ) → j + 1 < length vs
        → scan near k v (drop j vs) x
        ≡ cond (le k x && le x (get_or vs j nan)) (between near k v (get_or vs j nan) (get_or vs (j + 1) nan) x)
        (scan near (get_or vs j nan) (get_or vs (j + 1) nan) (drop (j + 2) vs) x)
    unfolding scan
    scan_step j h = rw (two j h)

    pub scan_hit : (j : ℕ) → j + 1 < length vs → (le k x && le x (get_or vs j nan)) ≡ true
        → scan near k v (drop j vs) x ≡ between near k v (get_or vs j nan) (get_or vs (j + 1) nan) x
    scan_hit j h t = scan_step j h ∙ rw t

    pub scan_miss : (j : ℕ) → j + 1 < length vs → (le k x && le x (get_or vs j nan)) ≡ false
        → scan near k v (drop j vs) x ≡ scan near (get_or vs j nan) (get_or vs (j + 1) nan) (drop (j + 2) vs) x
    scan_miss j h t = scan_step j h ∙ rw t

  -- ---- ranges
  module _ (whole : Bool) (x : Float) where
    pub range_none : (j : ℕ) → length vs ≤ j + 1 → first_range whole (drop j vs) x ≡ 0
    unfolding first_range
    range_none j h = go (drop j vs) (length-drop j vs)
      where
        go : (l : List Float) → length l ≡ length vs - j → first_range whole l x ≡ 0
        go [] e = refl
        go (a ∷ []) e = refl
        go (a ∷ b ∷ l) e = absurd (omega arith)

    range_step : (j : ℕ) → j + 1 < length vs
        → first_range whole (drop j vs) x ≡ cond (holds whole (get_or vs j nan) (get_or vs (j + 1) nan) x) 0 (suc (first_range whole (drop (j + 2) vs) x))
    unfolding first_range
    range_step j h = rw (two j h)

    pub range_hit : (j : ℕ) → j + 1 < length vs → holds whole (get_or vs j nan) (get_or vs (j + 1) nan) x ≡ true → first_range whole (drop j vs) x ≡ 0
    range_hit j h t = range_step j h ∙ rw t

    pub range_miss : (j : ℕ) → j + 1 < length vs → holds whole (get_or vs j nan) (get_or vs (j + 1) nan) x ≡ false
        → first_range whole (drop j vs) x ≡ suc (first_range whole (drop (j + 2) vs) x)
    range_miss j h t = range_step j h ∙ rw t

    -- ---- triples
    pub triple_last : (j : ℕ) → length vs ≡ j + 1 → first_triple whole (drop j vs) x ≡ get_or vs j nan
    unfolding first_triple
    triple_last j e = rw (one j (omega arith), none (j + 1) (omega arith))

    triple_step : (j : ℕ) → j + 2 < length vs
        → first_triple whole (drop j vs) x
        ≡ cond (holds whole (get_or vs j nan) (get_or vs (j + 1) nan) x) (get_or vs (j + 2) nan) (first_triple whole (drop (j + 3) vs) x)
    unfolding first_triple
    triple_step j h = rw (three j h)

    pub triple_hit : (j : ℕ) → j + 2 < length vs → holds whole (get_or vs j nan) (get_or vs (j + 1) nan) x ≡ true
        → first_triple whole (drop j vs) x ≡ get_or vs (j + 2) nan
    triple_hit j h t = triple_step j h ∙ rw t

    pub triple_miss : (j : ℕ) → j + 2 < length vs → holds whole (get_or vs j nan) (get_or vs (j + 1) nan) x ≡ false
        → first_triple whole (drop j vs) x ≡ first_triple whole (drop (j + 3) vs) x
    triple_miss j h t = triple_step j h ∙ rw t

    module _ (n : ℕ) (len : length vs ≡ n) where
      pub range_malformed : malformed n ≡ true → range_search whole vs x ≡ Malformed (ltb 2 n)
      unfolding range_search
      range_malformed h = rw (len, h)

      pub range_searched : malformed n ≡ false → range_search whole vs x ≡ searched (first_range whole vs x) (n / 2)
      unfolding range_search
      range_searched h = rw (len, h)

      pub range_value_bad : (n < 4) ⊎ (n % 3 ≡ 1 → ⊥) → range_value whole vs x ≡ x
      unfolding range_value
      range_value_bad h =
          ⊎_elim (λ (few : n < 4). rw (len, lt-ltb n 4 few)) (λ (odd : n % 3 ≡ 1 → ⊥). rw (len, ne_eqb (n % 3) 1 odd, or_true (ltb n 4))) h

      pub range_value_good : 4 ≤ n → n % 3 ≡ 1 → range_value whole vs x ≡ first_triple whole vs x
      unfolding range_value
      range_value_good h k = rw (len, le-ltb n 4 h, k)

  -- ---- keys
  module _ (x : Float) where
    pub key_none : (j : ℕ) → length vs ≤ j → first_key (drop j vs) x ≡ 0
    unfolding first_key
    key_none j h = rw (none j h)

    key_step : (j : ℕ) → j < length vs → first_key (drop j vs) x ≡ cond (eq (get_or vs j nan) x) 0 (suc (first_key (drop (j + 1) vs) x))
    unfolding first_key
    key_step j h = rw (one j h)

    pub key_hit : (j : ℕ) → j < length vs → eq (get_or vs j nan) x ≡ true → first_key (drop j vs) x ≡ 0
    key_hit j h t = key_step j h ∙ rw t

    pub key_miss : (j : ℕ) → j < length vs → eq (get_or vs j nan) x ≡ false → first_key (drop j vs) x ≡ suc (first_key (drop (j + 1) vs) x)
    key_miss j h t = key_step j h ∙ rw t

    pub key_searched : (n : ℕ) → length vs ≡ n → key_search vs x ≡ searched (first_key vs x) n
    unfolding key_search
    key_searched n len = rw len
