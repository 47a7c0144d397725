-- A malformed table of ranges (request [5]): the search in three ways decides by document 01's index and match, and says malformed for length 0, 1 or
-- odd, and for no other. Assumes nothing.
use mathlib.Core.Path.{◌≡◌, refl, sym, ◌∙◌}
use mathlib.Core.List.{List, [], ◌∷◌}
use mathlib.Core.Bool.{Bool, true, false, ◌||◌, cond}
use Prim.Native.Nat.{ℕ, ◌/◌, ◌%◌, ◌≤◌, ◌<◌}
use native.Mathlib.Omega.{arith}
use borrow.Author.Tests.{lt-ltb, le-ltb, ltb-true, ltb-false, eqb-true, eqb-false}
use lib.Dec.{eqb, ltb}
use lib.ListN.{length}
use lib.Ieee.{Float}
use Rattle.rules.specs.Search.{deciding, is_match, is_malformed, searched, first_range, range_index, malformed, range_search}
use Rattle.rules.specs.declared.search.Searched.TheVariants.{Matched, Unmatched, Malformed}

decided_by : (i n : ℕ) → deciding (searched i n) ≡ i
decided_by i n = go (ltb i n)
  where
    go : (b : Bool) → deciding (cond b (Matched i) (Unmatched i)) ≡ i
    go true = refl
    go false = refl

matched_by : (i n : ℕ) → is_match (searched i n) ≡ ltb i n
matched_by i n = go (ltb i n)
  where
    go : (b : Bool) → is_match (cond b (Matched i) (Unmatched i)) ≡ b
    go true = refl
    go false = refl

well_formed : (i n : ℕ) → is_malformed (searched i n) ≡ false
well_formed i n = go (ltb i n)
  where
    go : (b : Bool) → is_malformed (cond b (Matched i) (Unmatched i)) ≡ false
    go true = refl
    go false = refl

module _ (whole : Bool) (x : Float) where
  no_range : (vs : List Float) → length vs < 2 → first_range whole vs x ≡ 0
  unfolding first_range
  no_range [] h = refl
  no_range (v ∷ []) h = refl
  no_range (v ∷ w ∷ vs) h = absurd (omega arith)

  -- the index that document 01 names decides
  pub same_index : (vs : List Float) → deciding (range_search whole vs x) ≡ range_index whole vs x
  unfolding range_search range_index
  same_index vs = go (ltb (length vs) 2) (eqb (length vs % 2) 1) refl
    where
      go : (short odd : Bool) → ltb (length vs) 2 ≡ short
          → deciding (cond (short || odd) (Malformed (ltb 2 (length vs))) (searched (first_range whole vs x) (length vs / 2)))
          ≡ cond odd 0 (first_range whole vs x)
      go true true s = refl
      go false true s = refl
      go true false s = sym (no_range vs (ltb-true _ _ s))
      go false false s = decided_by (first_range whole vs x) (length vs / 2)

  -- and counts as matched where document 01 says so: index < n
  pub same_match : (vs : List Float) → is_match (range_search whole vs x) ≡ ltb (range_index whole vs x) (length vs / 2)
  unfolding range_search range_index
  same_match vs = go (ltb (length vs) 2) (eqb (length vs % 2) 1) refl refl
    where
      odd_match : (k : ℕ) → k % 2 ≡ 1 → (b : Bool) → ltb 2 k ≡ b → b ≡ ltb 0 (k / 2)
      odd_match k o true e = let more : 2 < k = ltb-true _ _ e in sym (lt-ltb 0 (k / 2) (omega arith))
      odd_match k o false e = let less : k ≤ 2 = ltb-false _ _ e in sym (le-ltb 0 (k / 2) (omega arith))

      even_none : (k i : ℕ) → k < 2 → (k % 2 ≡ 1 → ⊥) → ltb 2 k ≡ ltb i (k / 2)
      even_none k i h e =
          let half : k / 2 ≡ 0 = omega arith in
          le-ltb 2 k (omega arith) ∙ sym (le-ltb i (k / 2) (omega arith))

      go : (short odd : Bool) → ltb (length vs) 2 ≡ short → eqb (length vs % 2) 1 ≡ odd
          → is_match (cond (short || odd) (Malformed (ltb 2 (length vs))) (searched (first_range whole vs x) (length vs / 2)))
          ≡ ltb (cond odd 0 (first_range whole vs x)) (length vs / 2)
      go true true s o = odd_match (length vs) (eqb-true _ _ o) (ltb 2 (length vs)) refl
      go false true s o = odd_match (length vs) (eqb-true _ _ o) (ltb 2 (length vs)) refl
      go true false s o = even_none (length vs) (first_range whole vs x) (ltb-true _ _ s) (eqb-false _ _ o)
      go false false s o = matched_by (first_range whole vs x) (length vs / 2)

  -- the search says malformed of such a table, and of no other
  pub malformed_said : (vs : List Float) → is_malformed (range_search whole vs x) ≡ malformed (length vs)
  unfolding range_search
  malformed_said vs = go (malformed (length vs))
    where
      go : (b : Bool) → is_malformed (cond b (Malformed (ltb 2 (length vs))) (searched (first_range whole vs x) (length vs / 2))) ≡ b
      go true = refl
      go false = well_formed (first_range whole vs x) (length vs / 2)
