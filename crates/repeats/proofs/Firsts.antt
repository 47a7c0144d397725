-- The first index that something holds of, and so the first text that is equal to an earlier one, by the definition. Assumes nothing.
use mathlib.Core.Path.{◌≡◌, refl, sym, ap, ◌∙◌}
use mathlib.Core.Bool.{Bool, true, false, ◌||◌, cond}
use mathlib.Core.List.{List, [], ◌∷◌}
use Prim.Native.Nat.{ℕ, zero, suc, ◌+◌, ◌≤◌, ◌<◌}
use native.Mathlib.Omega.{arith}
use borrow.Author.Tests.{eq-eqb, eqb-true, eqb-false, ltb-true, ltb-false}
use lib.Dec.{eqb, ltb}
use Rattle.words.proofs.Clash.{clash}
use Rattle.blocks.specs.declared.view.View.{View}
use Rattle.leads.specs.Keys.{same_bytes}
use Rattle.repeats.specs.Repeats.{text_at, text_among, text_repeated, first_of}
use Rattle.repeats.specs.Scan.{FirstRepeat}

-- ---- the same bytes are the same text
pub same_itself : (x : List ℕ) → same_bytes x x ≡ true
unfolding same_bytes
same_itself [] = refl
same_itself (a ∷ x) = rw (eq-eqb a a refl) (same_itself x)

pub same_is : (x y : List ℕ) → same_bytes x y ≡ true → x ≡ y
unfolding same_bytes
same_is [] [] h = refl
same_is [] (b ∷ y) h = clash cc
same_is (a ∷ x) [] h = clash cc
same_is (a ∷ x) (b ∷ y) h = go (eqb a b) refl (same_is x y) h
  where
    go : (z : Bool) → eqb a b ≡ z → (same_bytes x y ≡ true → x ≡ y) → cond z (same_bytes x y) false ≡ true → a ∷ x ≡ b ∷ y
    go true e tails k = let p : a ≡ b = eqb-true a b e in let q : x ≡ y = tails k in cc
    go false e tails k = clash cc

-- ---- one of the first m texts is equal to the i-th
module _ (img : List ℕ) (b : View) (i : ℕ) where
  among_none : (m : ℕ) → ((j : ℕ) → j < m → text_at img b j ≡ text_at img b i → ⊥) → text_among img b i m ≡ false
  unfolding text_among
  among_none zero h = refl
  among_none (suc m) h = go (same_bytes (text_at img b m) (text_at img b i)) refl (among_none m (λ j l. h j (omega arith)))
    where
      go : (x : Bool) → same_bytes (text_at img b m) (text_at img b i) ≡ x → text_among img b i m ≡ false → text_among img b i m || x ≡ false
      go true e r = absurd (h m (omega arith) (same_is _ _ e))
      go false e r = rw r

  pub among_some : (m j : ℕ) → j < m → text_at img b j ≡ text_at img b i → text_among img b i m ≡ true
  unfolding text_among
  among_some zero j l e = absurd (omega arith)
  among_some (suc m) j l e = go (eqb j m) refl (among_some m j)
    where
      or_true : (x : Bool) → x || true ≡ true
      or_true true = refl
      or_true false = refl

      go : (x : Bool) → eqb j m ≡ x → (j < m → text_at img b j ≡ text_at img b i → text_among img b i m ≡ true)
          → text_among img b i m || same_bytes (text_at img b m) (text_at img b i) ≡ true
      go true p r =
          let t : text_at img b m ≡ text_at img b i = sym (ap (text_at img b) (eqb-true j m p)) ∙ e in
          rw (t, same_itself (text_at img b i)) (or_true (text_among img b i m))
      go false p r = rw (r (omega (arith, eqb-false j m p)) e)

-- ---- the first index that p holds of
module _ (p : ℕ → Bool) where
  -- e is the first of n indexes from i on, or i + n
  pub record IsFirst (i n e : ℕ) : Type 0 where
    pub from : i ≤ e
    pub to : e ≤ i + n
    pub before : (j : ℕ) → i ≤ j → j < e → p j ≡ false
    pub here : e < i + n → p e ≡ true

  pub first_is : (i n : ℕ) → IsFirst i n (first_of p i n)
  unfolding first_of
  first_is i zero =
      record { from = omega arith; to = omega arith; before = λ j h k. absurd (omega (arith, h, k)); here = λ h. absurd (omega (arith, h)) }
  first_is i (suc n) = go (p i) refl (first_is (i + 1) n)
    where
      go : (b : Bool) → p i ≡ b → IsFirst (i + 1) n (first_of p (i + 1) n) → IsFirst i (suc n) (cond b i (first_of p (i + 1) n))
      go true e r = record { from = omega arith; to = omega arith; before = λ j h k. absurd (omega (arith, h, k)); here = λ h. e }
      go false e r =
          record {
            from = omega (arith, r.from);
            to = omega (arith, r.to);
            before = λ j h k. later j (ltb i j) refl h k;
            here = λ h. r.here (omega (arith, h));
          }
        where
          later : (j : ℕ) (c : Bool) → ltb i j ≡ c → i ≤ j → j < first_of p (i + 1) n → p j ≡ false
          later j true t h k = r.before j (omega (arith, ltb-true i j t)) k
          later j false t h k = let same : i ≡ j = omega (arith, ltb-false i j t, h) in ap p (sym same) ∙ e

-- and there is one alone
pub is_first : (p : ℕ → Bool) (n i r : ℕ) → i ≤ r → r ≤ i + n → ((k : ℕ) → i ≤ k → k < r → p k ≡ false) → (r < i + n → p r ≡ true) → r ≡ first_of p i n
unfolding first_of
is_first p zero i r low high not-before here = omega arith
is_first p (suc n) i r low high not-before here = go (eqb r i) refl (is_first p n (i + 1) r)
  where
    go : (x : Bool) → eqb r i ≡ x
        → (i + 1 ≤ r → r ≤ i + 1 + n → ((k : ℕ) → i + 1 ≤ k → k < r → p k ≡ false) → (r < i + 1 + n → p r ≡ true) → r ≡ first_of p (i + 1) n)
        → r ≡ cond (p i) i (first_of p (i + 1) n)
    go true e rest =
        let same : r ≡ i = eqb-true r i e in
        let yes-here : p i ≡ true = ap p (sym same) ∙ here (omega arith) in
        rw yes-here same
    go false e rest =
        let more : i < r = omega (arith, eqb-false r i e) in
        rw (not-before i (omega arith) more)
        (rest (omega arith) (omega arith) (λ k l m. not-before k (omega arith) m) (λ l. here (omega arith)))

-- all chunks under it have been gone through
pub first_found : (img : List ℕ) (b : View) (start n r : ℕ) → r ≤ start → FirstRepeat img b 0 start n r → r ≡ first_of (text_repeated img b) 0 n
first_found img b start n r past h =
    let most = h.most in
    is_first (text_repeated img b) n 0 r (omega arith) (omega arith)
    (λ k l m. among_none img b k k (λ j lj. h.apart k j m lj (omega arith) (omega arith)))
    (λ l. let g = h.again (omega arith) in among_some img b r r g.earlier g.before g.same)
