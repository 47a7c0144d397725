-- The check after each test of the root, and its refusals by number; and demand 3: the visit limit is refused exactly when the walk would begin one visit too many before
-- it meets another fault. Assumes nothing.
use Rattle.std.specs.Prelude.{Err, Ok, Result}
use mathlib.Core.Path.{◌≡◌, refl, sym, ap, ◌∙◌}
use mathlib.Core.Bool.{Bool, true, false, cond}
use mathlib.Core.Logic.{◌⊎◌, inl, inr, ⊎_elim}
use mathlib.Core.List.{List}
use Prim.Native.Nat.{ℕ, ◌+◌, ◌-◌, ◌≤◌, ◌<◌}
use native.Mathlib.Omega.{arith}
use lib.Dec.{ltb}
use lib.ListN.{length, get_or}
use Rattle.words.proofs.Clash.{clash}
use Rattle.common.specs.Header.{inside, is_conversion}
use Rattle.common.specs.Refusal.{number_of}
use Rattle.common.specs.declared.refusal.Refusal.TheVariants.{Outside, NotConversion, Limit}
use Rattle.tree.specs.Walk.{End, complete, fault, few, short, deep, loop, trace, ended, answer, checked}
use Rattle.tree.proofs.Answers.{lt_or_le, over, under}
use Rattle.common.specs.declared.refusal.Refusal.{Refusal}

module _ (img : List ℕ) (a l : ℕ) where
  pub checked_outside : inside img a ≡ false → checked img a l ≡ Err (Outside a)
  unfolding checked
  checked_outside h = rw h

  pub checked_other : inside img a ≡ true → is_conversion img a ≡ false → checked img a l ≡ Err (NotConversion a)
  unfolding checked
  checked_other h k = rw (h, k)

  pub checked_walk : inside img a ≡ true → is_conversion img a ≡ true → checked img a l ≡ answer l 0 (trace img a)
  unfolding checked
  checked_walk h k = rw (h, k)

  -- what the root must be for the check to begin a walk
  pub record Rooted : Type 0 where
    pub header : inside img a ≡ true
    pub conversion : is_conversion img a ≡ true

  -- an answer that is neither 1 nor 2 is the walk's
  pub walked : (x : Result ℕ Refusal) → (Err (Outside a) ≡ x → ⊥) → (Err (NotConversion a) ≡ x → ⊥) → checked img a l ≡ x
      → Rooted × (answer l 0 (trace img a) ≡ x)
  unfolding checked
  walked x p q = go (inside img a) (is_conversion img a) refl refl
    where
      go : (y z : Bool) → inside img a ≡ y → is_conversion img a ≡ z
          → cond y (cond z (answer l 0 (trace img a)) (Err (NotConversion a))) (Err (Outside a)) ≡ x → Rooted × (answer l 0 (trace img a) ≡ x)
      go true true s t e = (record { header = s; conversion = t }, e)
      go true false s t e = absurd (q e)
      go false z s t e = absurd (p e)

-- ---- its refusals are 1 to 6 and 18
abbrev pub OfCheck : Result ℕ Refusal → Type 0
OfCheck (Ok n) = Unit {0}
OfCheck (Err r) = (number_of r ≤ 6) ⊎ (number_of r ≡ 18)

pub check_refuses : (img : List ℕ) (a l : ℕ) → OfCheck (checked img a l)
unfolding checked answer
check_refuses img a l = go (inside img a) (is_conversion img a) (ltb (l - 0) (length (trace img a).visits)) (trace img a).ending
  where
    ending : (n : ℕ) (e : End) → OfCheck (ended n e)
    ending n complete = tt
    ending n (fault (few x)) = inr refl
    ending n (fault (short x)) = inl (omega arith)
    ending n (fault (deep x)) = inl (omega arith)
    ending n (fault (loop x)) = inl (omega arith)

    go : (x y z : Bool) (e : End)
        → OfCheck
        (cond x
        (cond y (cond z (Err (Limit (get_or (trace img a).visits (l - 0) 0))) (ended (0 + length (trace img a).visits) e)) (Err (NotConversion a)))
        (Err (Outside a)))
    go true true true e = inl (omega arith)
    go true true false e = ending (0 + length (trace img a).visits) e
    go true false z e = inl (omega arith)
    go false y z e = inl (omega arith)

-- ---- the limit, exactly
-- a walk's own ending is no Limit
not_limit : (n x : ℕ) (e : End) → ended n e ≡ Err (Limit x) → ⊥
not_limit n x complete p = clash cc
not_limit n x (fault (few b)) p = clash cc
not_limit n x (fault (short b)) p = clash cc
not_limit n x (fault (deep b)) p = clash cc
not_limit n x (fault (loop b)) p = clash cc

module _ (img : List ℕ) (a l : ℕ) (root : Rooted img a l) where
  -- the trace is longer than the limit: 3 at the visit that would be one too many
  pub limit_comes : l < length (trace img a).visits → checked img a l ≡ Err (Limit (get_or (trace img a).visits l 0))
  limit_comes h =
      let e : l - 0 ≡ l = omega arith in
      checked_walk img a l root.header root.conversion
      ∙ over l 0 (trace img a) (omega arith)
      ∙ ap (λ (k : ℕ). Err (Limit (get_or (trace img a).visits k 0))) e

  -- else the trace's own ending
  pub ending_comes : length (trace img a).visits ≤ l → checked img a l ≡ ended (length (trace img a).visits) (trace img a).ending
  ending_comes h =
      let e : 0 + length (trace img a).visits ≡ length (trace img a).visits = omega arith in
      checked_walk img a l root.header root.conversion
      ∙ under l 0 (trace img a) (omega arith)
      ∙ ap (λ (n : ℕ). ended n (trace img a).ending) e

-- and only then: an answer 3 says that the trace is longer than the limit, and names that visit
pub limit_only : (img : List ℕ) (a l x : ℕ) → checked img a l ≡ Err (Limit x)
    → (l < length (trace img a).visits) × (x ≡ get_or (trace img a).visits l 0)
limit_only img a l x p =
    let w = walked img a l (Err (Limit x)) (λ q. clash cc) (λ q. clash cc) p in
    ⊎_elim
    (λ lt.
    let q : Err (Limit (get_or (trace img a).visits l 0)) ≡ Err (Limit x) = sym (limit_comes img a l w.0 lt) ∙ p in
    let same : x ≡ get_or (trace img a).visits l 0 = cc in
    (lt, same))
    (λ le. absurd (not_limit _ x (trace img a).ending (sym (ending_comes img a l w.0 le) ∙ p)))
    (lt_or_le l (length (trace img a).visits))
