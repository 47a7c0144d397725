-- The keys one by one, and the first fault from the three searches. Assumes nothing.
use Rattle.std.specs.Prelude.{Err, Ok, Option, Result}
use mathlib.Core.Path.{◌≡◌, refl, sym, ap, subst, ◌∙◌}
use mathlib.Core.Bool.{Bool, true, false, ◌||◌, cond}
use mathlib.Core.List.{List}
use Prim.Native.Nat.{ℕ, zero, suc, ◌+◌, ◌≤◌, ◌<◌}
use native.Mathlib.Numerals.{add-one}
use native.Mathlib.Omega.{arith}
use borrow.Author.Tests.{ltb-true, ltb-false, eqb-true, eqb-false}
use lib.Dec.{ltb, eqb}
use lib.ListN.{length, get_or}
use lib.Ieee.{Float, is_nan, eq}
use Rattle.words.proofs.Clash.{clash}
use Rattle.common.specs.Text.{text_bytes}
use Rattle.common.specs.declared.refusal.Refusal.{Refusal}
use Rattle.common.specs.declared.refusal.Refusal.TheVariants.{NotText, Repeated, Key}
use Rattle.common.proofs.Texts.{bytes_zero, bytes_more, bytes_none}
use Rattle.blocks.specs.Place.{word_in}
use Rattle.blocks.specs.View.{reference_in}
use Rattle.blocks.proofs.Places.{word_past_count}
use Rattle.blocks.specs.declared.view.View.{View}
use Rattle.leads.specs.Lead.{lead_at, by_link}
use Rattle.repeats.specs.Repeats.{lead_text, text_at, text_repeated, first_of}
use Rattle.keys.specs.Keys.{key_at, key_among, is_empty, fault_at, or_later, first_fault, unusable, why_unusable, Numbers, FirstYes}
use Rattle.repeats.proofs.Firsts.{IsFirst, first_is, is_first}

-- ---- a text that runs in the image is empty where its run is, or begins with a zero byte
module _ (img : List ℕ) (from to : ℕ) (inner : to ≤ length img) where
  pub empty_run : to ≤ from → is_empty (text_bytes img from to) ≡ true
  empty_run h = ap is_empty (bytes_none img from to h)

  empty_zero : from < to → get_or img from 0 ≡ 0 → is_empty (text_bytes img from to) ≡ true
  empty_zero h z = ap is_empty (bytes_zero img from to h inner z)

  not_empty : from < to → (get_or img from 0 ≡ 0 → ⊥) → is_empty (text_bytes img from to) ≡ false
  not_empty h z = ap is_empty (bytes_more img from to h inner z)

  -- the first byte tells
  pub first_byte_tells : from < to → eqb (get_or img from 0) 0 ≡ is_empty (text_bytes img from to)
  first_byte_tells h = go (eqb (get_or img from 0) 0) refl
    where
      go : (b : Bool) → eqb (get_or img from 0) 0 ≡ b → b ≡ is_empty (text_bytes img from to)
      go true t = sym (empty_zero h (eqb-true (get_or img from 0) 0 t))
      go false t = sym (not_empty h (eqb-false (get_or img from 0) 0 t))

or_true : (a : Bool) → (a || true) ≡ true
or_true true = refl
or_true false = refl

-- ---- one key more
pub among_more : (img : List ℕ) (b : View) (i j : ℕ) {found : Bool} {x y : Float} → found ≡ key_among img b i j → x ≡ key_at img b j → y ≡ key_at img b i
    → (found || eq x y) ≡ key_among img b i (j + 1)
unfolding key_among
among_more img b i j e f g = rw (e, f, g, add-one j)

-- ---- what is wrong at an index
module _ (img : List ℕ) (b : View) (j : ℕ) where
  abbrev pub chosen : Bool → Bool → Bool → Result Unit Refusal
  chosen isnan none again = cond isnan (Err (Key j)) (cond none (Err (NotText j)) (cond again (Err (Repeated j)) (Ok tt)))

  sound_at : unusable img b j ≡ false → (text_repeated img b j || key_among img b j j) ≡ false → fault_at img b j ≡ (Ok tt)
  unfolding fault_at unusable
  sound_at = go (is_nan (key_at img b j)) (is_empty (text_at img b j)) (text_repeated img b j || key_among img b j j)
    where
      go : (x y z : Bool) → (x || y) ≡ false → z ≡ false → chosen x y z ≡ (Ok tt)
      go false false false h k = refl
      go false false true h k = clash cc
      go false true z h k = clash cc
      go true y z h k = clash cc

  repeated_at : unusable img b j ≡ false → (text_repeated img b j || key_among img b j j) ≡ true → fault_at img b j ≡ Err (Repeated j)
  unfolding fault_at unusable
  repeated_at = go (is_nan (key_at img b j)) (is_empty (text_at img b j)) (text_repeated img b j || key_among img b j j)
    where
      go : (x y z : Bool) → (x || y) ≡ false → z ≡ true → chosen x y z ≡ Err (Repeated j)
      go false false true h k = refl
      go false false false h k = clash cc
      go false true z h k = clash cc
      go true y z h k = clash cc

  unusable_at : unusable img b j ≡ true → fault_at img b j ≡ Err (why_unusable img b j)
  unfolding fault_at unusable why_unusable
  unusable_at = go (is_nan (key_at img b j)) (is_empty (text_at img b j)) (text_repeated img b j || key_among img b j j)
    where
      go : (x y z : Bool) → (x || y) ≡ true → chosen x y z ≡ Err (cond x (Key j) (NotText j))
      go true y z h = refl
      go false true z h = refl
      go false false z h = clash cc

-- ---- the first fault
module _ (img : List ℕ) (b : View) where
  fault_first : (i n e : ℕ) → i ≤ e → e < i + n → ((j : ℕ) → i ≤ j → j < e → fault_at img b j ≡ (Ok tt)) → (r : Refusal)
      → fault_at img b e ≡ Err r → first_fault img b i n ≡ Err r
  unfolding first_fault
  fault_first i zero e h k s r g = absurd (omega (arith, h, k))
  fault_first i (suc n) e h k s r g =
      go (ltb i e) refl (λ q. fault_first (i + 1) n e q (omega (arith, k)) (λ j a c. s j (omega (arith, a)) c) r g)
    where
      go : (c : Bool) → ltb i e ≡ c → (i + 1 ≤ e → first_fault img b (i + 1) n ≡ Err r)
          → or_later (fault_at img b i) (first_fault img b (i + 1) n) ≡ Err r
      go true t later =
          let less = ltb-true i e t in
          ap (λ (x : Result Unit Refusal). or_later x (first_fault img b (i + 1) n)) (s i (omega arith) less) ∙ later (omega (arith, less))
      go false t later =
          let same : e ≡ i = omega (arith, ltb-false i e t, h) in
          ap (λ (x : Result Unit Refusal). or_later x (first_fault img b (i + 1) n)) (ap (fault_at img b) (sym same) ∙ g)

  none_faulty : (i n : ℕ) → ((j : ℕ) → i ≤ j → j < i + n → fault_at img b j ≡ (Ok tt)) → first_fault img b i n ≡ (Ok tt)
  unfolding first_fault
  none_faulty i zero s = refl
  none_faulty i (suc n) s =
      ap (λ (x : Result Unit Refusal). or_later x (first_fault img b (i + 1) n)) (s i (omega arith) (omega arith))
      ∙ none_faulty (i + 1) n (λ j h k. s j (omega (arith, h)) (omega (arith, k)))

  -- the three searches: for a key that cannot be used, before it for a repeated text, and before that for a repeated key
  module _ (n u d e : ℕ) (us : u ≡ first_of (unusable img b) 0 n) (ds : d ≡ first_of (text_repeated img b) 0 u)
      (es : e ≡ first_of (λ i. key_among img b i i) 0 d) where
    usable : IsFirst (unusable img b) 0 n u
    usable = subst (IsFirst (unusable img b) 0 n) (sym us) (first_is (unusable img b) 0 n)

    unlike : IsFirst (text_repeated img b) 0 u d
    unlike = subst (IsFirst (text_repeated img b) 0 u) (sym ds) (first_is (text_repeated img b) 0 u)

    keyed : IsFirst (λ i. key_among img b i i) 0 d e
    keyed = subst (IsFirst (λ i. key_among img b i i) 0 d) (sym es) (first_is (λ i. key_among img b i i) 0 d)

    pub fault_places : (e ≤ d) × (d ≤ u) × (u ≤ n)
    fault_places = (omega (arith, keyed.to), omega (arith, unlike.to), omega (arith, usable.to))

    sound_before : (j : ℕ) → 0 ≤ j → j < e → fault_at img b j ≡ (Ok tt)
    sound_before j h k =
        let text : text_repeated img b j ≡ false = unlike.before j h (omega (arith, k, fault_places.0)) in
        let key : key_among img b j j ≡ false = keyed.before j h k in
        sound_at img b j (usable.before j h (omega (arith, k, fault_places.0, fault_places.1))) (rw (text, key))

    -- the first repeat lies before the first that cannot be used
    pub fault_repeated : e < u → first_fault img b 0 n ≡ Err (Repeated e)
    fault_repeated less =
        fault_first 0 n e (omega arith) (omega (arith, less, fault_places.2)) sound_before (Repeated e)
        (repeated_at img b e (usable.before e (omega arith) less) (go (ltb e d) refl))
      where
        go : (c : Bool) → ltb e d ≡ c → (text_repeated img b e || key_among img b e e) ≡ true
        go true t = rw (keyed.here (omega (arith, ltb-true e d t))) (or_true (text_repeated img b e))
        go false t =
            let same : d ≡ e = omega (arith, ltb-false e d t, fault_places.0) in
            let text : text_repeated img b d ≡ true = unlike.here (omega (arith, same, less)) in
            rw (ap (text_repeated img b) (sym same) ∙ text)

    pub fault_unusable : u ≤ e → u < n → first_fault img b 0 n ≡ Err (why_unusable img b u)
    fault_unusable least less =
        fault_first 0 n u (omega arith) (omega (arith, less)) (λ j h k. sound_before j h (omega (arith, k, least))) (why_unusable img b u)
        (unusable_at img b u (usable.here (omega (arith, less))))

    pub faultless : u ≤ e → n ≤ u → first_fault img b 0 n ≡ (Ok tt)
    faultless least all = none_faulty 0 n (λ j h k. sound_before j h (omega (arith, k, least, all)))

-- what a search tells
pub found_first : (answered : ℕ → Bool → Type 0) (p : ℕ → Bool) (n r : ℕ) → ((i : ℕ) (x : Bool) → i < n → answered i x → x ≡ p i) → FirstYes answered n r
    → r ≡ first_of p 0 n
found_first answered p n r told found =
    let most = found.most in
    is_first p n 0 r (omega arith) (omega arith)
    (λ i l less. sym (told i false (omega arith) (found.before i less)))
    (λ less. sym (told r true (omega arith) (found.here (omega arith))))

-- keys that can be used are no NaNs
pub usable_numbers : (img : List ℕ) (b : View) (n u : ℕ) → u ≡ first_of (unusable img b) 0 n → (d : ℕ) → d ≤ u → Numbers img b d
unfolding unusable
usable_numbers img b n u us d h j l =
    let first = subst (IsFirst (unusable img b) 0 n) (sym us) (first_is (unusable img b) 0 n) in
    go (is_nan (key_at img b j)) (is_empty (text_at img b j)) (first.before j (omega arith) (omega (arith, h, l)))
  where
    go : (x y : Bool) → (x || y) ≡ false → x ≡ false
    go false y e = refl
    go true y e = clash cc

-- the first of n is at most n
pub first_within : (p : ℕ → Bool) (n e : ℕ) → e ≡ first_of p 0 n → e ≤ n
first_within p n e h = omega (arith, h, (first_is p 0 n).to)

-- ---- of keys without a fault
module _ (img : List ℕ) (b : View) where
  pub all_sound : (i n : ℕ) → first_fault img b i n ≡ (Ok tt) → (j : ℕ) → i ≤ j → j < i + n → fault_at img b j ≡ (Ok tt)
  unfolding first_fault
  all_sound i zero e j h k = absurd (omega (arith, h, k))
  all_sound i (suc n) e j h k = go (fault_at img b i) refl (ltb i j) refl e (λ q p. all_sound (i + 1) n q j p (omega (arith, k)))
    where
      go : (f : Result Unit Refusal) → fault_at img b i ≡ f → (c : Bool) → ltb i j ≡ c → or_later f (first_fault img b (i + 1) n) ≡ (Ok tt)
          → (first_fault img b (i + 1) n ≡ (Ok tt) → i + 1 ≤ j → fault_at img b j ≡ (Ok tt)) → fault_at img b j ≡ (Ok tt)
      go (Err r) t c u q rest = clash cc
      go (Ok tt) t true u q rest = rest q (omega (arith, ltb-true i j u))
      go (Ok tt) t false u q rest = let same : i ≡ j = omega (arith, ltb-false i j u, h) in ap (fault_at img b) (sym same) ∙ t

  -- what a sound key is
  pub record IsSound (j : ℕ) : Type 0 where
    pub number : is_nan (key_at img b j) ≡ false
    pub texted : is_empty (text_at img b j) ≡ false
    pub unlike : text_repeated img b j ≡ false

  pub sound_is : (j : ℕ) → fault_at img b j ≡ (Ok tt) → IsSound j
  unfolding fault_at
  sound_is j = go (is_nan (key_at img b j)) (is_empty (text_at img b j)) (text_repeated img b j) (key_among img b j j) refl refl refl
    where
      go : (x y z w : Bool) → is_nan (key_at img b j) ≡ x → is_empty (text_at img b j) ≡ y → text_repeated img b j ≡ z → chosen img b j x y (z || w) ≡ (Ok tt) → IsSound j
      go false false false w p q r e = record { number = p; texted = q; unlike = r }
      go false false true w p q r e = clash cc
      go false true z w p q r e = clash cc
      go true y z w p q r e = clash cc

  -- a text is there only where its reference is
  pub text_there : (j : ℕ) → is_empty (text_at img b j) ≡ false → j < b.refs
  unfolding text_at lead_at reference_in
  text_there j h = go (ltb j b.refs) refl
    where
      go : (c : Bool) → ltb j b.refs ≡ c → j < b.refs
      go true t = ltb-true j b.refs t
      go false t =
          let none : is_empty (lead_text img (by_link img (word_in img b.firstref b.refs j))) ≡ true =
          ap (λ (w : Option ℕ). is_empty (lead_text img (by_link img w))) (word_past_count img b.firstref b.refs j (ltb-false j b.refs t)) in
          clash cc

  pub references_enough : (n : ℕ) → first_fault img b 0 n ≡ (Ok tt) → n ≤ b.refs
  references_enough zero e = omega arith
  references_enough (suc n) e = text_there n (sound_is n (all_sound 0 (suc n) e n (omega arith) (omega arith))).texted
