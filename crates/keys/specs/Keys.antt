-- The keys of a value to text block, and the first that cannot be one of a text to value block (request [7]: "Refusals, first met in index order ..
-- at one index 14, then 12, then 13"). Assumes nothing: these are definitions.
use Rattle.std.specs.Prelude.{◌≡◌, ℕ, zero, suc, ◌+◌, ◌*◌, ◌≤◌, ◌<◌, Bool, true, false, ◌||◌, cond, List, [], ◌∷◌, length, Float, Err, Ok, Result}
use Rattle.std.specs.Float.Ieee.{is_nan, eq}
use Rattle.words.specs.Words.{value_at}
use Rattle.blocks.specs.declared.view.View.{View}
use Rattle.common.specs.declared.refusal.Refusal.{Refusal}
use Rattle.common.specs.declared.refusal.Refusal.TheVariants.{NotText, Repeated, Key}
use Rattle.repeats.specs.Repeats.{text_at, text_repeated}

-- the keys are the block's values, in order; the text of the i-th is that of the i-th reference (`text_at`)
unfoldable pub key_at : List ℕ → View → ℕ → Float
key_at img b i = value_at img (b.firstval + 8 * i)

-- one of the first n keys is equal to the i-th: "As keys, 0 and -0 are equal"
unfoldable pub key_among : List ℕ → View → ℕ → ℕ → Bool
key_among img b i zero = false
key_among img b i (suc n) = key_among img b i n || eq (key_at img b n) (key_at img b i)

abbrev pub is_empty : List ℕ → Bool
is_empty [] = true
is_empty (x ∷ xs) = false

-- 14 for a NaN; 12 for a missing reference, one without text or one whose text is empty; 13 for a key or text equal to an earlier one
unfoldable pub fault_at : List ℕ → View → ℕ → Result (Unit {0}) Refusal
fault_at img b i =
    cond (is_nan (key_at img b i)) (Err (Key i))
    (cond (is_empty (text_at img b i)) (Err (NotText i))
    (cond (text_repeated img b i || key_among img b i i) (Err (Repeated i)) (Ok tt)))

abbrev pub or_later : Result (Unit {0}) Refusal → Result (Unit {0}) Refusal → Result (Unit {0}) Refusal
or_later (Err r) later = Err r
or_later (Ok tt) later = later

-- the first fault of n indexes from i on
unfoldable pub first_fault : List ℕ → View → ℕ → ℕ → Result (Unit {0}) Refusal
first_fault img b i zero = Ok tt
first_fault img b i (suc n) = or_later (fault_at img b i) (first_fault img b (i + 1) n)

-- ---- for inner contracts
-- 14 or 12, and which of them
unfoldable pub unusable : List ℕ → View → ℕ → Bool
unusable img b i = is_nan (key_at img b i) || is_empty (text_at img b i)

unfoldable pub why_unusable : List ℕ → View → ℕ → Refusal
why_unusable img b i = cond (is_nan (key_at img b i)) (Key i) (NotText i)

-- n keys lie in the image
abbrev pub KeysIn : List ℕ → View → ℕ → Type 0
KeysIn img b n = b.firstval + 8 * n ≤ length img

-- the first n keys are no NaNs
abbrev pub Numbers : List ℕ → View → ℕ → Type 0
Numbers img b n = (j : ℕ) → j < n → is_nan (key_at img b j) ≡ false

-- of what is answered at each index: no before r and, where r is under n, yes there
pub record FirstYes (answered : ℕ → Bool → Type 0) (n r : ℕ) : Type 0 where
  pub most : r ≤ n
  pub before : (i : ℕ) → i < r → answered i false
  pub here : r < n → answered r true
