-- Laws of numbers read from a list of bytes: their own bytes are the bytes they were read from, and each has its width. Assumes nothing.
use mathlib.Core.Path.{◌≡◌, refl, ap, ◌∙◌}
use mathlib.Core.List.{List, [], ◌∷◌, ◌++◌}
use Prim.Native.Nat.{ℕ, zero, suc, ◌+◌, ◌*◌, ◌/◌, ◌%◌, ◌^◌, ◌≤◌, ◌<◌}
use native.Mathlib.Nat.{add_assoc, mod-eq_of_lt, div-eq_of_lt, add-mul-mod_self_right, add-mul-div_right}
use native.Mathlib.Numerals.{add-one}
use native.Mathlib.Omega.{arith}
use lib.ListN.{length, get_or, take, drop, set}
use lib.Seq.{drop-cons, drop-drop, drop-append_seam, get_or-drop, take-add, take-suc-set}
use Rattle.words.specs.Words.{word16, word32, word64, words, bytes2, bytes4, bytes8, links}
use Rattle.words.proofs.Laws.{Words64}

-- each element is a byte
abbrev pub Bytes : List ℕ → Type 0
Bytes s = (k : ℕ) → get_or s k 0 < 256

-- two slices, one behind the other, are one
pub slice_join : (s : List ℕ) (a m n : ℕ) → take m (drop a s) ++ take n (drop (a + m) s) ≡ take (m + n) (drop a s)
slice_join s a m n = rw (take-add, drop-drop)

-- the same where each slice is known under another name
pub join : (s : List ℕ) (a m n : ℕ) {xs ys : List ℕ} → xs ≡ take m (drop a s) → ys ≡ take n (drop (a + m) s) → xs ++ ys ≡ take (m + n) (drop a s)
join s a m n e f = rw (e, f) (slice_join s a m n)

-- what follows a part
pub next : (s xs ys : List ℕ) (p q : ℕ) → drop p s ≡ xs ++ ys → p + length xs ≡ q → drop q s ≡ ys
next s xs ys p q e f = cc (drop-drop (length xs) p s, drop-append_seam xs ys)

-- a slice of two bytes
pub two_bytes : (s : List ℕ) (at : ℕ) → at + 2 ≤ length s → get_or s at 0 ∷ get_or s (at + 1) 0 ∷ [] ≡ take 2 (drop at s)
two_bytes s at fits = rw (add-one, drop-cons s at 0 (omega arith), drop-cons s (suc at) 0 (omega arith))

-- ---- numbers in what is left of the list from p on
module _ (s : List ℕ) (p : ℕ) where
  pub word16_drop : (k : ℕ) → word16 (drop p s) k ≡ word16 s (p + k)
  unfolding word16
  word16_drop k = simp (get_or-drop, add_assoc)

  pub word32_drop : (k : ℕ) → word32 (drop p s) k ≡ word32 s (p + k)
  unfolding word32
  word32_drop k = simp (word16_drop, add_assoc)

  pub word64_drop : (k : ℕ) → word64 (drop p s) k ≡ word64 s (p + k)
  unfolding word64
  word64_drop k = simp (word32_drop, add_assoc)

  pub words_drop : (k n : ℕ) → words (drop p s) k n ≡ words s (p + k) n
  unfolding words
  words_drop k zero = refl
  words_drop k (suc n) = simp (word64_drop, words_drop (k + 8) n, add_assoc)

pub length_words : (s : List ℕ) (at n : ℕ) → length (words s at n) ≡ n
unfolding words
length_words s at zero = refl
length_words s at (suc n) = ap suc (length_words s (at + 8) n)

-- one number more
pub words_last : (s : List ℕ) (at n : ℕ) → words s at (suc n) ≡ words s at n ++ word64 s (at + 8 * n) ∷ []
unfolding words
words_last s at zero = let e : at ≡ at + 8 * 0 = omega arith in ap (λ (p : ℕ). word64 s p ∷ []) e
words_last s at (suc n) =
    let e : at + 8 + 8 * n ≡ at + 8 * suc n = omega arith in
    ap (λ (ws : List ℕ). word64 s at ∷ ws) (words_last s (at + 8) n ∙ ap (λ (p : ℕ). words s (at + 8) n ++ (word64 s p ∷ [])) e)

-- words read one by one into a list of numbers: the next is stored behind those that were
pub gathered : (s : List ℕ) (first i w : ℕ) (into : List ℕ) → i < length into → take i into ≡ words s first i → w ≡ word64 s (first + 8 * i)
    → take (i + 1) (set into i w) ≡ words s first (i + 1)
gathered s first i w into h e f =
    rw (add-one, take-suc-set into i w h, words_last s first i, e, f)

module _ (s : List ℕ) (h : Bytes s) where
  -- ---- each number has its width
  pub word16_small : (at : ℕ) → word16 s at < 65536
  unfolding word16
  word16_small at = omega (arith, h at, h (at + 1))

  pub word32_small : (at : ℕ) → word32 s at < 4294967296
  unfolding word32
  word32_small at = omega (arith, word16_small at, word16_small (at + 2))

  pub word64_small : (at : ℕ) → word64 s at < 2 ^ 64
  unfolding word64
  word64_small at = omega (arith, word32_small at, word32_small (at + 4))

  pub words_small : (at n : ℕ) → Words64 (words s at n)
  unfolding words
  words_small at zero = tt
  words_small at (suc n) = (word64_small at, words_small (at + 8) n)

  -- ---- and its bytes are those of the list
  pub bytes2_word16 : (at : ℕ) → at + 2 ≤ length s → bytes2 (word16 s at) ≡ take 2 (drop at s)
  unfolding word16
  bytes2_word16 at fits =
      let low : word16 s at % 256 ≡ get_or s at 0 = omega (arith, h at) in
      let high : word16 s at / 256 ≡ get_or s (at + 1) 0 = omega (arith, h at) in
      cc (mod-eq_of_lt (h (at + 1)), two_bytes s at fits)

  -- a number of two halves: f makes the bytes of a half, of which there are k, and a half is below m
  halves : (f : ℕ → List ℕ) (m k at x y : ℕ) → x < m → f x ≡ take k (drop at s) → f y ≡ take k (drop (at + k) s)
      → f ((x + y * m) % m) ++ f ((x + y * m) / m) ≡ take (k + k) (drop at s)
  halves f m k at x y small low high =
      let left : (x + y * m) % m ≡ x = add-mul-mod_self_right x y m ∙ mod-eq_of_lt small in
      let right : (x + y * m) / m ≡ y = add-mul-div_right x y (omega arith) ∙ ap (λ (q : ℕ). q + y) (div-eq_of_lt small) ∙ omega arith in
      join s at k k (ap f left ∙ low) (ap f right ∙ high)

  pub bytes4_word32 : (at : ℕ) → at + 4 ≤ length s → bytes4 (word32 s at) ≡ take 4 (drop at s)
  unfolding word32
  bytes4_word32 at fits =
      halves bytes2 65536 2 at (word16 s at) (word16 s (at + 2)) (word16_small at) (bytes2_word16 at (omega arith)) (bytes2_word16 (at + 2) (omega arith))

  pub bytes8_word64 : (at : ℕ) → at + 8 ≤ length s → bytes8 (word64 s at) ≡ take 8 (drop at s)
  unfolding word64
  bytes8_word64 at fits =
      halves bytes4 4294967296 4 at (word32 s at) (word32 s (at + 4)) (word32_small at) (bytes4_word32 at (omega arith)) (bytes4_word32 (at + 4) (omega arith))

  pub links_words : (at n : ℕ) → at + 8 * n ≤ length s → links (words s at n) ≡ take (8 * n) (drop at s)
  unfolding words links
  links_words at zero fits = refl
  links_words at (suc n) fits =
      let size : 8 + 8 * n ≡ 8 * suc n = omega arith in
      join s at 8 (8 * n) (bytes8_word64 at (omega arith)) (links_words (at + 8) n (omega arith)) ∙ ap (λ (k : ℕ). take k (drop at s)) size
