-- What the tests of a header tell, and a header that was written. Assumes nothing.
use mathlib.Core.Path.{◌≡◌}
use mathlib.Core.Bool.{true, false, cond}
use mathlib.Core.List.{List, [], ◌++◌}
use Prim.Native.Nat.{ℕ, ◌+◌, ◌^◌, ◌≤◌, ◌<◌}
use native.Mathlib.Nat.{add-zero}
use borrow.Author.Tests.{leb-true}
use lib.ListN.{length, drop}
use Rattle.words.specs.Words.{word16, word32, word64}
use Rattle.words.proofs.Laws.{word32_bytes, word64_bytes}
use Rattle.words.proofs.Slices.{word32_drop, word64_drop}
use Rattle.common.specs.Header.{header_at, header_bytes, inside, is_conversion}

pub inside_fits : (img : List ℕ) (a : ℕ) → inside img a ≡ true → a + 24 ≤ length img
unfolding inside
inside_fits img a h = leb-true _ _ h

-- what is chosen by the two tests of a header, after each of their answers
module _ {A : Type 0} (img : List ℕ) (a : ℕ) (x y z : A) where
  abbrev chosen : A
  chosen = cond (inside img a) (cond (is_conversion img a) x y) z

  pub of_outside : inside img a ≡ false → chosen ≡ z
  of_outside h = rw h

  pub of_other : inside img a ≡ true → is_conversion img a ≡ false → chosen ≡ y
  of_other h k = rw (h, k)

  pub of_conversion : inside img a ≡ true → is_conversion img a ≡ true → chosen ≡ x
  of_conversion h k = rw (h, k)

-- ---- a header that was written reads as it was written, wherever it stands
pub header_drop : (s : List ℕ) (p : ℕ) → header_at (drop p s) 0 ≡ header_at s p
unfolding header_at
header_drop s p = simp (word32_drop, word64_drop, add-zero)

-- a number's law may leave out what follows it, which is not read
pub header_bytes_lem : (id reserved size count : ℕ) (rest : List ℕ) → id < 2 ^ 32 → reserved < 2 ^ 32 → size < 2 ^ 64 → count < 2 ^ 64
    → header_at (header_bytes id reserved size count ++ rest) 0 ≡ record { id = id; reserved = reserved; length = size; links = count }
unfolding header_at header_bytes word64 word32 word16
header_bytes_lem id reserved size count rest f g h k =
    let all = header_bytes id reserved size count ++ rest in
    let zeroth : word32 all 0 ≡ id = word32_bytes id [] f in
    let first : word32 all 4 ≡ reserved = word32_bytes reserved [] g in
    let second : word64 all 8 ≡ size = word64_bytes size [] h in
    let third : word64 all 16 ≡ count = word64_bytes count [] k in
    cc
