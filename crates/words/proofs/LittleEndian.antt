-- A number's bytes as the library's `from_le_bytes` and `to_le_bytes` have them, and as `words/specs/Words.antt` does. Assumes nothing.
use mathlib.Core.Path.{◌≡◌}
use mathlib.Core.List.{List, [], ◌∷◌}
use Prim.Native.Nat.{ℕ, ◌+◌, ◌/◌, ◌%◌}
use native.Mathlib.Nat.{add_assoc}
use native.Mathlib.Omega.{arith}
use lib.ListN.{get_or}
use Rattle.std.specs.Int.{w16, w32, w64, from_le_bytes, to_le_bytes}
use Rattle.words.specs.Words.{word16, word32, word64, bytes4, bytes8}

pub word16_read : (s : List ℕ) (at : ℕ) → from_le_bytes w16 (get_or s at 0 ∷ get_or s (at + 1) 0 ∷ []) ≡ word16 s at
unfolding word16
word16_read s at = omega arith

pub word32_read : (s : List ℕ) (at : ℕ) → from_le_bytes w32 (get_or s at 0 ∷ get_or s (at + 1) 0 ∷ get_or s (at + 2) 0 ∷ get_or s (at + 3) 0 ∷ []) ≡ word32 s at
unfolding word32 word16
word32_read s at = simp add_assoc (omega arith)

pub word64_read : (s : List ℕ) (at : ℕ)
    → from_le_bytes w64 (get_or s at 0 ∷ get_or s (at + 1) 0 ∷ get_or s (at + 2) 0 ∷ get_or s (at + 3) 0 ∷ get_or s (at + 4) 0 ∷ get_or s (at + 5) 0 ∷ get_or s (at + 6) 0 ∷ get_or s (at + 7) 0 ∷ [])
    ≡ word64 s at
unfolding word64 word32 word16
word64_read s at = simp add_assoc (omega arith)

pub bytes4_made : (v : ℕ) → to_le_bytes w32 v ≡ bytes4 v
bytes4_made v =
    let a : v % 256 ≡ v % 65536 % 256 = omega arith in
    let b : v / 256 % 256 ≡ v % 65536 / 256 % 256 = omega arith in
    let c : v / 65536 % 256 ≡ v / 65536 % 256 = omega arith in
    let d : v / 16777216 % 256 ≡ v / 65536 / 256 % 256 = omega arith in
    cc

pub bytes8_made : (v : ℕ) → to_le_bytes w64 v ≡ bytes8 v
bytes8_made v =
    let a : v % 256 ≡ v % 4294967296 % 65536 % 256 = omega arith in
    let b : v / 256 % 256 ≡ v % 4294967296 % 65536 / 256 % 256 = omega arith in
    let c : v / 65536 % 256 ≡ v % 4294967296 / 65536 % 256 = omega arith in
    let d : v / 16777216 % 256 ≡ v % 4294967296 / 65536 / 256 % 256 = omega arith in
    let e : v / 4294967296 % 256 ≡ v / 4294967296 % 65536 % 256 = omega arith in
    let f : v / 1099511627776 % 256 ≡ v / 4294967296 % 65536 / 256 % 256 = omega arith in
    let g : v / 281474976710656 % 256 ≡ v / 4294967296 / 65536 % 256 = omega arith in
    let h : v / 72057594037927936 % 256 ≡ v / 4294967296 / 65536 / 256 % 256 = omega arith in
    cc
