-- Laws of `put`, and of reading numbers where they were put. Assumes nothing.
use mathlib.Core.Path.{◌≡◌, refl, sym, ap, ◌∙◌}
use mathlib.Core.List.{List, [], ◌∷◌, ◌++◌, map, append_assoc}
use Prim.Native.Nat.{ℕ, zero, suc, ◌+◌, ◌*◌, ◌/◌, ◌%◌, ◌^◌, ◌≤◌, ◌<◌}
use native.Mathlib.Nat.{add-zero, add_assoc}
use native.Mathlib.Numerals.{add-one}
use native.Mathlib.Omega.{arith}
use lib.ListN.{length, get_or, take, drop, set, length-set, length-map, length-take, length-drop, length-replicate, replicate-append-replicate}
use lib.Seq.{sets, sets-eq, get_or-append-add, drop-drop}
use borrow.Rule.Slice.PartMut.{put_mid}
use Rattle.std.proofs.lemmas.List.{take_more, map-append}
use Rattle.words.specs.Words.{word16, word32, word64, words, bytes2, bytes4, bytes8, put, links, zeros}

-- ---- put
-- first xs, then ys behind them
pub put_append : (xs ys out : List ℕ) (at : ℕ) → put out at (xs ++ ys) ≡ put (put out at xs) (at + length xs) ys
unfolding put
put_append [] ys out at = rw add-zero
put_append (x ∷ xs) ys out at =
    let place : (at + 1) + length xs ≡ at + suc (length xs) = omega arith in
    put_append xs ys (set out at x) (at + 1) ∙ ap (λ (k : ℕ). put (put (set out at x) (at + 1) xs) k ys) place

-- parts that were put one behind the other, two, four and five of them, are one
pub two_puts : (a b o₀ : List ℕ) (at : ℕ) {o₁ o₂ : List ℕ} → o₁ ≡ put o₀ at a → o₂ ≡ put o₁ (at + length a) b → o₂ ≡ put o₀ at (a ++ b)
two_puts a b o₀ at p q = q ∙ ap (λ (o : List ℕ). put o (at + length a) b) p ∙ sym (put_append a b o₀ at)

pub four_puts : (a b c d o₀ : List ℕ) (at : ℕ) {o₁ o₂ o₃ o₄ : List ℕ} → o₁ ≡ put o₀ at a → o₂ ≡ put o₁ (at + length a) b
    → o₃ ≡ put o₂ (at + length (a ++ b)) c → o₄ ≡ put o₃ (at + length (a ++ b ++ c)) d → o₄ ≡ put o₀ at (a ++ b ++ c ++ d)
four_puts a b c d o₀ at p q r s = two_puts (a ++ b ++ c) d o₀ at (two_puts (a ++ b) c o₀ at (two_puts a b o₀ at p q) r) s

pub five_puts : (a b c d e o₀ : List ℕ) (at : ℕ) {o₁ o₂ o₃ o₄ o₅ : List ℕ} → o₁ ≡ put o₀ at a → o₂ ≡ put o₁ (at + length a) b
    → o₃ ≡ put o₂ (at + length (a ++ b)) c → o₄ ≡ put o₃ (at + length (a ++ b ++ c)) d → o₅ ≡ put o₄ (at + length (a ++ b ++ c ++ d)) e
    → o₅ ≡ put o₀ at (a ++ b ++ c ++ d ++ e)
five_puts a b c d e o₀ at p q r s t = two_puts (a ++ b ++ c ++ d) e o₀ at (four_puts a b c d o₀ at p q r s) t

pub put_length : (bs out : List ℕ) (at : ℕ) → length (put out at bs) ≡ length out
unfolding put
put_length [] out at = refl
put_length (b ∷ bs) out at = put_length bs (set out at b) (at + 1) ∙ length-set out at b

put_sets : (bs out : List ℕ) (at : ℕ) → put out at bs ≡ sets out at bs
unfolding put
put_sets [] out at = refl
put_sets (b ∷ bs) out at = put_sets bs (set out at b) (at + 1) ∙ ap (λ (k : ℕ). sets (set out at b) k bs) (add-one at)

-- a part that was copied over
pub put_copied : (a k : ℕ) (out bs ys : List ℕ) → ys ≡ bs → length ys ≡ length (take k (drop a out)) → a + k ≤ length out → put_mid a k out ys ≡ put out a bs
put_copied a k out bs ys e l h =
    let size : length bs ≡ k = omega (arith, ap length e, l, length-take k (drop a out), length-drop a out) in
    ap (λ (zs : List ℕ). put_mid a k out zs) e
    ∙ ap (λ (zs : List ℕ). take a out ++ (bs ++ zs)) (drop-drop k a out)
    ∙ sym (append_assoc (take a out) bs (drop (a + k) out))
    ∙ ap (λ (n : ℕ). take a out ++ bs ++ drop (a + n) out) (sym size)
    ∙ sym (put_sets bs out a ∙ sets-eq bs out a (omega (arith, size, h)))

-- a zero that stands there
pub set_zero : (out : List ℕ) (i : ℕ) → get_or out i 0 ≡ 0 → set out i 0 ≡ out
set_zero [] i e = refl
set_zero (x ∷ xs) zero e = ap (λ (y : ℕ). y ∷ xs) (sym e)
set_zero (x ∷ xs) (suc i) e = ap (λ (ys : List ℕ). x ∷ ys) (set_zero xs i e)

-- k zero bytes more
pub zeros_more : (out : List ℕ) (at i k : ℕ) → put (put out at (zeros i)) (at + i) (zeros k) ≡ put out at (zeros (i + k))
zeros_more out at i k =
    ap (λ (n : ℕ). put (put out at (zeros i)) (at + n) (zeros k)) (sym (length-replicate i 0)) ∙ sym (put_append (zeros i) (zeros k) out at)
    ∙ ap (put out at) (replicate-append-replicate i k 0)

-- zeros that stand there: two of them, four, eight
zero16 : (out : List ℕ) (at : ℕ) → word16 out at ≡ 0 → put out at (zeros 2) ≡ out
unfolding word16 put
zero16 out at e =
    ap (λ (o : List ℕ). set o (at + 1) 0) (set_zero out at (omega (arith, e))) ∙ set_zero out (at + 1) (omega (arith, e))

zero32 : (out : List ℕ) (at : ℕ) → word32 out at ≡ 0 → put out at (zeros 4) ≡ out
unfolding word32
zero32 out at e =
    sym (zeros_more out at 2 2) ∙ ap (λ (o : List ℕ). put o (at + 2) (zeros 2)) (zero16 out at (omega (arith, e))) ∙ zero16 out (at + 2) (omega (arith, e))

pub zero64 : (out : List ℕ) (at : ℕ) → word64 out at ≡ 0 → put out at (zeros 8) ≡ out
unfolding word64
zero64 out at e =
    sym (zeros_more out at 4 4) ∙ ap (λ (o : List ℕ). put o (at + 4) (zeros 4)) (zero32 out at (omega (arith, e))) ∙ zero32 out (at + 4) (omega (arith, e))

-- put from byte 0: the bytes, and behind them the list as it was
pub put_front : (out bs : List ℕ) → length bs ≤ length out → put out 0 bs ≡ bs ++ drop (length bs) out
put_front out bs h =
    let e : 0 + length bs ≡ length bs = omega arith in
    put_sets bs out 0 ∙ sets-eq bs out 0 (omega arith) ∙ ap (λ (k : ℕ). bs ++ drop k out) e

-- ---- numbers that stand behind other bytes
pub word16_behind : (xs ys : List ℕ) (k : ℕ) → word16 (xs ++ ys) (length xs + k) ≡ word16 ys k
unfolding word16
word16_behind xs ys k = simp (get_or-append-add, add_assoc)

pub word32_behind : (xs ys : List ℕ) (k : ℕ) → word32 (xs ++ ys) (length xs + k) ≡ word32 ys k
unfolding word32
word32_behind xs ys k = simp (add_assoc, word16_behind)

pub word64_behind : (xs ys : List ℕ) (k : ℕ) → word64 (xs ++ ys) (length xs + k) ≡ word64 ys k
unfolding word64
word64_behind xs ys k = simp (add_assoc, word32_behind)

pub words_behind : (xs ys : List ℕ) (k n : ℕ) → words (xs ++ ys) (length xs + k) n ≡ words ys k n
unfolding words
words_behind xs ys k zero = refl
words_behind xs ys k (suc n) = rw (add_assoc, word64_behind, words_behind xs ys (k + 8) n)

-- ---- reading what was written
pub word16_bytes : (v : ℕ) (ys : List ℕ) → v < 65536 → word16 (bytes2 v ++ ys) 0 ≡ v
unfolding word16
word16_bytes v ys h = omega arith

pub word32_bytes : (v : ℕ) (ys : List ℕ) → v < 4294967296 → word32 (bytes4 v ++ ys) 0 ≡ v
unfolding word32 word16
word32_bytes v ys h = omega arith

pub word64_bytes : (v : ℕ) (ys : List ℕ) → v < 2 ^ 64 → word64 (bytes8 v ++ ys) 0 ≡ v
unfolding word64
word64_bytes v ys h =
    let low = v % 4294967296 in
    let high = v / 4294967296 in
    let a : word32 (bytes8 v ++ ys) 0 ≡ low = word32_bytes low (bytes4 high ++ ys) (omega arith) in
    let b : word32 (bytes8 v ++ ys) 4 ≡ high = word32_behind (bytes4 low) (bytes4 high ++ ys) 0 ∙ word32_bytes high ys (omega arith) in
    omega arith

pub length_links : (vs : List ℕ) → length (links vs) ≡ 8 * length vs
unfolding links
length_links [] = refl
length_links (v ∷ vs) = let e = length_links vs in omega arith

-- each number has 64 bits
abbrev pub Words64 : List ℕ → Type 0
Words64 [] = Unit {0}
Words64 (v ∷ vs) = (v < 2 ^ 64) × Words64 vs

pub words_links : (vs ys : List ℕ) → Words64 vs → words (links vs ++ ys) 0 (length vs) ≡ vs
unfolding words links
words_links [] ys h = refl
words_links (v ∷ vs) ys h =
    let rest : words (bytes8 v ++ (links vs ++ ys)) 8 (length vs) ≡ vs = words_behind (bytes8 v) (links vs ++ ys) 0 (length vs) ∙ words_links vs ys h.1 in
    ap (λ (w : ℕ). w ∷ words (bytes8 v ++ (links vs ++ ys)) 8 (length vs)) (word64_bytes v (links vs ++ ys) h.0) ∙ ap (λ (l : List ℕ). v ∷ l) rest

-- ---- numbers written one behind the other
links_append : (vs ws : List ℕ) → links (vs ++ ws) ≡ links vs ++ links ws
unfolding links
links_append [] ws = refl
links_append (v ∷ vs) ws = ap (λ (l : List ℕ). bytes8 v ++ l) (links_append vs ws) ∙ sym (append_assoc (bytes8 v) (links vs) (links ws))

-- one number more
pub put_one_more : (vs : List ℕ) (v : ℕ) (out : List ℕ) (at : ℕ) → put (put out at (links vs)) (at + 8 * length vs) (bytes8 v) ≡ put out at (links (vs ++ v ∷ []))
unfolding links
put_one_more vs v out at =
    ap (λ (n : ℕ). put (put out at (links vs)) (at + n) (bytes8 v)) (sym (length_links vs)) ∙ sym (put_append (links vs) (bytes8 v) out at)
    ∙ ap (put out at) (sym (links_append vs (v ∷ [])))

-- the same, where the numbers are what f makes of the elements of a list, and the next element is v
pub put_next : {A : Type 0} (f : A → ℕ) (vs : List A) (i : ℕ) (v : A) (out : List ℕ) (at : ℕ) → i < length vs → v ≡ get_or vs i v
    → put (put out at (links (map f (take i vs)))) (at + 8 * i) (bytes8 (f v)) ≡ put out at (links (map f (take (i + 1) vs)))
put_next {A = A} f vs i v out at h e =
    let size : length (map f (take i vs)) ≡ i = simp (length-map, length-take) (omega (arith, h)) in
    let more : map f (take (i + 1) vs) ≡ map f (take i vs) ++ f v ∷ [] =
    ap (map f) (take_more vs i v h) ∙ map-append f (take i vs) (get_or vs i v ∷ []) ∙ ap (λ (w : A). map f (take i vs) ++ f w ∷ []) (sym e) in
    ap (λ (n : ℕ). put (put out at (links (map f (take i vs)))) (at + 8 * n) (bytes8 (f v))) (sym size) ∙ put_one_more (map f (take i vs)) (f v) out at
    ∙ ap (λ (l : List ℕ). put out at (links l)) (sym more)
