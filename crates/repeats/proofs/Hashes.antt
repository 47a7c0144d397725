-- The hash of a text byte by byte, and a text whose hash is none of the chunk's. Assumes nothing.
use mathlib.Core.Path.{◌≡◌, refl, sym, ap, ◌∙◌}
use mathlib.Core.Bool.{Bool, true, false, ◌||◌}
use mathlib.Core.List.{List, ◌∷◌}
use Prim.Native.Nat.{ℕ, ◌+◌, ◌-◌, ◌*◌, ◌%◌, ◌≤◌, ◌<◌}
use native.Mathlib.Omega.{arith}
use native.Mathlib.Numerals.{add-one}
use borrow.Author.Count.{below_more}
use Rattle.std.proofs.Math.Nat.{mod-add-mod}
use Rattle.std.proofs.Common.{length-take}
use borrow.Author.Tests.{eq-eqb, ne_eqb}
use lib.Dec.{eqb}
use lib.ListN.{length, get_or, set, take, drop, drop_of_length-le}
use lib.Seq.{drop-cons, get_or-set_same, get_or-set_other, get_or-take}
use Rattle.words.proofs.Clash.{clash}
use Rattle.common.specs.Text.{until_zero}
use Rattle.blocks.specs.declared.view.View.{View}
use Rattle.repeats.specs.Repeats.{text_at}
use Rattle.repeats.proofs.Numbers.{number_is}
use Rattle.repeats.specs.Scan.{numbered, hash_from, hash_of, Hashed, NoneIs}

-- ---- the bytes from the i-th on
module _ (bytes : List ℕ) (h i : ℕ) where
  rest : i < length bytes → drop i bytes ≡ get_or bytes i 0 ∷ drop (i + 1) bytes
  rest l = drop-cons bytes i 0 l ∙ ap (λ (n : ℕ). get_or bytes i 0 ∷ drop n bytes) (sym (add-one i))

  pub hash_zero : i < length bytes → get_or bytes i 0 ≡ 0 → hash_from h (until_zero (drop i bytes)) ≡ h
  unfolding hash_from until_zero
  hash_zero l z = rw (rest l, z)

  pub hash_more : (byte : ℕ) → byte ≡ get_or bytes i 0 → i < length bytes → (get_or bytes i 0 ≡ 0 → ⊥)
      → hash_from h (until_zero (drop i bytes)) ≡ hash_from (((h * 16777619) % 4294967296 + byte) % 4294967296) (until_zero (drop (i + 1) bytes))
  unfolding hash_from until_zero
  hash_more byte e l z = rw (rest l, ne_eqb _ _ z, e, mod-add-mod (h * 16777619) 4294967296 (get_or bytes i 0))

  pub hash_none : length bytes ≤ i → hash_from h (until_zero (drop i bytes)) ≡ h
  unfolding hash_from until_zero
  hash_none l = rw (drop_of_length-le bytes l)

-- ---- one hash more
pub hashed_more : (img : List ℕ) (b : View) (start k h : ℕ) (hashes : List ℕ) → k < length hashes → Hashed img b start k hashes
    → h ≡ hash_of (text_at img b (start + k)) → Hashed img b start (k + 1) (set hashes k h)
hashed_more img b start k h hashes l old new =
    below_more
    (λ (j : ℕ). get_or (set hashes k h) j 0 ≡ hash_of (text_at img b (start + j)))
    k
    (λ j less. get_or-set_other hashes k j h 0 (λ e. omega (arith, e)) ∙ old j less)
    (get_or-set_same hashes k h 0 l ∙ new)

-- one hash more looked at
pub none_more : (hashes : List ℕ) (k h : ℕ) (found : Bool) → NoneIs hashes k h found → NoneIs hashes (k + 1) h (found || eqb (get_or hashes k 0) h)
none_more hashes k h true old e = clash cc
none_more hashes k h false old e =
    below_more (λ (j : ℕ). get_or hashes j 0 ≡ h → ⊥) k (old refl) (λ same. let t : eqb (get_or hashes k 0) h ≡ true = eq-eqb _ _ same in clash cc)

-- ---- a text whose hash is none of the chunk's is none of them
pub hash_tells : (img : List ℕ) (b : View) (start m h : ℕ) (q hashes : List ℕ) → h ≡ hash_of q → Hashed img b start (m - 1) hashes → m ≤ length hashes
    → ((k : ℕ) → k < length (take (m - 1) hashes) → get_or (take (m - 1) hashes) k 0 ≡ h → ⊥)
    → (k : ℕ) → k < m → 0 < k → q ≡ numbered img b start k → ⊥
hash_tells img b start m h q hashes is hashed inner none k less some same =
    let j = k - 1 in
    none j (rw (length-take (m - 1) hashes) (omega arith)) (
    get_or-take (m - 1) hashes j 0 (omega arith) ∙ hashed j (omega arith)
    ∙ ap hash_of (sym (number_is img b start k (start + j) some (omega arith)) ∙ sym same) ∙ sym is
    )
