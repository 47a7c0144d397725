-- How long a text block is, what the writer answers after each test, and that what was written is read as the same text. One proof serves both ids.
-- Assumes nothing.
use Rattle.std.specs.Prelude.{Err, Ok, Option, Result, Some}
use mathlib.Core.Path.{◌≡◌, refl, sym, ap, ◌∙◌}
use mathlib.Core.Bool.{Bool, true, false, cond, ◌||◌}
use mathlib.Core.List.{List, [], ◌∷◌, ◌++◌, append_assoc}
use Prim.Native.Nat.{ℕ, zero, suc, ◌+◌, ◌-◌, ◌%◌, ◌^◌, ◌≤◌, ◌<◌}
use native.Mathlib.Numerals.{add-one}
use native.Mathlib.Omega.{arith}
use borrow.Author.Tests.{le-leb, eq-eqb}
use lib.Dec.{eqb}
use lib.ListN.{length, get_or, take, drop, length-append, length-replicate}
use lib.Seq.{drop-cons, drop-append_seam}
use Rattle.words.specs.Words.{word32, word64, put, zeros}
use Rattle.words.proofs.Clash.{clash}
use Rattle.words.proofs.Laws.{two_puts}
use Rattle.words.proofs.Slices.{next}
use Rattle.common.specs.Header.{header_at, header_bytes, inside, has_id}
use Rattle.common.proofs.Headers.{header_drop, header_bytes_lem}
use Rattle.common.specs.Text.{until_zero, run_at, text_bytes, cut_off, text_of, shown}
use Rattle.common.proofs.Texts.{run_whole, text_shown}
use Rattle.common.specs.Written.{WriteCall, write_call, holding}
use Rattle.common.proofs.Holding.{Held, held}
use Rattle.common.specs.declared.header.Header.{Header}
use Rattle.common.specs.declared.refusal.Refusal.TheVariants.{ZeroByte}
use Rattle.texts.specs.Read.{id_word, found_at, link_text, read_as, reading}
use Rattle.texts.specs.Write.{holds_zero, up_to_eight, block_size, text_block, writing_text}
use Rattle.texts.specs.declared.read.TextId.{TextId}
use Rattle.texts.specs.declared.read.TextId.TheVariants.{Tx, Md}
use Rattle.texts.proofs.Reading.{text_read, read_inside, read_as_id, as_linked}
use Rattle.common.specs.declared.refusal.Refusal.{Refusal}
use Rattle.common.specs.declared.text.Span.{Span}

-- ---- the length
-- one to eight zeros stand behind the text: the zero byte, and those up to a multiple of 8
pub size_is : (n : ℕ) → block_size n ≡ 24 + n + (8 - n % 8)
unfolding block_size
size_is n = omega arith

pub size_multiple : (n : ℕ) → block_size n % 8 ≡ 0
unfolding block_size
size_multiple n = omega arith

pub size_least : (n : ℕ) → 24 + n + 1 ≤ block_size n
unfolding block_size
size_least n = omega arith

pub size_most : (n : ℕ) → block_size n ≤ n + 32
unfolding block_size
size_most n = omega arith

pub length_text_block : (id : TextId) (text : List ℕ) → length (text_block id text) ≡ block_size (length text)
unfolding text_block block_size header_bytes
length_text_block id text =
    let n = length text in
    let k = up_to_eight (24 + n + 1) in
    let head = header_bytes (id_word id) 0 (block_size n) 0 in
    let none : ℕ = 0 in
    omega (
      arith,
      length-append head text,
      length-append (head ++ text) (0 ∷ []),
      length-append (head ++ text ++ (0 ∷ [])) (zeros k),
      length-replicate k none,
    )

-- ---- zero bytes
-- looked at one after the other: what was found before the byte at i, that byte, and those behind it
pub zero_found : (text : List ℕ) (i : ℕ) (found : Bool) → i < length text
    → (found || holds_zero (drop i text)) ≡ ((found || eqb (get_or text i 0) 0) || holds_zero (drop (i + 1) text))
unfolding holds_zero
zero_found text i found less =
    ap (λ (bs : List ℕ). found || holds_zero bs) (drop-cons text i 0 less)
    ∙ ap (λ (k : ℕ). found || (eqb (get_or text i 0) 0 || holds_zero (drop k text))) (sym (add-one i))
    ∙ go found
  where
    go : (x : Bool) → (x || (eqb (get_or text i 0) 0 || holds_zero (drop (i + 1) text))) ≡ ((x || eqb (get_or text i 0) 0) || holds_zero (drop (i + 1) text))
    go true = refl
    go false = refl

-- a text without a zero byte ends at the zero behind it
until_text : (text rest : List ℕ) (m : ℕ) → length text < m → holds_zero text ≡ false → until_zero (take m (text ++ (0 ∷ rest))) ≡ text
unfolding until_zero holds_zero
until_text text rest zero few clean = absurd (omega arith)
until_text [] rest (suc m) few clean = refl
until_text (b ∷ bs) rest (suc m) few clean = go (eqb b 0) clean (until_text bs rest m (omega arith))
  where
    go : (z : Bool) → (z || holds_zero bs) ≡ false → (holds_zero bs ≡ false → until_zero (take m (bs ++ (0 ∷ rest))) ≡ bs)
        → cond z [] (b ∷ until_zero (take m (bs ++ (0 ∷ rest)))) ≡ b ∷ bs
    go true h r = clash cc
    go false h r = ap (λ (l : List ℕ). b ∷ l) (r h)

-- ---- the header from byte 0 on, the text behind it, and behind that the zeros
pub block_put : (id : TextId) (text o₀ : List ℕ) {o₁ o₂ o₃ : List ℕ} {word size : ℕ} → word ≡ id_word id → size ≡ block_size (length text)
    → o₁ ≡ put o₀ 0 (header_bytes word 0 size 0) → o₂ ≡ put o₁ 24 text → o₃ ≡ put o₂ (24 + length text) (zeros (size - (24 + length text)))
    → o₃ ≡ put o₀ 0 (text_block id text)
unfolding text_block block_size header_bytes
block_put id text o₀ {o₁} {o₂} {o₃} {word} {size} named long p q r =
    let n = length text in
    let k = up_to_eight (24 + n + 1) in
    let head = header_bytes (id_word id) 0 (block_size n) 0 in
    let same : header_bytes word 0 size 0 ≡ head = rw (named, long) in
    let left : size - (24 + n) ≡ suc k = omega (arith, long) in
    let place : 24 + n ≡ 0 + length (head ++ text) = omega (arith, length-append head text) in
    two_puts (head ++ text) (zeros (suc k)) o₀ 0 (two_puts head text o₀ 0 (p ∙ ap (put o₀ 0) same) q)
    (r ∙ ap (λ (m : ℕ). put o₂ (24 + n) (zeros m)) left ∙ ap (λ (m : ℕ). put o₂ m (zeros (suc k))) place)
    ∙ ap (put o₀ 0) (sym (append_assoc (head ++ text) (0 ∷ []) (zeros k)))

-- ---- the answer
module _ (id : TextId) (text out : List ℕ) where
  pub zero_refused : holds_zero text ≡ true → writing_text id text out ≡ write_call (Err ZeroByte) out
  unfolding writing_text
  zero_refused h = ap (λ (z : Bool). cond z (write_call (Err ZeroByte) out) (holding (text_block id text) out)) h

  pub clean_held : holds_zero text ≡ false → writing_text id text out ≡ holding (text_block id text) out
  unfolding writing_text
  clean_held h = ap (λ (z : Bool). cond z (write_call (Err ZeroByte) out) (holding (text_block id text) out)) h

  -- an answer of n bytes: the text holds no zero byte, and the output begins with its block, of n bytes
  pub text_written : (w : Result ℕ Refusal) (n : ℕ) (after : List ℕ) → write_call w after ≡ writing_text id text out → w ≡ Ok n
      → (holds_zero text ≡ false) × Held (text_block id text) out n after
  text_written w n after made e = go (holds_zero text) refl
    where
      go : (z : Bool) → holds_zero text ≡ z → (holds_zero text ≡ false) × Held (text_block id text) out n after
      go true z =
          let same : w ≡ Err ZeroByte = ap (λ (c : WriteCall). c.result) (made ∙ zero_refused z) in
          clash cc
      go false z = (z, held (text_block id text) out w n after (made ∙ clean_held z) e)

  -- "zeros up to a multiple of 8": the length that is answered is one, and at most the text's and 32
  pub written_size : (w : Result ℕ Refusal) (n : ℕ) (after : List ℕ) → write_call w after ≡ writing_text id text out → w ≡ Ok n
      → (n % 8 ≡ 0) × (n ≤ length text + 32)
  written_size w n after made e =
      let long : n ≡ block_size (length text) = (text_written w n after made e).1.long ∙ length_text_block id text in
      (ap (λ (k : ℕ). k % 8) long ∙ size_multiple (length text), omega (arith, long, size_most (length text)))

-- an id has four bytes
id_small : (id : TextId) → id_word id < 2 ^ 32
id_small Tx = omega arith
id_small Md = omega arith

-- ---- what was written is read as the same text, with any bytes before and behind
module _ (id : TextId) (before text behind : List ℕ) where
  abbrev image : List ℕ
  image = before ++ (text_block id text ++ behind)

  abbrev a : ℕ
  a = length before

  abbrev n : ℕ
  n = length text

  -- what is left of the image from the text on
  abbrev from_text : List ℕ
  from_text = text ++ (0 ∷ (zeros (up_to_eight (24 + n + 1)) ++ behind))

  at_header : drop a image ≡ header_bytes (id_word id) 0 (block_size n) 0 ++ from_text
  unfolding text_block
  at_header = drop-append_seam before (text_block id text ++ behind) ∙ simp append_assoc

  at_text : drop (a + 24) image ≡ from_text
  unfolding header_bytes
  at_text = next image (header_bytes (id_word id) 0 (block_size n) 0) from_text a (a + 24) at_header refl

  long_enough : a + block_size n ≤ length image
  long_enough = omega (arith, length-append before (text_block id text ++ behind), length-append (text_block id text) behind, length_text_block id text)

  module _ (clean : holds_zero text ≡ false) (small : block_size (length text) < 2 ^ 64) where
    header : header_at image a ≡ record { id = id_word id; reserved = 0; length = block_size n; links = 0 }
    header = cc (header_drop image a, at_header, header_bytes_lem (id_word id) 0 (block_size n) 0 from_text (id_small id) (omega arith) small (omega arith))

    named : has_id (id_word id) image a ≡ true
    unfolding header_at has_id
    named = eq-eqb (word32 image a) (id_word id) (ap (λ (h : Header). h.id) header)

    run : run_at (id_word id) image a ≡ Some (record { from = a + 24; to = a + block_size n })
    unfolding header_at
    run =
        let long : word64 image (a + 8) ≡ block_size n = ap (λ (h : Header). h.length) header in
        run_whole (id_word id) image a named (omega (arith, long, size_least n)) (omega (arith, long, long_enough)) ∙ ap (λ (k : ℕ). Some (record { from = a + 24; to = a + k })) long

    bytes : text_bytes image (a + 24) (a + block_size n) ≡ text
    unfolding text_bytes
    bytes =
        let m = (a + block_size n) - (a + 24) in
        ap (λ (l : List ℕ). until_zero (take m l)) at_text
        ∙ until_text text (zeros (up_to_eight (24 + n + 1)) ++ behind) m (omega (arith, size_least n)) clean

    -- the same id, and the part of the image that is the text
    pub read_written : reading (before ++ (text_block id text ++ behind)) (length before)
        ≡ text_read id (record { from = length before + 24; to = length before + 24 + length text })
    unfolding read_as inside
    read_written =
        let within : inside image a ≡ true = le-leb (a + 24) (length image) (omega (arith, long_enough, size_least n)) in
        read_inside image a within ∙ read_as_id image a id named ∙ ap (λ (t : Option Span). found_at id a (cut_off image t)) run
        ∙ ap (λ (bs : List ℕ). text_read id (record { from = a + 24; to = a + 24 + length bs })) bytes

    pub shows_written : shown (before ++ (text_block id text ++ behind)) (Some (record { from = length before + 24; to = length before + 24 + length text })) ≡ text
    shows_written =
        ap (λ (bs : List ℕ). shown image (Some (record { from = a + 24; to = a + 24 + length bs }))) (sym bytes) ∙ text_shown image (a + 24) (a + block_size n) ∙ bytes

-- what a conversion takes by a link to it, wherever it does not begin the image: the text of a ##TX, none of a ##MD
pub written_linked : (id : TextId) (before text behind : List ℕ) → holds_zero text ≡ false → block_size (length text) < 2 ^ 64 → (length before ≡ 0 → ⊥)
    → text_of (before ++ (text_block id text ++ behind)) (length before) ≡ link_text (text_read id (record { from = length before + 24; to = length before + 24 + length text }))
written_linked id before text behind clean small far =
    as_linked (before ++ (text_block id text ++ behind)) (length before) far ∙ ap link_text (read_written id before text behind clean small)

-- the writer's output, read from its byte 0 on; an output has fewer than 2^64 bytes
pub output_read : (id : TextId) (text out : List ℕ) (w : Result ℕ Refusal) (n : ℕ) (after : List ℕ) → write_call w after ≡ writing_text id text out → w ≡ Ok n
    → length out < 2 ^ 64 → (reading after 0 ≡ text_read id (record { from = 24; to = 24 + length text })) × (shown after (Some (record { from = 24; to = 24 + length text })) ≡ text)
output_read id text out w n after made e memory =
    let fact = text_written id text out w n after made e in
    let h = fact.1 in
    let small : block_size (length text) < 2 ^ 64 = omega (arith, h.long, h.fits, length_text_block id text) in
    let none : List ℕ = [] in (
      ap (λ (img : List ℕ). reading img 0) h.begins ∙ read_written id none text (drop n out) fact.0 small,
      ap (λ (img : List ℕ). shown img (Some (record { from = 24; to = 24 + length text }))) h.begins ∙ shows_written id none text (drop n out) fact.0 small,
    )
