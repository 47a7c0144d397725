-- A repaired block parses, to the fields that document 01 reads, and its references and values by place are the block's; a block in the writer's form
-- comes back byte for byte; what is written is as long as what was read, and 30,000 bytes of room suffice. Assumes nothing.
use Rattle.std.specs.Prelude.{is_some, Err, None, Ok, Option, Result, Some}
use mathlib.Core.Path.{◌≡◌, refl, sym, ap, ◌∙◌}
use mathlib.Core.Bool.{Bool, true, false}
use mathlib.Core.List.{List, [], ◌++◌}
use Prim.Native.Nat.{ℕ, ◌+◌, ◌-◌, ◌*◌, ◌^◌, ◌≤◌, ◌<◌}
use native.Mathlib.Omega.{arith}
use borrow.Author.Tests.{ltb-true, ltb-false}
use lib.Dec.{T, ltb}
use lib.ListN.{length, take}
use lib.Ieee.{binary64, of_bits}
use lib.Ieee.Bits.{of_bits-fits}
use Rattle.floats.specs.Kept.{kept_bits}
use Rattle.floats.proofs.Kept.{kept_of_read}
use Rattle.words.specs.Words.{word32, word64, value_at}
use Rattle.words.proofs.Slices.{Bytes, length_words, word16_small, word64_small, words_small}
use Rattle.blocks.specs.Block.{fixed_at, ref_count, fields_place, fields_at, val_count, is_ranged, range_size, range_at, values_place, block_end, block_at, parsed_for_repair, parsed}
use Rattle.blocks.specs.Place.{reference_of, value_word_of, references, value_words}
use Rattle.blocks.specs.declared.Block.{Block}
use Rattle.blocks.proofs.Opening.{read_whole, read_parses}
use Rattle.blocks.proofs.Places.{by_place}
use Rattle.writer.specs.Write.{write_size, block_bytes, read_as_range}
use Rattle.writer.specs.Stored.{stored_range, stored, RangeFits, Sized}
use Rattle.writer.proofs.Writing.{length_block}
use Rattle.writer.proofs.Plain.{no_excess}
use Rattle.writer.proofs.ParseWritten.{parse_written, references_written, values_written}
use Rattle.writer.proofs.WriteParsed.{same_bytes}
use Rattle.repair.specs.Repair.{repaired, with_four_links}
use Rattle.repair.proofs.Reading.{references_fit, values_fit, no_padding, too_long, fitting}
use Rattle.common.specs.declared.refusal.Refusal.{Refusal}

-- ---- what was read has the size of its type
module _ (img : List ℕ) (h : Bytes img) where
  range_sized : (p : ℕ) (r : Bool) → RangeFits (range_at img p r)
  unfolding value_at
  range_sized p true =
      record {
        minimum = of_bits-fits binary64 _;
        maximum = of_bits-fits binary64 _;
        minword = word64_small img h p;
        maxword = word64_small img h (p + 8);
      }
  range_sized p false = tt

  read_sized : (a : ℕ) → Sized (block_at img a)
  unfolding block_at fixed_at fields_at
  read_sized a =
      record {
        name = word64_small img h _;
        unit = word64_small img h _;
        comment = word64_small img h _;
        inverse = word64_small img h _;
        kind = h _;
        precision = h _;
        flags = word16_small img h _;
        refcount = word16_small img h _;
        range = range_sized (fields_place img a + 8) (is_ranged img a);
        reserved = (omega arith);
      }

  -- a range that was read is stored as it is, a NaN's words too
  range_kept : (p : ℕ) (r : Bool) → stored_range (range_at img p r) ≡ range_at img p r
  unfolding value_at
  range_kept p true =
      let low : kept_bits (of_bits binary64 (word64 img p)) (word64 img p) ≡ word64 img p = kept_of_read (word64 img p) (word64_small img h p) in
      let high : kept_bits (of_bits binary64 (word64 img (p + 8))) (word64 img (p + 8)) ≡ word64 img (p + 8) =
      kept_of_read (word64 img (p + 8)) (word64_small img h (p + 8)) in
      rw (low, high) refl
  range_kept p false = refl

-- ---- an input of at most 30,000 bytes, and the block that document 01 reads at its start
module _ (input : List ℕ) (b : Block) (most : length input ≤ 30000) (whole : parsed_for_repair input 0 ≡ Ok b) where
  same : b ≡ block_at input 0
  same = (read_whole input 0 b whole).same

  refs_count : length (references input b) ≡ b.links - 4
  unfolding references
  refs_count = length_words input b.firstref (b.links - 4)

  values_count : length (value_words input b) ≡ b.valcount
  unfolding value_words
  values_count = length_words input b.firstval b.valcount

  -- where its parts stand, and how long it is
  ranged_is : range_size (is_some b.range) ≡ range_size (is_ranged input 0)
  unfolding block_at
  ranged_is = rw same (go (is_ranged input 0))
    where
      go : (r : Bool) → range_size (is_some (range_at input (fields_place input 0 + 8) r)) ≡ range_size r
      go true = refl
      go false = refl

  firstval_is : b.firstval ≡ 64 + 8 * (b.links - 4) + range_size (is_some b.range)
  unfolding block_at values_place fields_place ref_count
  firstval_is =
      let first : b.firstval ≡ values_place input 0 = ap (λ (x : Block). x.firstval) same in
      let links : b.links ≡ word64 input 16 = ap (λ (x : Block). x.links) same in
      omega (arith, first, links, ranged_is)

  bare : (b.reserved ≡ 0) × (b.excess ≡ 0)
  bare = no_padding input 0 b whole

  size_is : write_size (is_some b.range) (b.links - 4) b.valcount b.excess ≡ block_end input 0
  unfolding write_size block_at block_end val_count fields_at
  size_is =
      let first : b.firstval ≡ values_place input 0 = ap (λ (x : Block). x.firstval) same in
      let values : b.valcount ≡ val_count input 0 = ap (λ (x : Block). x.valcount) same in
      omega (arith, firstval_is, first, values, bare.1)

  is_block : repaired input ≡ block_bytes b (references input b) (value_words input b)
  is_block = fitting input most (Ok b) whole

  fits_input : write_size (is_some b.range) (length (references input b)) (length (value_words input b)) b.excess ≤ length input
  unfolding write_size
  fits_input = omega (arith, refs_count, values_count, size_is, (read_whole input 0 b whole).fits)

  -- what is written is as long as what was read, so that it can stand in its place
  pub as_long : length (repaired input) ≡ block_end input 0
  unfolding write_size
  as_long =
      omega (
        arith,
        ap length is_block,
        length_block b (references input b) (value_words input b),
        refs_count,
        values_count,
        size_is,
      )

  few : length (value_words input b) ≤ 65535
  unfolding write_size
  few = omega (arith, fits_input)

  -- ---- each of its elements is a byte
  module _ (bytes : Bytes input) where
    stored_is : stored 0 b (b.links - 4) b.valcount ≡ with_four_links b
    unfolding stored block_at
    stored_is =
        let range : stored_range b.range ≡ b.range = rw same (range_kept input bytes (fields_place input 0 + 8) (is_ranged input 0)) in
        let firstref : b.firstref ≡ 56 = ap (λ (x : Block). x.firstref) same in
        cc (firstval_is, bare.1)

    unread : read_as_range (is_some b.range) b.excess ≡ false
    unread = ap (read_as_range (is_some b.range)) bare.1 ∙ no_excess (is_some b.range)

    sized : Sized b
    sized = rw same (read_sized input bytes 0)

    abbrev kept : Block
    kept = stored 0 b (length (references input b)) (length (value_words input b))

    kept_is : kept ≡ with_four_links b
    kept_is = rw (refs_count, values_count) stored_is

    -- whatever stands behind it, it parses, to the block's own fields
    pub repaired_parses : (rest : List ℕ) → parsed (repaired input ++ rest) 0 ≡ Ok (with_four_links b)
    repaired_parses rest =
        rw is_block
        (parse_written [] rest b (references input b) (value_words input b) sized few (omega (arith, fits_input)) unread ∙ ap Ok kept_is)

    -- what a way of reading by place finds there
    placed : (read : List ℕ → Block → ℕ → Option ℕ) (rest : List ℕ) (i : ℕ)
        → read (repaired input ++ rest) (with_four_links b) i ≡ read (block_bytes b (references input b) (value_words input b) ++ rest) kept i
    placed read rest i =
        ap (λ (x : Block). read (repaired input ++ rest) x i) (sym kept_is) ∙ ap (λ (l : List ℕ). read (l ++ rest) kept i) is_block

    -- by place its references and values are the block's
    pub repaired_references : (rest : List ℕ) (i : ℕ) → reference_of (repaired input ++ rest) (with_four_links b) i ≡ reference_of input b i
    unfolding reference_of references
    repaired_references rest i =
        placed reference_of rest i
        ∙ references_written [] rest b (references input b) (value_words input b) (words_small input bytes _ _) i
        ∙ sym (by_place input b.firstref (b.links - 4) i (references_fit input 0 b whole))

    pub repaired_values : (rest : List ℕ) (i : ℕ) → value_word_of (repaired input ++ rest) (with_four_links b) i ≡ value_word_of input b i
    unfolding value_word_of value_words
    repaired_values rest i =
        placed value_word_of rest i
        ∙ values_written [] rest b (references input b) (value_words input b) (words_small input bytes _ _) i
        ∙ sym (by_place input b.firstval b.valcount i (values_fit input 0 b whole))

    -- a block in the writer's form, with its four links, reserved bytes of zero and the length of the bytes read, comes back byte for byte
    pub writers_form : 4 ≤ b.links → word32 input 4 ≡ 0 → b.length ≡ block_end input 0 → repaired input ≡ take b.length input
    writers_form enough none long =
        is_block ∙ same_bytes input 0 b bytes (read_parses input 0 b whole enough) none (omega (arith, long))

-- ---- 30,000 bytes of room suffice: a block is no longer than the input that it was read from, and a line has 10 bytes
room_for : (input : List ℕ) → length input ≤ 30000 → (p : Result Block Refusal) → parsed_for_repair input 0 ≡ p → length (repaired input) ≤ 30000
room_for input most (Ok b) e = omega (arith, as_long input b most e, (read_whole input 0 b e).fits)
room_for input most (Err r) e = omega (arith, ap length (fitting input most (Err r) e))

pub room_suffices : (input : List ℕ) → length (repaired input) ≤ 30000
room_suffices input = go (ltb 30000 (length input)) refl
  where
    go : (t : Bool) → ltb 30000 (length input) ≡ t → length (repaired input) ≤ 30000
    go true t = omega (arith, ap length (too_long input (ltb-true 30000 (length input) t)))
    go false t = room_for input (ltb-false 30000 (length input) t) (parsed_for_repair input 0) refl
