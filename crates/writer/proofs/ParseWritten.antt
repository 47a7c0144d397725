-- Document 01: "Parsing what was written returns every field, counts and block length as written", also with other bytes before and behind,
-- and the references and values read by place are those written. With the padding kept, reserved bytes and excess come back too; and why the writer
-- refuses with 23: what it would write has a range for parsing, where the record has none. Assumes nothing.
use Rattle.std.specs.Prelude.{Option, Some, None, is_some, Err, Ok, Result}
use mathlib.Core.Path.{◌≡◌, refl, sym, ap, ◌∙◌}
use mathlib.Core.Bool.{Bool, true, false}
use mathlib.Core.List.{List, [], ◌++◌, append_assoc}
use Prim.Native.Nat.{ℕ, ◌+◌, ◌-◌, ◌*◌, ◌^◌, ◌≤◌, ◌<◌}
use native.Mathlib.Nat.{add-zero}
use native.Mathlib.Omega.{arith}
use borrow.Author.Tests.{leb-true, leb-false, le-leb, lt-leb, le-ltb, eq-eqb}
use lib.Dec.{leb}
use lib.ListN.{length, drop, length-append}
use lib.Seq.{get_or-drop, drop-append_seam}
use Rattle.words.specs.Words.{word16, word32, word64, words, value_at, links, zeros}
use Rattle.words.proofs.Clash.{clash}
use Rattle.words.proofs.Laws.{word16_bytes, word64_bytes, words_links, length_links, Words64}
use Rattle.words.proofs.Slices.{next, word16_drop, word64_drop, words_drop}
use Rattle.floats.proofs.Kept.{kept_reads_back, kept_small}
use Rattle.floats.specs.Kept.{kept_bits}
use Rattle.common.specs.Header.{header_at, inside, is_conversion, conversion_id, header_bytes}
use Rattle.blocks.specs.Block.{fixed_at, ref_count, fields_place, fields_at, val_count, has_range, is_ranged, range_size, range_at, values_place, block_end, block_at, opened, parsed_for_repair, few_links, retired, parsed}
use Rattle.blocks.specs.Make.{fixed_of}
use Rattle.blocks.specs.Place.{word_in, reference_of, value_word_of, word_at}
use Rattle.blocks.proofs.Places.{by_place}
use Rattle.padding.specs.Kept.{read_end, excess_at, padded, keeping, parsed_in}
use Rattle.common.proofs.Headers.{header_drop, header_bytes_lem}
use Rattle.common.specs.Written.{output_holds, WriteCall, write_call}
use Rattle.writer.specs.Write.{write_size, fixed_bytes, field_bytes, range_bytes, front_bytes, block_bytes, read_as_range, write_answer, writing}
use Rattle.writer.specs.Stored.{stored_fields, stored_range, stored, stored_kept, RangeFits, Sized}
use Rattle.writer.proofs.Writing.{length_range, length_block, answer_fits}
use Rattle.common.specs.declared.header.Header.{Header}
use Rattle.blocks.specs.declared.Fields.{Fields}
use Rattle.blocks.specs.declared.Range.{Range}
use Rattle.blocks.specs.declared.Block.{Block}
use Rattle.common.specs.declared.refusal.Refusal.{Refusal}

-- ---- the parts of a block, read from what is left of the image from their place on
fixed_drop : (s : List ℕ) (p : ℕ) → fixed_at (drop p s) 0 ≡ fixed_at s p
unfolding fixed_at
fixed_drop s p = simp (word64_drop, add-zero)

fields_drop : (s : List ℕ) (p : ℕ) → fields_at (drop p s) 0 ≡ fields_at s p
unfolding fields_at
fields_drop s p = simp (word16_drop, get_or-drop, add-zero)

range_drop : (s : List ℕ) (p : ℕ) (r : Bool) → range_at (drop p s) 0 r ≡ range_at s p r
unfolding value_at
range_drop s p true = simp (word64_drop, add-zero)
range_drop s p false = refl

-- ---- and each reads as it was written; a number's law may leave out what follows it, which is not read
fixed_bytes_lem : (b : Block) (rest : List ℕ) → Sized b → fixed_at (fixed_bytes b ++ rest) 0 ≡ fixed_of b
unfolding fixed_at fixed_bytes word64 word32 word16
fixed_bytes_lem b rest h =
    let all = fixed_bytes b ++ rest in
    let name : word64 all 0 ≡ b.name = word64_bytes b.name [] h.name in
    let unit : word64 all 8 ≡ b.unit = word64_bytes b.unit [] h.unit in
    let comment : word64 all 16 ≡ b.comment = word64_bytes b.comment [] h.comment in
    let inverse : word64 all 24 ≡ b.inverse = word64_bytes b.inverse [] h.inverse in
    cc

fields_bytes : (b : Block) (values : ℕ) (rest : List ℕ) → Sized b → values < 65536 → fields_at (field_bytes b values ++ rest) 0 ≡ stored_fields b values
unfolding fields_at field_bytes word16
fields_bytes b values rest h small =
    let all = field_bytes b values ++ rest in
    let flags : word16 all 2 ≡ b.flags = word16_bytes b.flags [] h.flags in
    let refcount : word16 all 4 ≡ b.refcount = word16_bytes b.refcount [] h.refcount in
    let valcount : word16 all 6 ≡ values = word16_bytes values [] small in
    cc

range_bytes_lem : (range : Option Range) (rest : List ℕ) → RangeFits range → range_at (range_bytes range ++ rest) 0 (is_some range) ≡ stored_range range
unfolding value_at word64 word32 word16
range_bytes_lem (Some r) rest h =
    let all = range_bytes (Some r) ++ rest in
    let low = kept_bits r.minimum r.minword in
    let high = kept_bits r.maximum r.maxword in
    let lows : word64 all 0 ≡ low = word64_bytes low [] (kept_small r.minimum r.minword h.minimum h.minword) in
    let highs : word64 all 8 ≡ high = word64_bytes high [] (kept_small r.maximum r.maxword h.maximum h.maxword) in
    cc (kept_reads_back r.minimum r.minword h.minimum, kept_reads_back r.maximum r.maxword h.maximum)
range_bytes_lem None rest h = refl

-- the range is found exactly where it was written, unless an excess is read as one
range_found : (r : Bool) (refs values excess : ℕ) → read_as_range r excess ≡ false → has_range (write_size r refs values excess) (4 + refs) values ≡ r
unfolding write_size
range_found true refs values excess h = le-leb (24 + 8 * (4 + refs) + 8 + 8 * values + 16) (write_size true refs values excess) (omega arith)
range_found false refs values excess h =
    let few = leb-false 16 excess h in
    lt-leb (24 + 8 * (4 + refs) + 8 + 8 * values + 16) (write_size false refs values excess) (omega arith)

range_taken : (r : Bool) (refs values excess : ℕ) → read_as_range r excess ≡ true
    → (r ≡ false) × (16 ≤ excess) × (has_range (write_size r refs values excess) (4 + refs) values ≡ true)
unfolding write_size
range_taken true refs values excess h = clash cc
range_taken false refs values excess h =
    let many = leb-true 16 excess h in
    (refl, many, le-leb (24 + 8 * (4 + refs) + 8 + 8 * values + 16) (write_size false refs values excess) (omega arith))

-- numbers that were written at p
listed : (s : List ℕ) (p : ℕ) (vs ys : List ℕ) → drop p s ≡ links vs ++ ys → Words64 vs → words s p (length vs) ≡ vs
listed s p vs ys e h = cc (add-zero p, words_drop s p 0 (length vs), words_links vs ys h)

module _ (front rest : List ℕ) (b : Block) (refs values : List ℕ) where
  abbrev image : List ℕ
  image = front ++ (block_bytes b refs values ++ rest)

  abbrev a : ℕ
  a = length front

  abbrev n : ℕ
  n = length refs

  abbrev size : ℕ
  size = write_size (is_some b.range) n (length values) b.excess

  -- what is left of the image from each part on
  abbrev from_zeros : List ℕ
  from_zeros = zeros b.excess ++ rest

  abbrev from_values : List ℕ
  from_values = links values ++ from_zeros

  abbrev from_range : List ℕ
  from_range = range_bytes b.range ++ from_values

  abbrev from_fields : List ℕ
  from_fields = field_bytes b (length values) ++ from_range

  abbrev from_refs : List ℕ
  from_refs = links refs ++ from_fields

  abbrev from_fixed : List ℕ
  from_fixed = fixed_bytes b ++ from_refs

  at_header : drop a image ≡ header_bytes conversion_id b.reserved size (4 + n) ++ from_fixed
  unfolding block_bytes front_bytes
  at_header = drop-append_seam front (block_bytes b refs values ++ rest) ∙ simp append_assoc

  at_fixed : drop (a + 24) image ≡ from_fixed
  unfolding header_bytes
  at_fixed = next image (header_bytes conversion_id b.reserved size (4 + n)) from_fixed a (a + 24) at_header refl

  at_refs : drop (a + 56) image ≡ from_refs
  unfolding fixed_bytes
  at_refs = next image (fixed_bytes b) from_refs (a + 24) (a + 56) at_fixed (omega arith)

  at_fields : drop (a + 56 + 8 * n) image ≡ from_fields
  at_fields = next image (links refs) from_fields (a + 56) (a + 56 + 8 * n) at_refs (omega (arith, length_links refs))

  at_range : drop (a + 64 + 8 * n) image ≡ from_range
  unfolding field_bytes
  at_range = next image (field_bytes b (length values)) from_range (a + 56 + 8 * n) (a + 64 + 8 * n) at_fields (omega arith)

  at_values : drop (a + 64 + 8 * n + range_size (is_some b.range)) image ≡ from_values
  at_values =
      next image (range_bytes b.range) from_values (a + 64 + 8 * n) (a + 64 + 8 * n + range_size (is_some b.range)) at_range
      (omega (arith, length_range b.range))

  long_enough : a + size ≤ length image
  long_enough = omega (arith, length-append front (block_bytes b refs values ++ rest), length-append (block_bytes b refs values) rest, length_block b refs values)

  -- of the record that parsing gives, the references and values read by place are those written, and there is none behind the last
  pub references_written : Words64 refs → (i : ℕ)
      → reference_of (front ++ (block_bytes b refs values ++ rest)) (stored (length front) b (length refs) (length values)) i ≡ word_at refs i
  unfolding stored reference_of write_size
  references_written h i =
      let count : (4 + n) - 4 ≡ n = omega arith in
      ap (λ (k : ℕ). word_in image (a + 56) k i) count ∙ by_place image (a + 56) n i (omega (arith, long_enough))
      ∙ ap (λ (ws : List ℕ). word_at ws i) (listed image (a + 56) refs from_fields at_refs h)

  pub values_written : Words64 values → (i : ℕ)
      → value_word_of (front ++ (block_bytes b refs values ++ rest)) (stored (length front) b (length refs) (length values)) i ≡ word_at values i
  unfolding stored value_word_of write_size
  values_written h i =
      let p = a + 64 + 8 * n + range_size (is_some b.range) in
      by_place image p (length values) i (omega (arith, long_enough)) ∙ ap (λ (ws : List ℕ). word_at ws i) (listed image p values from_zeros at_values h)

  -- what parsing reads, in the order in which one place follows from another
  module _ (sized : Sized b) (few : length values ≤ 65535) (fits : write_size (is_some b.range) (length refs) (length values) b.excess < 2 ^ 64) where
    header : header_at image a ≡ record { id = conversion_id; reserved = b.reserved; length = size; links = 4 + n }
    unfolding write_size
    header = cc (header_drop image a, at_header, header_bytes_lem conversion_id b.reserved size (4 + n) from_fixed (omega arith) sized.reserved fits (omega arith))

    fixed : fixed_at image (a + 24) ≡ fixed_of b
    fixed = cc (fixed_drop image (a + 24), at_fixed, fixed_bytes_lem b from_refs sized)

    reserved : word32 image (a + 4) ≡ b.reserved
    unfolding header_at
    reserved = ap (λ (h : Header). h.reserved) header

    long : word64 image (a + 8) ≡ size
    unfolding header_at
    long = ap (λ (h : Header). h.length) header

    linked : word64 image (a + 16) ≡ 4 + n
    unfolding header_at
    linked = ap (λ (h : Header). h.links) header

    place : fields_place image a ≡ a + 56 + 8 * n
    unfolding fields_place ref_count
    place = omega (arith, linked)

    fields : fields_at image (fields_place image a) ≡ stored_fields b (length values)
    fields = cc (place, fields_drop image (a + 56 + 8 * n), at_fields, fields_bytes b (length values) from_range sized (omega arith))

    counted : val_count image a ≡ length values
    unfolding val_count fields_at
    counted = ap (λ (g : Fields). g.valcount) fields

    tested : is_ranged image a ≡ has_range size (4 + n) (length values)
    unfolding is_ranged
    tested = cc (long, linked, counted)

    -- what lies whole in the image is parsed
    whole : block_end image a ≤ length image → parsed image a ≡ Ok (block_at image a)
    unfolding parsed parsed_for_repair retired few_links inside is_conversion opened header_at block_end values_place
    whole end =
        let first : inside image a ≡ true = le-leb (a + 24) (length image) (omega (arith, place)) in
        let second : is_conversion image a ≡ true = eq-eqb (word32 image a) conversion_id (ap (λ (h : Header). h.id) header) in
        let third : few_links image a ≡ false = le-ltb (word64 image (a + 16)) 4 (omega (arith, linked)) in
        rw (first, second, third, le-leb (block_end image a) (length image) end)

    -- ---- the excess is not read as a range
    module _ (unread : read_as_range (is_some b.range) b.excess ≡ false) where
      found : is_ranged image a ≡ is_some b.range
      found = tested ∙ range_found (is_some b.range) n (length values) b.excess unread

      range : range_at image (fields_place image a + 8) (is_ranged image a) ≡ stored_range b.range
      range =
          let p : fields_place image a + 8 ≡ a + 64 + 8 * n = omega (arith, place) in
          cc (found, range_drop image (a + 64 + 8 * n) (is_some b.range), at_range, range_bytes_lem b.range from_values sized.range)

      behind : values_place image a ≡ a + 64 + 8 * n + range_size (is_some b.range)
      unfolding values_place
      behind = rw found (omega (arith, place))

      pub parse_written : parsed (front ++ (block_bytes b refs values ++ rest)) (length front) ≡ Ok (stored (length front) b (length refs) (length values))
      unfolding block_end block_at stored write_size
      parse_written =
          let block : block_at image a ≡ stored a b n (length values) = cc (long, linked, fixed, fields, range, behind) in
          whole (omega (arith, long_enough, behind, counted)) ∙ ap Ok block

      -- the excess that is counted in what was written is the record's
      excess_is : excess_at a (stored a b n (length values)) ≡ b.excess
      unfolding excess_at read_end stored write_size
      excess_is = omega arith

      end_is : read_end (stored a b n (length values)) + b.excess ≡ a + size
      unfolding read_end stored write_size
      end_is = omega arith

      pub kept_written : parsed_in true (front ++ (block_bytes b refs values ++ rest)) (length front)
          ≡ Ok (stored_kept (length front) b (length refs) (length values))
      unfolding parsed_in padded stored_kept
      kept_written =
          let s = stored a b n (length values) in
          let test : leb (read_end s + excess_at a s) (length image) ≡ true =
          le-leb (read_end s + excess_at a s) (length image) (omega (arith, excess_is, end_is, long_enough)) in
          ap (keeping true image a) parse_written ∙ rw (test, reserved, excess_is)

    -- ---- why 23: the bytes that the writer would make have a range for parsing, and the record has none
    pub read_as_range_lem : read_as_range (is_some b.range) b.excess ≡ true
        → (is_some b.range ≡ false) × (parsed (front ++ (block_bytes b refs values ++ rest)) (length front) ≡ Ok (block_at image a)) × (is_some (block_at image a).range ≡ true)
    unfolding block_end values_place block_at write_size
    read_as_range_lem h =
        let taken = range_taken (is_some b.range) n (length values) b.excess h in
        let ranged : is_ranged image a ≡ true = tested ∙ taken.2 in
        let size_of : range_size (is_ranged image a) ≡ 16 = ap range_size ranged in
        let plain : range_size (is_some b.range) ≡ 0 = ap range_size taken.0 in (
          taken.0,
          whole (omega (arith, long_enough, place, counted, size_of, plain, taken.1)),
          rw ranged refl,
        )

-- ---- the same, said of the writer's own answer: where it wrote, the output parses at 0, and reads by place as it was written
answered : (b : Block) (refs values out : List ℕ) (k : ℕ) (img : List ℕ) → writing b refs values out ≡ write_call (Ok k) img
    → write_answer (is_some b.range) (length refs) (length values) b.excess (length out) ≡ Ok k
unfolding writing
answered b refs values out k img e = ap (λ (o : WriteCall). o.result) e

held : (b : Block) (refs values out : List ℕ) (k : ℕ) (img : List ℕ) → writing b refs values out ≡ write_call (Ok k) img
    → block_bytes b refs values ++ drop k out ≡ img
unfolding writing
held b refs values out k img e =
    ap (λ (w : Result ℕ Refusal). output_holds w (block_bytes b refs values) out) (sym (answered b refs values out k img e)) ∙ ap (λ (o : WriteCall). o.output) e

module _ (b : Block) (refs values out : List ℕ) (k : ℕ) (img : List ℕ) (e : writing b refs values out ≡ write_call (Ok k) img) where
  pub output_parses : Sized b → write_size (is_some b.range) (length refs) (length values) b.excess < 2 ^ 64
      → parsed img 0 ≡ Ok (stored 0 b (length refs) (length values))
  output_parses sized fits =
      let fit = answer_fits (is_some b.range) (length refs) (length values) b.excess (length out) k (answered b refs values out k img e) in
      rw (sym (held b refs values out k img e)) (parse_written [] (drop k out) b refs values sized fit.few fits fit.read_back)

  pub output_kept : Sized b → write_size (is_some b.range) (length refs) (length values) b.excess < 2 ^ 64
      → parsed_in true img 0 ≡ Ok (stored_kept 0 b (length refs) (length values))
  output_kept sized fits =
      let fit = answer_fits (is_some b.range) (length refs) (length values) b.excess (length out) k (answered b refs values out k img e) in
      rw (sym (held b refs values out k img e)) (kept_written [] (drop k out) b refs values sized fit.few fits fit.read_back)

  pub output_reads : Words64 refs → Words64 values → (i : ℕ)
      → (reference_of img (stored 0 b (length refs) (length values)) i ≡ word_at refs i)
      × (value_word_of img (stored 0 b (length refs) (length values)) i ≡ word_at values i)
  output_reads h g i =
      rw (sym (held b refs values out k img e))
      (references_written [] (drop k out) b refs values h i, values_written [] (drop k out) b refs values g i)
