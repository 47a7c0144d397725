-- Request [6]: "Writing what was parsed then returns the bytes for any block with links >= 4, zero excess bytes that lie in the image, and block length not
-- below the bytes read", where the padding is kept. That it has the four links, and that the excess lies in the image, is what parsing tests. Document
-- 01's law is the case of no padding: "when reserved is zero, links >= 4 and block length equals the bytes read". Each part of the block is a part of the
-- image, and the parts stand one behind the other. Assumes nothing.
use Rattle.std.specs.Prelude.{is_some, Err, Ok, Result}
use mathlib.Core.Path.{◌≡◌, refl, sym, ap, ◌∙◌}
use mathlib.Core.Bool.{Bool, true, false}
use mathlib.Core.List.{List, [], ◌∷◌, ◌++◌}
use Prim.Native.Nat.{ℕ, ◌+◌, ◌-◌, ◌*◌, ◌≤◌, ◌<◌}
use native.Mathlib.Omega.{arith}
use borrow.Author.Tests.{eqb-true, leb-false, lt-leb}
use lib.ListN.{length, take, drop, length-drop}
use lib.Seq.{length-take-le}
use lib.Ieee.{Float, binary64, of_bits, to_bits, nan_bits}
use Rattle.words.specs.Words.{word16, word32, word64, words, value_at, links, zeros, bytes2, bytes4, bytes8, part}
use Rattle.words.proofs.Laws.{Words64}
use Rattle.words.proofs.Slices.{Bytes, join, two_bytes, bytes2_word16, bytes4_word32, bytes8_word64, links_words, length_words, word16_small, word64_small, words_small}
use Rattle.floats.specs.Kept.{kept_bits}
use Rattle.floats.proofs.Kept.{own_if_plain, kept_of_read}
use Rattle.common.specs.Header.{is_conversion, conversion_id, header_bytes}
use Rattle.blocks.specs.Block.{fixed_at, ref_count, fields_place, fields_at, val_count, is_ranged, range_size, range_at, values_place, block_end, block_at, parsed}
use Rattle.blocks.specs.Place.{references, value_words}
use Rattle.padding.specs.Kept.{read_end, parsed_in}
use Rattle.padding.proofs.Keeping.{end_is, IsKept, kept_is, nothing_to_keep}
use Rattle.common.specs.Written.{write_call}
use Rattle.writer.specs.Write.{write_size, fixed_bytes, field_bytes, range_bytes, front_bytes, block_bytes, read_as_range, through_floats, writing}
use Rattle.blocks.specs.declared.Block.{Block}
use Rattle.blocks.specs.Make.{with_padding}
use Rattle.blocks.proofs.Opening.{parsed_is_read, parsed_whole}
use Rattle.writer.proofs.Writing.{length_block, block_written}

-- ---- xs are the bytes of s from one place up to another
record IsPart (s : List ℕ) (from to : ℕ) (xs : List ℕ) : Type 0 where
  forward : from ≤ to
  same : xs ≡ part s from to

is_part : {xs : List ℕ} (s : List ℕ) (from to size : ℕ) → from + size ≡ to → xs ≡ take size (drop from s) → IsPart s from to xs
is_part s from to size e same =
    let long : size ≡ to - from = omega arith in
    record { forward = omega arith; same = cc }

both : {s : List ℕ} {from mid to : ℕ} {xs ys : List ℕ} → IsPart s from mid xs → IsPart s mid to ys → IsPart s from to (xs ++ ys)
both {s} {from} {mid} {to} first second =
    let place : mid ≡ from + (mid - from) = omega arith in
    is_part s from to ((mid - from) + (to - mid)) (omega arith) (join s from (mid - from) (to - mid) first.same (cc))

-- ---- whether a range that was read is there
range_is : (s : List ℕ) (p : ℕ) (r : Bool) → is_some (range_at s p r) ≡ r
range_is s p true = refl
range_is s p false = refl

-- ---- each number stands where it was read
module _ (s : List ℕ) (h : Bytes s) where
  two : (v from to : ℕ) → v ≡ word16 s from → from + 2 ≡ to → to ≤ length s → IsPart s from to (bytes2 v)
  two v from to e f fits = is_part s from to 2 f (ap bytes2 e ∙ bytes2_word16 s h from (omega arith))

  four : (v from to : ℕ) → v ≡ word32 s from → from + 4 ≡ to → to ≤ length s → IsPart s from to (bytes4 v)
  four v from to e f fits = is_part s from to 4 f (ap bytes4 e ∙ bytes4_word32 s h from (omega arith))

  eight : (v from to : ℕ) → v ≡ word64 s from → from + 8 ≡ to → to ≤ length s → IsPart s from to (bytes8 v)
  eight v from to e f fits = is_part s from to 8 f (ap bytes8 e ∙ bytes8_word64 s h from (omega arith))

  many : (n from to : ℕ) → from + 8 * n ≡ to → to ≤ length s → IsPart s from to (links (words s from n))
  many n from to f fits = is_part s from to (8 * n) f (links_words s h from n (omega arith))

  -- ---- each part of a block
  -- for a float that was read, the word that was read is written, a NaN's too
  kept : (at : ℕ) → kept_bits (value_at s at) (word64 s at) ≡ word64 s at
  unfolding value_at
  kept at = kept_of_read (word64 s at) (word64_small s h at)

  -- a range that was read, or none
  range_part : (r : Bool) (from to : ℕ) → from + range_size r ≡ to → to ≤ length s → IsPart s from to (range_bytes (range_at s from r))
  range_part true from to f fits =
      both (eight _ from (from + 8) (kept from) refl (omega arith)) (eight _ (from + 8) to (kept (from + 8)) (omega arith) fits)
  range_part false from to f fits = is_part s from to 0 f refl

  -- the block at a with its padding, of which e bytes are excess
  module _ (a e : ℕ) (fits : block_end s a + e ≤ length s) where
    abbrev kept_block : Block
    kept_block = with_padding (block_at s a) (word32 s (a + 4)) e

    abbrev refs : List ℕ
    refs = words s (a + 56) (ref_count s a)

    abbrev values : List ℕ
    values = words s (values_place s a) (val_count s a)

    header_part : (size count : ℕ) → size ≡ word64 s (a + 8) → count ≡ word64 s (a + 16) → word32 s a ≡ conversion_id
        → IsPart s a (a + 24) (header_bytes conversion_id (word32 s (a + 4)) size count)
    unfolding header_bytes block_end values_place fields_place
    header_part size count p q id =
        both (four conversion_id a (a + 4) (sym id) refl (omega arith))
        (both (four _ (a + 4) (a + 8) refl (omega arith) (omega arith))
        (both (eight size (a + 8) (a + 16) p (omega arith) (omega arith)) (eight count (a + 16) (a + 24) q (omega arith) (omega arith))))

    fixed_part : IsPart s (a + 24) (a + 56) (fixed_bytes kept_block)
    unfolding block_at fixed_bytes fixed_at block_end values_place fields_place
    fixed_part =
        both (eight _ (a + 24) (a + 24 + 8) refl refl (omega arith))
        (both (eight _ (a + 24 + 8) (a + 24 + 16) refl (omega arith) (omega arith))
        (both (eight _ (a + 24 + 16) (a + 24 + 24) refl (omega arith) (omega arith)) (eight _ (a + 24 + 24) (a + 56) refl (omega arith) (omega arith))))

    refs_part : IsPart s (a + 56) (fields_place s a) (links refs)
    unfolding block_end values_place fields_place
    refs_part = many (ref_count s a) (a + 56) (fields_place s a) (omega arith) (omega arith)

    fields_part : (count : ℕ) → count ≡ val_count s a → IsPart s (fields_place s a) (fields_place s a + 8) (field_bytes kept_block count)
    unfolding block_at field_bytes fields_at val_count block_end values_place
    fields_part count f =
        let p = fields_place s a in
        both (is_part s p (p + 2) 2 refl (two_bytes s p (omega arith)))
        (both (two _ (p + 2) (p + 4) refl (omega arith) (omega arith))
        (both (two _ (p + 4) (p + 6) refl (omega arith) (omega arith)) (two count (p + 6) (p + 8) f (omega arith) (omega arith))))

    block_part : word32 s a ≡ conversion_id → 4 ≤ word64 s (a + 16) → a + word64 s (a + 8) ≡ block_end s a + e
        → take e (drop (block_end s a) s) ≡ zeros e → IsPart s a (block_end s a + e) (block_bytes kept_block refs values)
    unfolding block_bytes front_bytes block_at write_size block_end values_place fields_place ref_count
    block_part id enough long none =
        let range = range_part (is_ranged s a) (fields_place s a + 8) (values_place s a) refl (omega arith) in
        let count : length values ≡ val_count s a = length_words s (values_place s a) (val_count s a) in
        let linked : 4 + length refs ≡ word64 s (a + 16) = omega (arith, length_words s (a + 56) (ref_count s a)) in
        let ranged : range_size (is_some kept_block.range) ≡ range_size (is_ranged s a) = ap range_size (range_is s (fields_place s a + 8) (is_ranged s a)) in
        let size : write_size (is_some kept_block.range) (length refs) (length values) e ≡ word64 s (a + 8) = omega arith in
        both
        (both (both (both (both (both (header_part _ _ size linked id) fixed_part) refs_part) (fields_part _ count)) range)
        (many (val_count s a) (values_place s a) (block_end s a) refl (omega arith)))
        (is_part s (block_end s a) (block_end s a + e) e refl (sym none))

-- what is left of a block without a range is no more than 15 bytes, since 16 would have been read as one: 23 never meets a block that was parsed
unread_of : (img : List ℕ) (a : ℕ) (r : Bool) → is_ranged img a ≡ r → 4 ≤ word64 img (a + 16)
    → read_as_range (is_some (range_at img (fields_place img a + 8) r)) ((a + word64 img (a + 8)) - block_end img a) ≡ false
unfolding is_ranged block_end values_place fields_place ref_count
unread_of img a true t enough = refl
unread_of img a false t enough =
    let short = leb-false (24 + 8 * word64 img (a + 16) + 8 + 8 * val_count img a + 16) (word64 img (a + 8)) t in
    let none : range_size (is_ranged img a) ≡ 0 = ap range_size t in
    lt-leb 16 ((a + word64 img (a + 8)) - block_end img a) (omega arith)

module _ (img : List ℕ) (a : ℕ) (b : Block) (kept : parsed_in true img a ≡ Ok b) where
  is_kept : IsKept img a b
  is_kept = kept_is img a b kept

  enough_links : 4 ≤ word64 img (a + 16)
  unfolding block_at
  enough_links = (parsed_is_read img a (block_at img a) is_kept.whole).1

  pub kept_unread : read_as_range (is_some b.range) b.excess ≡ false
  unfolding block_at
  kept_unread =
      let ranged : is_some b.range ≡ is_some (range_at img (fields_place img a + 8) (is_ranged img a)) = ap (λ (x : Block). is_some x.range) is_kept.same in
      ap (λ (r : Bool). read_as_range r b.excess) ranged
      ∙ ap (read_as_range (is_some (range_at img (fields_place img a + 8) (is_ranged img a)))) is_kept.excess
      ∙ unread_of img a (is_ranged img a) refl enough_links

  -- its length is not below the bytes read, and the excess bytes are zero
  module _ (h : Bytes img) (long : read_end b ≤ a + b.length) (none : take b.excess (drop (read_end b) img) ≡ zeros b.excess) where
    read_end_lem : read_end b ≡ block_end img a
    unfolding read_end block_at block_end fields_at val_count
    read_end_lem = ap read_end is_kept.same

    length_is : b.length ≡ word64 img (a + 8)
    unfolding block_at
    length_is = ap (λ (x : Block). x.length) is_kept.same

    all_of_it : a + word64 img (a + 8) ≡ block_end img a + b.excess
    all_of_it = omega (arith, is_kept.excess, read_end_lem, length_is)

    pub kept_bytes : block_bytes b (references img b) (value_words img b) ≡ take b.length (drop a img)
    unfolding references value_words is_conversion block_at fields_at val_count ref_count
    kept_bytes =
        let w = parsed_whole img a (block_at img a) is_kept.whole in
        let id = eqb-true (word32 img a) conversion_id w.conversion in
        let zero-part : take b.excess (drop (block_end img a) img) ≡ zeros b.excess = rw read_end_lem at none in
        let all = block_part img h a b.excess is_kept.fits id enough_links all_of_it zero-part in
        let size : (block_end img a + b.excess) - a ≡ b.length = omega (arith, all_of_it, length_is) in
        let bytes = all.same ∙ ap (λ (k : ℕ). take k (drop a img)) size in
        let own = ap (λ (x : Block). block_bytes x (references img x) (value_words img x)) is_kept.same in
        own ∙ bytes

    few : length (value_words img b) ≤ 65535
    unfolding value_words block_at fields_at
    few =
        let count : b.valcount < 65536 = rw is_kept.same (word16_small img h _) in
        omega (arith, length_words img b.firstval b.valcount)

    size : write_size (is_some b.range) (length (references img b)) (length (value_words img b)) b.excess ≡ b.length
    size =
        sym (length_block b (references img b) (value_words img b)) ∙ ap length kept_bytes
        ∙ length-take-le b.length (drop a img) (omega (arith, length-drop a img, is_kept.fits, all_of_it, length_is))

    -- writing it with its references and values, into an output with room: the block's bytes as the image has them, and behind them what was there
    pub write_kept : (out : List ℕ) → b.length ≤ length out
        → writing b (references img b) (value_words img b) out
        ≡ write_call (Ok b.length) (take b.length (drop a img) ++ drop b.length out)
    write_kept out room =
        block_written b (references img b) (value_words img b) out b.length few kept_unread size room
        ∙ ap (λ (bs : List ℕ). write_call (Ok b.length) (bs ++ drop b.length out)) kept_bytes

-- ---- document 01's law: a block b that was parsed plainly, its reserved bytes are zero, and its length is that of the bytes read
module _ (img : List ℕ) (a : ℕ) (b : Block) (h : Bytes img) (whole : parsed img a ≡ Ok b) (none : word32 img (a + 4) ≡ 0)
    (long : b.length + a ≡ block_end img a) where
  keeps_nothing : parsed_in true img a ≡ Ok b
  keeps_nothing = nothing_to_keep img a b whole none long

  no_excess : b.excess ≡ 0
  unfolding block_at
  no_excess = ap (λ (x : Block). x.excess) (parsed_whole img a b whole).same

  reaches : read_end b ≤ a + b.length
  reaches = omega (arith, end_is img a b whole)

  no_zeros : take b.excess (drop (read_end b) img) ≡ zeros b.excess
  no_zeros = rw no_excess refl

  pub same_bytes : block_bytes b (references img b) (value_words img b) ≡ take b.length (drop a img)
  same_bytes = kept_bytes img a b keeps_nothing h reaches no_zeros

  pub write_parsed : (out : List ℕ) → b.length ≤ length out
      → writing b (references img b) (value_words img b) out
      ≡ write_call (Ok b.length) (take b.length (drop a img) ++ drop b.length out)
  write_parsed = write_kept img a b keeps_nothing h reaches no_zeros

-- ---- values that are no NaN may pass through floats
abbrev pub NoNan : List ℕ → Type 0
NoNan [] = Unit {0}
NoNan (w ∷ ws) = (nan_bits binary64 w ≡ false) × NoNan ws

pub float_form : (ws : List ℕ) → Words64 ws → NoNan ws → through_floats ws ≡ ws
float_form [] h p = refl
float_form (w ∷ ws) h p =
    let first : to_bits binary64 (of_bits binary64 w) ≡ w = sym (own_if_plain (of_bits binary64 w) w p.0) ∙ kept_of_read w h.0 in
    cc (float_form ws h.1 p.1)

-- a block's values without a NaN may be written as floats
pub write_floats : (img : List ℕ) (b : Block) (refs out : List ℕ) → Bytes img → NoNan (value_words img b)
    → writing b refs (through_floats (value_words img b)) out ≡ writing b refs (value_words img b) out
unfolding value_words
write_floats img b refs out h plain =
    ap (λ (ws : List ℕ). writing b refs ws out) (float_form (value_words img b) (words_small img h b.firstval b.valcount) plain)

-- so document 01's law holds for them too
pub write_parsed_floats : (img : List ℕ) (a : ℕ) (b : Block) → Bytes img → parsed img a ≡ Ok b → word32 img (a + 4) ≡ 0
    → b.length + a ≡ block_end img a → (out : List ℕ) → b.length ≤ length out → NoNan (value_words img b)
    → writing b (references img b) (through_floats (value_words img b)) out
    ≡ write_call (Ok b.length) (take b.length (drop a img) ++ drop b.length out)
write_parsed_floats img a b h whole none long out room plain =
    write_floats img b (references img b) out h plain ∙ write_parsed img a b h whole none long out room
