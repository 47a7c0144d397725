-- How long the writer's bytes are, and what it answers after each test. Assumes nothing.
use Rattle.std.specs.Prelude.{Option, Some, None, is_some, Err, Ok, Result}
use mathlib.Core.Path.{◌≡◌, refl, sym, ap, ◌∙◌}
use mathlib.Core.Bool.{Bool, true, false, cond}
use mathlib.Core.List.{List, ◌++◌}
use Prim.Native.Nat.{ℕ, ◌+◌, ◌*◌, ◌≤◌, ◌<◌}
use native.Mathlib.Omega.{arith}
use borrow.Author.Tests.{lt-ltb, le-ltb, ltb-false}
use lib.Dec.{ltb}
use lib.ListN as ListN
use Rattle.words.proofs.Clash.{clash}
use Rattle.words.specs.Words.{put, links, zeros}
use Rattle.words.proofs.Laws.{two_puts, five_puts, put_front, length_links}
use Rattle.blocks.specs.Block.{range_size}
use Rattle.common.specs.Header.{conversion_id, header_bytes}
use Rattle.common.specs.Written.{output_holds, write_call}
use Rattle.writer.specs.Write.{write_size, fixed_bytes, field_bytes, range_bytes, front_bytes, block_bytes, read_as_range, write_answer, writing}
use Rattle.blocks.specs.declared.Range.{Range}
use Rattle.blocks.specs.declared.Block.{Block}
use Rattle.common.specs.declared.refusal.Refusal.{Refusal}
use Rattle.common.specs.declared.refusal.Refusal.TheVariants.{Room, Count, Padding}

pub length_range : (range : Option Range) → ListN.length (range_bytes range) ≡ range_size (is_some range)
length_range (Some r) = refl
length_range None = refl

pub length_front : (b : Block) (refs : List ℕ) (values length : ℕ)
    → ListN.length (front_bytes b refs values length) ≡ 64 + 8 * ListN.length refs + range_size (is_some b.range)
unfolding front_bytes header_bytes fixed_bytes field_bytes
length_front b refs values length =
    let head = header_bytes conversion_id b.reserved length (4 + ListN.length refs) ++ fixed_bytes b in
    let r = length_range b.range in
    let l = length_links refs in
    simp (ListN.length-append) (omega arith)

-- the front is put part by part, each at its place
pub front_parts : (b : Block) (refs : List ℕ) (values length : ℕ) (o₀ : List ℕ) {o₁ o₂ o₃ o₄ o₅ : List ℕ}
    → o₁ ≡ put o₀ 0 (header_bytes conversion_id b.reserved length (4 + ListN.length refs)) → o₂ ≡ put o₁ 24 (fixed_bytes b) → o₃ ≡ put o₂ 56 (links refs)
    → o₄ ≡ put o₃ (56 + 8 * ListN.length refs) (field_bytes b values) → o₅ ≡ put o₄ (56 + 8 * ListN.length refs + 8) (range_bytes b.range)
    → o₅ ≡ put o₀ 0 (front_bytes b refs values length)
unfolding front_bytes header_bytes fixed_bytes field_bytes
front_parts b refs values length o₀ {o₃ = o₃} {o₄ = o₄} p q r s t =
    let head = header_bytes conversion_id b.reserved length (4 + ListN.length refs) in
    let fields = field_bytes b values in
    let range = range_bytes b.range in
    let l = length_links refs in
    let third : 56 + 8 * ListN.length refs ≡ 0 + ListN.length (head ++ fixed_bytes b ++ links refs) = omega arith in
    let fourth : 56 + 8 * ListN.length refs + 8 ≡ 0 + ListN.length (head ++ fixed_bytes b ++ links refs ++ fields) =
    omega (arith, ListN.length-append (head ++ fixed_bytes b ++ links refs) fields) in
    five_puts head (fixed_bytes b) (links refs) fields range o₀ 0 p q r (s ∙ ap (λ (k : ℕ). put o₃ k fields) third) (t ∙ ap (λ (k : ℕ). put o₄ k range) fourth)

-- block length of exactly what is written
pub length_block : (b : Block) (refs values : List ℕ)
    → ListN.length (block_bytes b refs values) ≡ write_size (is_some b.range) (ListN.length refs) (ListN.length values) b.excess
unfolding block_bytes write_size
length_block b refs values =
    let size = write_size (is_some b.range) (ListN.length refs) (ListN.length values) b.excess in
    let front = front_bytes b refs (ListN.length values) size in
    let none : ℕ = 0 in
    omega (
      arith,
      length_front b refs (ListN.length values) size,
      length_links values,
      ListN.length-append front (links values),
      ListN.length-append (front ++ links values) (zeros b.excess),
      ListN.length-replicate b.excess none,
    )

-- ---- the answer
module _ (ranged : Bool) (refs values excess room : ℕ) where
  pub too_many : 65535 < values → write_answer ranged refs values excess room ≡ Err Count
  unfolding write_answer
  too_many h = simp (lt-ltb _ _ h)

  pub no_range : values ≤ 65535 → read_as_range ranged excess ≡ true → write_answer ranged refs values excess room ≡ Err Padding
  unfolding write_answer
  no_range h p = rw (le-ltb 65535 values h, p)

  pub no_room : values ≤ 65535 → read_as_range ranged excess ≡ false → room < write_size ranged refs values excess
      → write_answer ranged refs values excess room ≡ Err Room
  unfolding write_answer
  no_room h p k = rw (le-ltb 65535 values h, p, lt-ltb room (write_size ranged refs values excess) k)

  pub enough : values ≤ 65535 → read_as_range ranged excess ≡ false → write_size ranged refs values excess ≤ room
      → write_answer ranged refs values excess room ≡ Ok (write_size ranged refs values excess)
  unfolding write_answer
  enough h p k = rw (le-ltb 65535 values h, p, le-ltb room (write_size ranged refs values excess) k)

  -- what an answer of n bytes tells
  pub record Fits (n : ℕ) : Type 0 where
    pub few : values ≤ 65535
    pub read_back : read_as_range ranged excess ≡ false
    pub sized : n ≡ write_size ranged refs values excess
    pub room_enough : n ≤ room

  pub answer_fits : (n : ℕ) → write_answer ranged refs values excess room ≡ Ok n → Fits n
  unfolding write_answer
  answer_fits n = go (ltb 65535 values) (read_as_range ranged excess) (ltb room (write_size ranged refs values excess)) refl refl refl
    where
      go : (x y z : Bool) → ltb 65535 values ≡ x → read_as_range ranged excess ≡ y → ltb room (write_size ranged refs values excess) ≡ z
          → cond x (Err Count) (cond y (Err Padding) (cond z (Err Room) (Ok (write_size ranged refs values excess)))) ≡ Ok n
          → Fits n
      go false false false p q r e =
          let same : n ≡ write_size ranged refs values excess = cc in
          record {
            few = ltb-false _ _ p;
            read_back = q;
            sized = same;
            room_enough = omega (arith, ltb-false room (write_size ranged refs values excess) r);
          }
      go false false true p q r e = clash cc
      go false true z p q r e = clash cc
      go true y z p q r e = clash cc

-- the same where the answer, and whether there is a range, are known under other names
pub fits_of : (b : Block) (refs values room n : ℕ) {ranged : Bool} {says : Result ℕ Refusal} → says ≡ write_answer ranged refs values b.excess room
    → ranged ≡ is_some b.range → says ≡ Ok n → Fits (is_some b.range) refs values b.excess room n
fits_of b refs values room n p q e = answer_fits (is_some b.range) refs values b.excess room n cc

-- few values, an excess that is not read as a range, and room for all of the block: it is written from byte 0 on, and behind it the output is as it was
pub block_written : (b : Block) (refs values out : List ℕ) (n : ℕ) → ListN.length values ≤ 65535 → read_as_range (is_some b.range) b.excess ≡ false
    → write_size (is_some b.range) (ListN.length refs) (ListN.length values) b.excess ≡ n → n ≤ ListN.length out
    → writing b refs values out ≡ write_call (Ok n) (block_bytes b refs values ++ ListN.drop n out)
unfolding writing
block_written b refs values out n few unread size room =
    let answered = enough (is_some b.range) (ListN.length refs) (ListN.length values) b.excess (ListN.length out) few unread (omega arith) in
    ap (λ (w : Result ℕ Refusal). write_call w (output_holds w (block_bytes b refs values) out)) (answered ∙ ap Ok size)

-- ---- the output, for k values that are spelled by `values`
module _ (b : Block) (refs values out : List ℕ) (k : ℕ) (counted : k ≡ ListN.length values) {ranged : Bool} (same : ranged ≡ is_some b.range)
    (says : Result ℕ Refusal) (answered : says ≡ write_answer ranged (ListN.length refs) k b.excess (ListN.length out)) where
  said : says ≡ write_answer (is_some b.range) (ListN.length refs) (ListN.length values) b.excess (ListN.length out)
  said = cc

  -- a refusal
  pub untouched : (r : Refusal) → says ≡ Err r → write_call (Err r) out ≡ writing b refs values out
  unfolding writing
  untouched r e = rw (sym said, e)

  -- the front from byte 0 on, the values behind it, and behind them the zeros
  pub all_written : (n at : ℕ) (front middle last : List ℕ) → says ≡ Ok n
      → at ≡ 64 + 8 * ListN.length refs + range_size (is_some b.range) → front ≡ put out 0 (front_bytes b refs k n) → middle ≡ put front at (links values)
      → last ≡ put middle (at + 8 * k) (zeros b.excess) → write_call (Ok n) last ≡ writing b refs values out
  unfolding writing block_bytes
  all_written n at front middle last e p f g h =
      let fit = answer_fits (is_some b.range) (ListN.length refs) (ListN.length values) b.excess (ListN.length out) n (sym said ∙ e) in
      let size = write_size (is_some b.range) (ListN.length refs) (ListN.length values) b.excess in
      let first = front_bytes b refs (ListN.length values) size in
      let same : front_bytes b refs k n ≡ first = rw (fit.sized, counted) in
      let place : at ≡ 0 + ListN.length first = omega (arith, length_front b refs (ListN.length values) size) in
      let behind : at + 8 * k ≡ 0 + ListN.length (first ++ links values) =
      omega (arith, place, ListN.length-append first (links values), length_links values, counted) in
      let all = first ++ links values ++ zeros b.excess in
      let whole : last ≡ put out 0 all =
      two_puts (first ++ links values) (zeros b.excess) out 0
      (two_puts first (links values) out 0 (f ∙ ap (put out 0) same) (g ∙ ap (λ (m : ℕ). put front m (links values)) place))
      (h ∙ ap (λ (m : ℕ). put middle m (zeros b.excess)) behind) in
      let long : ListN.length all ≡ n = length_block b refs values ∙ sym fit.sized in
      let shown : put out 0 all ≡ all ++ ListN.drop n out = put_front out all (omega arith) ∙ ap (λ (m : ℕ). all ++ ListN.drop m out) long in
      rw (sym said, e) (ap (write_call (Ok n)) (whole ∙ shown))
