-- What is seen of a block, from the numbers that are read of it. Assumes nothing.
use Rattle.std.specs.Prelude.{Err, None, Ok, Some}
use mathlib.Core.Path.{◌≡◌, refl, sym, ap, ◌∙◌}
use mathlib.Core.Bool.{Bool, true, false, cond}
use mathlib.Core.List.{List}
use Prim.Native.Nat.{ℕ, ◌+◌, ◌-◌, ◌*◌, ◌≤◌, ◌<◌}
use native.Mathlib.Omega.{arith}
use borrow.Author.Tests.{leb-true}
use lib.Dec.{leb}
use lib.ListN as ListN
use Rattle.words.proofs.Clash.{clash}
use Rattle.words.specs.Words.{word16, word64}
use Rattle.blocks.specs.Block.{ref_count, fields_place, fields_at, val_count, has_range, is_ranged, range_size, values_place, block_end, block_at, opened}
use Rattle.blocks.specs.View.{view_of, seen_of, seen}
use Rattle.blocks.specs.declared.view.View.{View}
use Rattle.common.specs.declared.refusal.Refusal.TheVariants.{Short}
use Rattle.blocks.proofs.Opening.{opened_short, opened_whole}

-- links and refs as they are read
module _ (img : List ℕ) (a links refs : ℕ) (l : links ≡ word64 img (a + 16)) (r : refs ≡ links - 4) where
  pub refs_are : refs ≡ ref_count img a
  unfolding ref_count
  refs_are = r ∙ ap (λ (n : ℕ). n - 4) l

  pub place_is : a + 56 + 8 * refs ≡ fields_place img a
  unfolding fields_place
  place_is = omega (arith, refs_are)

  -- the image ends before the fields do
  pub cut_early : ListN.length img < a + 64 + 8 * refs → None ≡ seen img a
  unfolding seen block_end values_place
  cut_early h = ap seen_of (sym (opened_short img a (omega (arith, place_is))))

  -- the value count and the length as they are read
  module _ (values length size : ℕ) (ranged : Bool) (v : values ≡ word16 img (a + 56 + 8 * refs + 6)) (n : length ≡ word64 img (a + 8))
      (g : ranged ≡ has_range length links values) (s : size ≡ range_size ranged) where
    values_are : values ≡ val_count img a
    unfolding val_count
    values_are = v ∙ ap (λ (p : ℕ). word16 img (p + 6)) place_is

    ranged_is : ranged ≡ is_ranged img a
    unfolding is_ranged
    ranged_is = rw (g, n, l, values_are)

    first_is : a + 56 + 8 * refs + 8 + size ≡ values_place img a
    unfolding values_place
    first_is = let e = s ∙ ap range_size ranged_is in omega (arith, place_is, e)

    pub cut_late : ListN.length img < a + 56 + 8 * refs + 8 + size + 8 * values → None ≡ seen img a
    unfolding seen block_end
    cut_late h = ap seen_of (sym (opened_short img a (omega (arith, first_is, values_are))))

    view_is : (kind : ℕ) → kind ≡ ListN.get_or img (a + 56 + 8 * refs) 0
        → Some (record { kind = kind; refs = refs; firstref = a + 56; valcount = values; firstval = a + 56 + 8 * refs + 8 + size })
        ≡ seen_of (Ok (block_at img a))
    unfolding block_at fields_at ref_count val_count
    view_is kind k =
        let kk : kind ≡ ListN.get_or img (fields_place img a) 0 = k ∙ ap (λ (p : ℕ). ListN.get_or img p 0) place_is in
        rw (kk, first_is, refs_are, values_are)

    pub seen_whole : (kind : ℕ) → kind ≡ ListN.get_or img (a + 56 + 8 * refs) 0
        → a + 56 + 8 * refs + 8 + size + 8 * values ≤ ListN.length img
        → Some (record { kind = kind; refs = refs; firstref = a + 56; valcount = values; firstval = a + 56 + 8 * refs + 8 + size }) ≡ seen img a
    unfolding seen block_end
    seen_whole kind k h = view_is kind k ∙ ap seen_of (sym (opened_whole img a (omega (arith, first_is, values_are))))

-- ---- and what a view tells of its block
pub record IsOpen (img : List ℕ) (a : ℕ) (v : View) : Type 0 where
  pub whole : opened img a ≡ Ok (block_at img a)
  pub fits : block_end img a ≤ ListN.length img
  pub same : v ≡ view_of (block_at img a)

pub seen_open : (img : List ℕ) (a : ℕ) (v : View) → seen img a ≡ Some v → IsOpen img a v
unfolding seen opened
seen_open img a v e = go (leb (block_end img a) (ListN.length img)) refl e
  where
    go : (b : Bool) → leb (block_end img a) (ListN.length img) ≡ b
        → seen_of (cond b (Ok (block_at img a)) (Err (Short a))) ≡ Some v → IsOpen img a v
    go true t p =
        record {
          whole = ap (λ (x : Bool). cond x (Ok (block_at img a)) (Err (Short a))) t;
          fits = leb-true _ _ t;
          same = (cc);
        }
    go false t p = clash cc

pub seen_cut : (img : List ℕ) (a : ℕ) → seen img a ≡ None → opened img a ≡ Err (Short a)
unfolding seen opened
seen_cut img a e = go (leb (block_end img a) (ListN.length img)) e
  where
    go : (b : Bool) → seen_of (cond b (Ok (block_at img a)) (Err (Short a))) ≡ None
        → cond b (Ok (block_at img a)) (Err (Short a)) ≡ Err (Short a)
    go true p = clash cc
    go false p = refl

module _ (img : List ℕ) (a : ℕ) (v : View) (e : seen img a ≡ Some v) where
  pub seen_refs : v.refs ≡ ref_count img a
  unfolding block_at ref_count
  seen_refs = ap (λ (x : View). x.refs) (seen_open img a v e).same

  pub seen_firstref : v.firstref ≡ a + 56
  unfolding block_at
  seen_firstref = ap (λ (x : View). x.firstref) (seen_open img a v e).same

  pub seen_firstval : v.firstval ≡ values_place img a
  unfolding block_at
  seen_firstval = ap (λ (x : View). x.firstval) (seen_open img a v e).same

  -- the fields lie in the image
  pub seen_room : a + 64 + 8 * v.refs ≤ ListN.length img
  unfolding block_end values_place fields_place
  seen_room = omega (arith, (seen_open img a v e).fits, seen_refs)
