-- What is kept of the texts of a chunk by number, and what another text has in common with each. Assumes nothing.
use mathlib.Core.Path.{◌≡◌, sym, ap, ◌∙◌}
use mathlib.Core.List.{List}
use Prim.Native.Nat.{ℕ, zero, suc, ◌+◌, ◌<◌}
use native.Mathlib.Omega.{arith}
use borrow.Author.Count.{below_more}
use lib.ListN.{length, get_or, set}
use lib.Seq.{get_or-set_same, get_or-set_other}
use Rattle.blocks.specs.declared.view.View.{View}
use Rattle.repeats.specs.Repeats.{text_at}
use Rattle.repeats.specs.Scan.{in_common, Through, numbered, RowOf, no_row, Kept, Agreed}
use Rattle.repeats.specs.declared.Row.{Row}
use Rattle.repeats.proofs.Common.{in_common_none}

module _ (img : List ℕ) (b : View) (start : ℕ) where
  -- the index of a number
  pub number_is : (k i : ℕ) → 0 < k → start + k ≡ i + 1 → numbered img b start k ≡ text_at img b i
  unfolding numbered
  number_is zero i h e = absurd (omega arith)
  number_is (suc k) i h e = let f : start + k ≡ i = omega arith in ap (text_at img b) f

  -- ---- the text q held against the numbers in order
  -- the row of k tells of k
  pub through : (q agree : List ℕ) (r : Row) (s k i : ℕ) → RowOf img b start k r s → 0 < k → start + k ≡ i + 1 → Agreed img b start q agree k
      → Through q (text_at img b i) (get_or agree r.below 0) s r.mark
  through q agree r s k i w some e agreed =
      let n = number_is k i some e in
      let p = numbered img b start r.below in
      record {
        third = p;
        one = sym (agreed r.below w.0).0;
        other = ap (λ (t : List ℕ). in_common t p) (sym n) ∙ sym w.1;
        behind = w.2 ∙ ap (λ (t : List ℕ). get_or t s 0) n;
      }

  pub agreed_none : (q agree : List ℕ) → 0 < length agree → Agreed img b start q (set agree 0 0) 1
  unfolding numbered
  agreed_none q agree h zero l = (get_or-set_same agree 0 0 0 h ∙ sym (in_common_none q), λ p. absurd (omega arith))
  agreed_none q agree h (suc k) l = absurd (omega arith)

  pub agreed_more : (q agree : List ℕ) (k m : ℕ) → k < length agree → Agreed img b start q agree k
      → (in_common q (numbered img b start k) ≡ m) × (q ≡ numbered img b start k → ⊥) → Agreed img b start q (set agree k m) (k + 1)
  agreed_more q agree k m h old new =
      below_more
      (λ (j : ℕ). (get_or (set agree k m) j 0 ≡ in_common q (numbered img b start j)) × (0 < j → q ≡ numbered img b start j → ⊥))
      k
      (λ j l. (get_or-set_other agree k j m 0 (λ e. omega (arith, e)) ∙ (old j l).0, (old j l).1))
      (get_or-set_same agree k m 0 h ∙ sym new.0, λ p. new.1)

  -- ---- one number more
  -- its row
  pub row_more : (q agree : List ℕ) (m : ℕ) (r : Row) (s : ℕ) → q ≡ numbered img b start m → Agreed img b start q agree m
      → r.below < m → s ≡ get_or agree r.below 0 → r.mark ≡ get_or q s 0 → RowOf img b start m r s
  row_more q agree m r s e agreed less shared mark = (
    less,
    shared ∙ (agreed r.below less).0 ∙ ap (λ (t : List ℕ). in_common t (numbered img b start r.below)) e,
    mark ∙ ap (λ (t : List ℕ). get_or t s 0) e,
  )

  pub kept_more : (rows : List Row) (shared : List ℕ) (m : ℕ) (r : Row) (s : ℕ) → m < length rows → m < length shared → Kept img b start rows shared m
      → RowOf img b start m r s → Kept img b start (set rows m r) (set shared m s) (m + 1)
  kept_more rows shared m r s inner within kept new k some last =
      below_more (λ (i : ℕ). 0 < i → RowOf img b start i (get_or (set rows m r) i no_row) (get_or (set shared m s) i 0)) m
      (λ i l p. rw (get_or-set_other rows m i r no_row (λ x. omega (arith, x)), get_or-set_other shared m i s 0 (λ x. omega (arith, x))) (kept i p l))
      (λ p. rw (get_or-set_same rows m r no_row inner, get_or-set_same shared m s 0 within) new)
      k last some
