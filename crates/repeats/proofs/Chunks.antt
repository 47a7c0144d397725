-- A chunk from step to step: its own texts, and those behind it. Assumes nothing.
use mathlib.Core.Path.{◌≡◌, refl, sym, subst, ◌∙◌}
use mathlib.Core.Bool.{Bool, true, false}
use mathlib.Core.List.{List}
use Prim.Native.Nat.{ℕ, ◌+◌, ◌-◌, ◌≤◌, ◌<◌}
use native.Mathlib.Omega.{arith}
use borrow.Author.Count.{below_more}
use borrow.Author.Tests.{ltb-true, ltb-false}
use lib.Dec.{ltb}
use Rattle.blocks.specs.declared.view.View.{View}
use Rattle.repeats.specs.Repeats.{text_at}
use Rattle.repeats.specs.Scan.{run_text, RunOf, Numbered, Told, Apart, Behind, Again, FirstRepeat}
use Rattle.repeats.specs.Chunk.{SameTexts}
use Rattle.repeats.specs.declared.Chunk.{Chunk}
use Rattle.common.specs.declared.text.Span.{Span}
use Rattle.std.proofs.Common.{Bor}
use Rattle.repeats.proofs.Numbers.{number_is}

-- ---- what holds of a chunk's texts holds of them after a step
pub after : {i j : Bor (List ℕ)} {a b : View} {m n : ℕ} → (i ≡ j) × (a ≡ b) × (m ≡ n) → (P : List ℕ → View → ℕ → Type 0) → P i.now a m → P j.now b n
after {i} {j} {a} {b} {m} {n} same P h =
    subst (P j.now b) same.2 (subst (λ (v : View). P j.now v m) same.1 (subst (λ (img : Bor (List ℕ)). P img.now a m) same.0 h))

pub both : (x y z : Chunk) → SameTexts x y → SameTexts y z → SameTexts x z
both x y z s t = (s.0 ∙ t.0, s.1 ∙ t.1, s.2 ∙ t.2)

module _ (img : List ℕ) (b : View) (start : ℕ) where
  -- ---- the text q of the index i, held against the m numbers, whose texts come before
  module _ (q : Span) (m i : ℕ) (run : RunOf img b i q) (fits : start + m ≤ i + 1) where
    pub comes_again : Numbered img b start (run_text img q) m → Again img b i
    comes_again h =
        let j = start + h.number - 1 in
        let some = h.some in
        let less = h.less in
        record {
          earlier = j;
          before = omega arith;
          same = sym (number_is img b start h.number j some (omega arith)) ∙ sym h.same ∙ run.text;
        }

    pub is_new : Told img b start (run_text img q) m false → (j : ℕ) → start ≤ j → j + 1 < start + m → text_at img b j ≡ text_at img b i → ⊥
    is_new none j low high e =
        let k = j + 1 - start in
        none k (omega arith) (omega arith) (run.text ∙ sym e ∙ sym (number_is img b start k j (omega arith) (omega arith)))

  -- ---- one text more
  pub apart_more : (stop i : ℕ) → Apart img b start stop i → ((j : ℕ) → start ≤ j → j < i → text_at img b j ≡ text_at img b i → ⊥)
      → Apart img b start stop (i + 1)
  apart_more stop i old new h j lh lj low high e =
      below_more
      (λ (k : ℕ). j < k → text_at img b j ≡ text_at img b k → ⊥)
      i
      (λ k lk l. old k j lk l low high)
      (λ l. new j low l)
      h lh lj e

  pub behind_more : (stop i : ℕ) → Behind img b start stop i → ((j : ℕ) → start ≤ j → j < stop → text_at img b j ≡ text_at img b i → ⊥)
      → Behind img b start stop (i + 1)
  behind_more stop i old new h j least lh low high e =
      below_more
      (λ (k : ℕ). stop ≤ k → text_at img b j ≡ text_at img b k → ⊥)
      i
      (λ k lk l. old k j l lk low high)
      (λ l. new j low high)
      h lh least e

-- ---- over the chunks
pub first_more : (img : List ℕ) (b : View) (n start bound r : ℕ) → FirstRepeat img b 0 start n bound → FirstRepeat img b start (start + 255) bound r
    → FirstRepeat img b 0 (start + 255) n r
first_more img b n start bound r h g = record { most = omega arith; apart = apart; again = again }
  where
    apart : Apart img b 0 (start + 255) r
    apart i j li lj low high e = go (ltb j start) refl
      where
        go : (x : Bool) → ltb j start ≡ x → ⊥
        go true p = let most = g.most in h.apart i j (omega arith) lj (omega arith) (ltb-true j start p) e
        go false p = g.apart i j li lj (ltb-false j start p) high e

    again : r < n → Again img b r
    again l = go (ltb r bound) refl
      where
        go : (x : Bool) → ltb r bound ≡ x → Again img b r
        go true p = g.again (ltb-true r bound p)
        go false p =
            let more = ltb-false r bound p in
            let most = g.most in
            let e : bound ≡ r = omega arith in
            subst (Again img b) e (h.again (omega arith))
