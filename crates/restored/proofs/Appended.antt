-- What is set behind an image changes nothing of the numbers and texts that lie in it. Assumes nothing.
use Rattle.std.specs.Prelude.{None, Option, Some}
use mathlib.Core.Path.{◌≡◌, refl, sym, ap, ap₂, ◌∙◌}
use mathlib.Core.Bool.{Bool, true, false, not, ◌&&◌, cond}
use mathlib.Core.List.{List, ◌++◌}
use Prim.Native.Nat.{ℕ, ◌+◌, ◌-◌, ◌≤◌}
use native.Mathlib.Omega.{arith}
use borrow.Author.Tests.{le-leb, leb-true, eq-eqb, eqb-true, eqb-false}
use lib.Dec.{leb, eqb}
use lib.ListN.{length, take, drop, length-append, length-drop, get_or-append}
use lib.Seq.{take-append-le, drop-append-le}
use Rattle.words.specs.Words.{word16, word32, word64}
use Rattle.words.proofs.Clash.{clash}
use Rattle.common.specs.Header.{inside, text_id, has_id, conversion_id, is_conversion}
use Rattle.common.specs.Text.{until_zero, is_whole_text, run_at, run_of, text_bytes}
use Rattle.common.proofs.Headers.{inside_fits}
use Rattle.common.proofs.Texts.{run_inside, run_whole}
use Rattle.common.specs.declared.text.Span.{Span}

-- what is told by a link's run: the link is not NIL, and a whole ##TX stands there
pub record IsRun (img : List ℕ) (link : ℕ) (run : Span) : Type 0 where
  pub linked : link ≡ 0 → ⊥
  pub header : link + 24 ≤ length img
  pub id : word32 img link ≡ text_id
  pub long : 24 ≤ word64 img (link + 8)
  pub within : link + word64 img (link + 8) ≤ length img
  pub start : run.from ≡ link + 24
  pub end : run.to ≡ link + word64 img (link + 8)

pub is_run : (img : List ℕ) (link : ℕ) (run : Span) → run_of img link ≡ Some run → IsRun img link run
unfolding run_of run_at is_whole_text has_id
is_run img link run =
    go (eqb link 0) refl (inside img link) refl (eqb (word32 img link) text_id) refl (leb 24 (word64 img (link + 8))) refl
    (leb (link + word64 img (link + 8)) (length img)) refl
  where
    go : (z : Bool) → eqb link 0 ≡ z → (i : Bool) → inside img link ≡ i → (t : Bool) → eqb (word32 img link) text_id ≡ t
        → (u : Bool) → leb 24 (word64 img (link + 8)) ≡ u → (v : Bool) → leb (link + word64 img (link + 8)) (length img) ≡ v
        → cond (not z && i) (cond (t && u && v) (Some (record { from = link + 24; to = link + word64 img (link + 8) })) None) None ≡ Some run → IsRun img link run
    go false p true q true r true s true w e =
        let there : run ≡ record { from = link + 24; to = link + word64 img (link + 8) } = cc in
        record {
          linked = eqb-false link 0 p;
          header = inside_fits img link q;
          id = eqb-true (word32 img link) text_id r;
          long = leb-true 24 (word64 img (link + 8)) s;
          within = leb-true (link + word64 img (link + 8)) (length img) w;
          start = ap (λ (s : Span). s.from) there;
          end = ap (λ (s : Span). s.to) there;
        }
    go false p true q true r true s false w e = clash cc
    go false p true q true r false s v w e = clash cc
    go false p true q false r u s v w e = clash cc
    go false p false q t r u s v w e = clash cc
    go true p i q t r u s v w e = clash cc

module _ (xs ys : List ℕ) where
  pub word16_first : (k : ℕ) → k + 2 ≤ length xs → word16 (xs ++ ys) k ≡ word16 xs k
  unfolding word16
  word16_first k h = rw (get_or-append xs ys 0 k (omega arith), get_or-append xs ys 0 (k + 1) (omega arith))

  pub word32_first : (k : ℕ) → k + 4 ≤ length xs → word32 (xs ++ ys) k ≡ word32 xs k
  unfolding word32
  word32_first k h = rw (word16_first k (omega arith), word16_first (k + 2) (omega arith))

  pub word64_first : (k : ℕ) → k + 8 ≤ length xs → word64 (xs ++ ys) k ≡ word64 xs k
  unfolding word64
  word64_first k h = rw (word32_first k (omega arith), word32_first (k + 4) (omega arith))

  pub bytes_first : (from to : ℕ) → from ≤ to → to ≤ length xs → text_bytes (xs ++ ys) from to ≡ text_bytes xs from to
  unfolding text_bytes
  bytes_first from to h k =
      let few : to - from ≤ length (drop from xs) = omega (arith, length-drop from xs) in
      ap (λ (s : List ℕ). until_zero (take (to - from) s)) (drop-append-le from xs ys (omega arith)) ∙ ap until_zero (take-append-le (to - from) (drop from xs) ys few)

  -- a text that a link leads to, and that what stands there is no conversion
  module _ (link : ℕ) (run : Span) (is : IsRun xs link run) where
    size_first : word64 (xs ++ ys) (link + 8) ≡ word64 xs (link + 8)
    size_first = word64_first (link + 8) (omega (arith, is.header))

    id_first : word32 (xs ++ ys) link ≡ text_id
    id_first = word32_first link (omega (arith, is.header)) ∙ is.id

    longer : length (xs ++ ys) ≡ length xs + length ys
    longer = length-append xs ys

    pub run_first : run_of (xs ++ ys) link ≡ Some run
    unfolding inside has_id
    run_first =
        let here : inside (xs ++ ys) link ≡ true = le-leb (link + 24) (length (xs ++ ys)) (omega (arith, is.header, longer)) in
        let tx : has_id text_id (xs ++ ys) link ≡ true = eq-eqb (word32 (xs ++ ys) link) text_id id_first in
        let start : link + 24 ≡ run.from = sym is.start in
        let end : link + word64 (xs ++ ys) (link + 8) ≡ run.to = ap (λ (k : ℕ). link + k) size_first ∙ sym is.end in
        run_inside (xs ++ ys) link is.linked here
        ∙ run_whole text_id (xs ++ ys) link tx (omega (arith, size_first, is.long)) (omega (arith, size_first, is.within, longer))
        ∙ ap₂ (λ (from to : ℕ). Some (record { from = from; to = to })) start end

    pub no_conversion : is_conversion (xs ++ ys) link ≡ false
    unfolding is_conversion
    no_conversion = ap (λ (k : ℕ). eqb k conversion_id) id_first
