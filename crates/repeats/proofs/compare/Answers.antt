-- `repeats::compare` meets its contract. Assumes nothing.
use mathlib.Core.Path.{◌≡◌, sym, ◌∙◌}
use Prim.Native.Nat.{ℕ, ◌+◌, ◌≤◌}
use native.Mathlib.Omega.{arith}
use mathlib.Core.List.{List}
use lib.ListN.{get_or}
use Rattle.common.proofs.Texts.{bytes_short}
use Rattle.repeats.specs.Scan.{in_common, run_text}
use Rattle.repeats.proofs.Common.{in_common_short, in_common_short', one_more, differs, both_end}
use Rattle.repeats.proofs.Rests.{ends}
use Rattle.repeats.proofs.compare.Goals as goal

-- one byte more
goes_on : (q t : List ℕ) (i c d : ℕ) → i ≤ in_common q t → c ≡ get_or q i 0 → d ≡ get_or t i 0 → c ≡ d → (c ≡ 0 → ⊥) → i + 1 ≤ in_common q t
goes_on q t i c d h here there same z = one_more q t i h (sym here ∙ same ∙ there) (λ e. z (here ∙ e))

pub byte_at-c-requires : goal.byte_at-c-requires
byte_at-c-requires c =
    let img = c.args.image.now in
    (c.requires.0, omega (arith, c.loop-x.invariant, in_common_short (run_text img c.args.x) (run_text img c.args.y)))

pub byte_at-requires : goal.byte_at-requires
byte_at-requires c =
    let img = c.args.image.now in
    (c.requires.1, omega (arith, c.loop-x.invariant, in_common_short' (run_text img c.args.x) (run_text img c.args.y)))

pub returns-then-c-byte_at : goal.returns-then-c-byte_at
returns-then-c-byte_at c =
    let img = c.args.image.now in
    let l = c.loop-x in
    differs (run_text img c.args.x) (run_text img c.args.y) l.i l.invariant
    (λ e. c.if-c-byte_at.true (c.byte_at-c.ensures ∙ e ∙ sym c.byte_at.ensures))

pub returns-then-c-eq0 : goal.returns-then-c-eq0
unfolding run_text
returns-then-c-eq0 c =
    let img = c.args.image.now in
    let l = c.loop-x in
    let x = c.args.x in
    let y = c.args.y in
    let zero-x : get_or (run_text img x) l.i 0 ≡ 0 = sym c.byte_at-c.ensures ∙ c.if-c-eq0.true in
    let zero-y : get_or (run_text img y) l.i 0 ≡ 0 = sym c.byte_at.ensures ∙ sym c.if-c-byte_at.false ∙ c.if-c-eq0.true in
    both_end (run_text img x) (run_text img y) l.i l.invariant
    (ends img x.to c.requires.0.1 x.from l.i (omega (arith, l.invariant, in_common_short (run_text img x) (run_text img y))) zero-x)
    (ends img y.to c.requires.1.1 y.from l.i (omega (arith, l.invariant, in_common_short' (run_text img x) (run_text img y))) zero-y)

pub overflow_add-i : goal.overflow_add-i
unfolding run_text
overflow_add-i c =
    let img = c.args.image.now in
    let x = c.args.x in
    omega (arith, goes_on (run_text c.args.image.now c.args.x) (run_text c.args.image.now c.args.y) c.loop-x.i _ _ c.loop-x.invariant c.byte_at-c.ensures c.byte_at.ensures c.if-c-byte_at.false c.if-c-eq0.false, in_common_short (run_text img x) (run_text img c.args.y), bytes_short img x.from x.to, c.requires.0.1)

pub loop-x-preserved : goal.loop-x-preserved
loop-x-preserved c =
    goes_on (run_text c.args.image.now c.args.x) (run_text c.args.image.now c.args.y) c.loop-x.i _ _ c.loop-x.invariant c.byte_at-c.ensures c.byte_at.ensures c.if-c-byte_at.false c.if-c-eq0.false
