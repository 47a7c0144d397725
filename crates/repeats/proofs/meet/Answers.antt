-- `repeats::meet` meets its contract. Assumes nothing.
use mathlib.Core.Path.{sym, subst, ◌∙◌}
use mathlib.Core.List.{List}
use Prim.Native.Nat.{ℕ, ◌≤◌}
use native.Mathlib.Omega.{arith}
use Rattle.repeats.specs.Repeats.{text_at}
use Rattle.repeats.specs.Scan.{in_common, run_text}
use Rattle.repeats.proofs.Common.{meets_first, meets_later, meets_both, meets_mark, meets_within}
use Rattle.repeats.proofs.meet.Goals as goal

pub returns-then-a-s : goal.returns-then-a-s
returns-then-a-s c =
    meets_first (run_text c.args.image.now c.args.q) (text_at c.args.image.now c.args.b c.args.i) c.args.a c.args.s c.args.mark c.requires.1 c.if-a-s.true

pub returns-then-s-a : goal.returns-then-s-a
returns-then-s-a c =
    meets_later (run_text c.args.image.now c.args.q) (text_at c.args.image.now c.args.b c.args.i) c.args.a c.args.s c.args.mark c.requires.1 c.if-s-a.true

pub byte_at-requires : goal.byte_at-requires
byte_at-requires c =
    (c.requires.0, meets_within (run_text c.args.image.now c.args.q) (text_at c.args.image.now c.args.b c.args.i) c.args.a c.args.s c.args.mark c.requires.1)

pub returns-then-byte_at-mark : goal.returns-then-byte_at-mark
returns-then-byte_at-mark c =
    meets_mark (run_text c.args.image.now c.args.q) (text_at c.args.image.now c.args.b c.args.i) c.args.a c.args.s c.args.mark c.requires.1 (omega arith)
    (λ e. c.if-byte_at-mark.true (c.byte_at.ensures ∙ e))

pub compare-requires : goal.compare-requires
compare-requires c = (
  c.requires.0,
  c.run_at-t.ensures.inner,
  subst (λ (t : List ℕ). c.args.a ≤ in_common (run_text c.args.image.now c.args.q) t) (sym c.run_at-t.ensures.text)
      (meets_both (run_text c.args.image.now c.args.q) (text_at c.args.image.now c.args.b c.args.i) c.args.a c.args.s c.args.mark c.requires.1 (omega arith)),
)
