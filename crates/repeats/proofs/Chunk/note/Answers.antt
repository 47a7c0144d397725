-- `repeats::Chunk::note` meets its contract. Assumes nothing.
use mathlib.Core.Path.{refl, sym, ◌∙◌}
use Prim.Native.Nat.{◌+◌, ◌-◌}
use native.Mathlib.Omega.{arith}
use borrow.Author.Rules.{rules}
use Rattle.repeats.specs.Scan.{run_text}
use Rattle.repeats.proofs.Common.{no_longer}
use Rattle.repeats.proofs.Numbers.{number_is, row_more, kept_more}
use Rattle.repeats.proofs.Chunk.note.Goals as goal

pub byte_at-requires : goal.byte_at-requires
byte_at-requires c =
    (c.requires.next.inner, no_longer _ _ _ (c.requires.agreed c.largest-below.result c.largest-below.ensures).0)

pub invariant_of-self : goal.invariant_of-self
invariant_of-self c =
    let s = c.args.self.now in
    let img = s.image.now in
    let m = s.count in
    let is = c.requires.next.text ∙ sym (number_is img s.b s.start m (s.start + m - 1) s.few.0 (omega arith)) in
    record {
      few = (omega arith, omega arith, omega arith);
      kept =
          kept_more img s.b s.start s.rows s.shared m _ _ (search rules) (search rules) s.kept
          (row_more img s.b s.start (run_text img c.args.q) c.args.agree.now m _ _ is c.requires.agreed c.largest-below.ensures refl c.byte_at.ensures);
    }
