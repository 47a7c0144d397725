-- `repeats::Chunk::hold` meets its contract. Before each turn it is known what q has in common with the numbers under k. Assumes nothing.
use mathlib.Core.Path.{sym, subst, ◌∙◌}
use mathlib.Core.List.{List}
use Prim.Native.Nat.{ℕ, ◌+◌, ◌-◌}
use native.Mathlib.Omega.{arith}
use Rattle.std.specs.Prelude.{Some}
use Rattle.repeats.specs.Scan.{run_text, MetBy, no_row}
use lib.ListN.{get_or}
use Rattle.repeats.proofs.Numbers.{number_is, through, agreed_none, agreed_more}
use borrow.Author.Rules.{rules}
use Rattle.repeats.proofs.Chunk.hold.Goals as goal

pub loop-k-init : goal.loop-k-init
loop-k-init c =
    let s = c.args.self.now in
    agreed_none s.image.now s.b s.start (run_text s.image.now c.args.q) c.args.agree.now (search rules)

pub meet-requires : goal.meet-requires
meet-requires c =
    let s = c.args.self.now in
    let l = c.loop-k in (
      c.requires,
      through s.image.now s.b s.start (run_text s.image.now c.args.q) l.agree (get_or s.rows l.k no_row) (get_or s.shared l.k 0) l.k (s.start + l.k - 1)
          (s.kept l.k l.auto.k c.loop-k-test.true) l.auto.k (omega arith) l.invariant,
    )

pub returns-in-None : goal.returns-in-None
returns-in-None c =
    let s = c.args.self.now in
    let l = c.loop-k in
    record {
      number = l.k;
      some = l.auto.k;
      less = c.loop-k-test.true;
      same = c.in-None.ensures ∙ sym (number_is s.image.now s.b s.start l.k (s.start + l.k - 1) l.auto.k (omega arith));
    }

pub loop-k-preserved : goal.loop-k-preserved
loop-k-preserved c =
    let s = c.args.self.now in
    let l = c.loop-k in
    let n = number_is s.image.now s.b s.start l.k (s.start + l.k - 1) l.auto.k (omega arith) in
    agreed_more s.image.now s.b s.start (run_text s.image.now c.args.q) l.agree l.k c.in-Some.m (search rules) l.invariant
    (subst (λ (t : List ℕ). MetBy (run_text s.image.now c.args.q) t (Some c.in-Some.m)) (sym n) c.in-Some.ensures)
