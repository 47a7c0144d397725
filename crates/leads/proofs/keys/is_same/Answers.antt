-- `leads::keys::is_same` meets its contract. Assumes nothing.
use mathlib.Core.Path.{◌≡◌, sym, ◌∙◌}
use mathlib.Core.Logic.{⊎_elim}
use Prim.Native.Nat.{◌+◌}
use native.Mathlib.Omega.{arith}
use Rattle.leads.proofs.Same.{same_longer, same_ended, same_more, same_stop}
use Rattle.leads.proofs.keys.is_same.Goals as goal

pub returns-then-run-text : goal.returns-then-run-text
returns-then-run-text c =
    let s = c.args in
    sym (same_longer s.image.now s.text.now s.run.to (omega arith) s.run.from c.if-run-text.true)

pub returns-then-b-c : goal.returns-then-b-c
returns-then-b-c c =
    let l = c.loop-i in
    let s = c.args in
    let p = s.run.from + l.i in
    sym
    (l.invariant
    ∙ ⊎_elim
    (λ other. same_stop s.image.now s.text.now s.run.to (omega arith) p l.i (omega arith) (omega arith) other)
    (λ zero. same_ended s.image.now s.text.now s.run.to (omega arith) p l.i (omega arith) (omega arith) zero.1)
    c.then-b-c.either)

pub loop-i-preserved : goal.loop-i-preserved
loop-i-preserved c =
    let l = c.loop-i in
    let s = c.args in
    let place : s.run.from + (l.i + 1) ≡ s.run.from + l.i + 1 = omega arith in
    l.invariant
    ∙ rw place
    (same_more s.image.now s.text.now s.run.to (omega arith) (s.run.from + l.i) l.i (omega arith) (omega arith) c.if-b-c.false c.if-b-eq0.false)
