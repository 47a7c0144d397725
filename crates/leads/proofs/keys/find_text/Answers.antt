-- `leads::keys::find_text` meets its contract. Assumes nothing.
use mathlib.Core.Path.{◌≡◌, sym, ap, ◌∙◌}
use Prim.Native.Nat.{◌+◌, ◌-◌}
use native.Mathlib.Nat.{mul-le-mul_right}
use native.Mathlib.Omega.{arith}
use Rattle.leads.specs.Keys.{first_text}
use Rattle.leads.proofs.Leads.{key_here, key_later, no_key}
use Rattle.leads.proofs.keys.find_text.Goals as goal

pub loop-j-init : goal.loop-j-init
loop-j-init c =
    let s = c.args in
    let e : s.n ≡ s.n - 0 = omega arith in
    ap (first_text s.image.now s.b s.text.now s.stride 0) e

pub overflow_mul-stride : goal.overflow_mul-stride
overflow_mul-stride c =
    let s = c.args in
    omega (arith, mul-le-mul_right c.loop-j.j c.requires.0)

pub returns-then-is_key : goal.returns-then-is_key
returns-then-is_key c =
    let l = c.loop-j in
    let s = c.args in
    sym (l.invariant ∙ key_here s.image.now s.b s.text.now s.stride l.j (s.n - l.j) (omega arith) (sym c.is_key.ensures ∙ c.if-is_key.true))

pub loop-j-preserved : goal.loop-j-preserved
loop-j-preserved c =
    let l = c.loop-j in
    let s = c.args in
    let rest : s.n - l.j - 1 ≡ s.n - (l.j + 1) = omega arith in
    l.invariant
    ∙ key_later s.image.now s.b s.text.now s.stride l.j (s.n - l.j) (s.n - (l.j + 1)) (omega arith) rest (sym c.is_key.ensures ∙ c.if-is_key.false)

pub returns : goal.returns
returns c =
    let l = c.loop-j in
    let s = c.args in
    let all : s.n ≡ l.j = omega arith in
    all ∙ sym (l.invariant ∙ no_key s.image.now s.b s.text.now s.stride l.j (s.n - l.j) (omega arith))
