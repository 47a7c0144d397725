-- `keys::first_fault` meets its contract. Assumes nothing.
use mathlib.Core.Path.{◌≡◌, sym, ap, ◌∙◌}
use Prim.Native.Nat.{◌+◌}
use native.Mathlib.Omega.{arith}
use borrow.Author.Rules.{rules}
use Rattle.std.specs.Prelude.{Err}
use Rattle.repeats.specs.Repeats.{first_of}
use Rattle.keys.specs.Keys.{key_among, unusable, KeysIn, Numbers}
use Rattle.keys.proofs.Faults.{found_first, first_within, usable_numbers, fault_repeated, fault_unusable, faultless}
use Rattle.keys.proofs.first_fault.Goals as goal
use Rattle.keys.proofs.first_fault.Goals.{After-first_doubted-usable, After-first_doubted-i}

-- what the two searches with a closure found
usable : (c : After-first_doubted-usable) → c.first_doubted-usable.result ≡ first_of (unusable c.args.image.now c.args.b) 0 c.args.b.valcount
usable c =
    let p = unusable c.args.image.now c.args.b in
    found_first _ p c.from-n.result c.first_doubted-usable.result (λ i x less h. search rules) c.first_doubted-usable.ensures ∙ ap (first_of p 0) c.from-n.ensures

again : (c : After-first_doubted-i) → c.first_doubted-i.result ≡ first_of (λ i. key_among c.args.image.now c.args.b i i) 0 c.first_repeat-unlike.result
again c =
    found_first _ (λ i. key_among c.args.image.now c.args.b i i) c.first_repeat-unlike.result c.first_doubted-i.result (λ i x less h. search rules)
    c.first_doubted-i.ensures

pub first_doubted-i-requires : goal.first_doubted-i-requires
first_doubted-i-requires c =
    let a = c.args in
    let img = a.image.now in
    let fewer = first_within _ _ _ c.first_repeat-unlike.ensures in
    let at = (goal.at.first_doubted-i-requires c).After-first_doubted-usable in
    let numbers = usable_numbers img a.b a.b.valcount c.first_doubted-usable.result (usable at) c.first_repeat-unlike.result fewer in
    λ i less.
    let known : KeysIn img a.b (i + 1) × Numbers img a.b (i + 1) = (omega (arith, c.first_doubted-usable.ensures.most), λ j l. numbers j (omega arith)) in
    search rules

pub returns-then-i-usable : goal.returns-then-i-usable
returns-then-i-usable c =
    let a = c.args in
    let at = goal.at.returns-then-i-usable c in
    sym (fault_repeated a.image.now a.b _ _ _ _ (usable at.After-first_doubted-usable) c.first_repeat-unlike.ensures (again at.After-first_doubted-i) c.if-i-usable.true)

pub returns-then-usable-n : goal.returns-then-usable-n
returns-then-usable-n c =
    let a = c.args in
    let at = goal.at.returns-then-usable-n c in
    ap Err c.why_unusable.ensures
    ∙ sym (
    fault_unusable a.image.now a.b _ _ _ _ (usable at.After-first_doubted-usable) c.first_repeat-unlike.ensures (again at.After-first_doubted-i)
    c.if-i-usable.false (omega arith)
    )

pub returns : goal.returns
returns c =
    let a = c.args in
    let at = goal.at.returns c in
    sym (
    faultless a.image.now a.b _ _ _ _ (usable at.After-first_doubted-usable) c.first_repeat-unlike.ensures (again at.After-first_doubted-i)
    c.if-i-usable.false (omega arith)
    )
