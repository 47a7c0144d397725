-- `words::put_zeros` meets its contract. Before each turn i zero bytes are out. Assumes nothing.
use mathlib.Core.Path.{◌≡◌, refl, ap, ◌∙◌}
use mathlib.Core.List.{List}
use Prim.Native.Nat.{ℕ, ◌+◌}
use native.Mathlib.Omega.{arith}
use Rattle.words.specs.Words.{put, zeros}
use Rattle.words.proofs.Laws.{zeros_more}
use borrow.Author.Rules.{rules}
use Rattle.words.proofs.put_zeros.Goals as goal

pub loop-i-init : goal.loop-i-init
unfolding put
loop-i-init c = (omega arith, refl, refl)

pub loop-i-preserved : goal.loop-i-preserved
loop-i-preserved c =
    let z = c.put_first_zeros-i in
    let a = c.args in (
      omega arith,
      search rules,
      z.ensures.2 ∙ ap (λ (o : List ℕ). put o (a.at + c.loop-i.i) (zeros z.result)) c.loop-i.invariant.2
          ∙ zeros_more a.out.now a.at c.loop-i.i z.result,
    )

pub returns : goal.returns
returns c =
    let a = c.args in
    let done : c.loop-i.i ≡ a.count = omega arith in
    c.loop-i.invariant.2 ∙ ap (λ (k : ℕ). put a.out.now a.at (zeros k)) done
