-- `repair::rewrite` meets its contract. Assumes nothing.
use Rattle.std.specs.Prelude.{Ok}
use mathlib.Core.Path.{◌≡◌, sym, ◌∙◌}
use mathlib.Core.List.{List}
use Prim.Native.Nat.{ℕ, ◌-◌, ◌≤◌}
use native.Mathlib.Omega.{arith}
use lib.ListN.{length, length-take}
use lib.Seq.{length-take-le}
use Rattle.blocks.specs.Block.{parsed_for_repair}
use Rattle.blocks.specs.declared.Block.{Block}
use Rattle.repair.proofs.Holding.{rewriting}
use Rattle.repair.proofs.Reading.{references_fit, values_fit, no_padding}
use Rattle.repair.proofs.rewrite.Goals as goal

-- so many references and values lie in 30,000 bytes
few_references : (input : List ℕ) (b : Block) {n : ℕ} → length input ≤ 30000 → parsed_for_repair input 0 ≡ Ok b → n ≡ b.links - 4 → n ≤ 3750
few_references input b short whole e = omega (arith, references_fit input 0 b whole)

few_values : (input : List ℕ) (b : Block) → length input ≤ 30000 → parsed_for_repair input 0 ≡ Ok b → b.valcount ≤ 3750
few_values input b short whole = omega (arith, values_fit input 0 b whole)

pub slice_bounds-refs-end : goal.slice_bounds-refs-end
slice_bounds-refs-end c = few_references c.args.input.now c.args.block c.requires.0 c.requires.1 c.reference_count.ensures

pub slice_bounds-refs-end-2 : goal.slice_bounds-refs-end-2
slice_bounds-refs-end-2 c =
    let few = few_references c.args.input.now c.args.block c.requires.0 c.requires.1 c.reference_count.ensures in
    sym (length-take-le _ _ (omega arith))

pub gather-requires : goal.gather-requires
gather-requires c = omega (arith, references_fit c.args.input.now 0 c.args.block c.requires.1, c.reference_count.ensures, length-take {A = ℕ})

pub slice_bounds-values-end : goal.slice_bounds-values-end
slice_bounds-values-end c = few_values c.args.input.now c.args.block c.requires.0 c.requires.1

pub slice_bounds-values-end-2 : goal.slice_bounds-values-end-2
slice_bounds-values-end-2 c =
    let few = few_values c.args.input.now c.args.block c.requires.0 c.requires.1 in
    sym (length-take-le _ _ (omega arith))

pub gather-requires-2 : goal.gather-requires-2
gather-requires-2 c = omega (arith, values_fit c.args.input.now 0 c.args.block c.requires.1, length-take {A = ℕ})

pub returns : goal.returns
returns c =
    let a = c.args in
    let few = few_values a.input.now a.block c.requires.0 c.requires.1 in
    let few_refs = few_references a.input.now a.block c.requires.0 c.requires.1 c.reference_count.ensures in
    rewriting a.input.now a.out.now a.block c.gather.ensures c.gather-2.ensures c.write_words.ensures
    (length-take-le _ _ (omega arith) ∙ c.reference_count.ensures) (length-take-le _ _ (omega arith)) (omega arith) (no_padding a.input.now 0 a.block c.requires.1).1
