-- `inverse::invert_block` meets its contract. Assumes nothing.
use Rattle.std.specs.Prelude.{Err, Ok}
use Rattle.std.proofs.lemmas.Result.{err_from_is_err_and}
use mathlib.Core.Path.{sym, ap, subst, ◌∙◌}
use mathlib.Core.List.{List}
use Prim.Native.Nat.{ℕ}
use Rattle.blocks.specs.View.{view_of}
use Rattle.blocks.specs.declared.view.View.{View}
use Rattle.common.specs.Written.{holding}
use Rattle.keys.specs.Keys.{KeysIn}
use Rattle.keys.proofs.Faults.{references_enough}
use Rattle.inverse.proofs.Writing.{keys_in, key_places, block_is, other_type, of_fault, fault_seen}
use Rattle.inverse.proofs.invert_block.Goals as goal

pub returns-then-b-ne-VALUE_TO_TEXT : goal.returns-then-b-ne-VALUE_TO_TEXT
returns-then-b-ne-VALUE_TO_TEXT c =
    let a = c.args in
    sym (other_type a.image.now a.address a.b a.out.now c.if-b-ne-VALUE_TO_TEXT.true)

pub first_fault-requires : goal.first_fault-requires
first_fault-requires c =
    let a = c.args in
    subst (λ (v : View). KeysIn a.image.now v v.valcount) (sym c.from.ensures) (keys_in a.image.now a.address a.b c.requires)

pub write_inverse-requires : goal.write_inverse-requires
write_inverse-requires c =
    let a = c.args in
    key_places a.image.now a.address a.b c.requires (references_enough a.image.now (view_of a.b) a.b.valcount
    (fault_seen a.image.now a.b _ _ (Ok tt) c.from.ensures c.first_fault.ensures c.in_ok-first_fault.was))

pub returns-in_err-first_fault : goal.returns-in_err-first_fault
returns-in_err-first_fault c =
    let a = c.args in
    let p = err_from_is_err_and c.from_residual.result c.from_residual.ensures.1 in
    rw (p.1, p.2)
    (sym (of_fault a.image.now a.address a.b a.out.now c.if-b-ne-VALUE_TO_TEXT.false (Err c.in_err-first_fault.field-0.0)
    (fault_seen a.image.now a.b _ _ _ c.from.ensures c.first_fault.ensures c.in_err-first_fault.was)))

pub returns : goal.returns
returns c =
    let a = c.args in
    let none = fault_seen a.image.now a.b _ _ (Ok tt) c.from.ensures c.first_fault.ensures c.in_ok-first_fault.was in
    c.write_inverse.ensures
    ∙ sym (of_fault a.image.now a.address a.b a.out.now c.if-b-ne-VALUE_TO_TEXT.false (Ok tt) none
    ∙ ap (λ (bytes : List ℕ). holding bytes a.out.now) (block_is a.image.now a.address a.b c.requires (references_enough a.image.now (view_of a.b) a.b.valcount none)))
