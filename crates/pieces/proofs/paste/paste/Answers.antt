-- `pieces::paste::paste` meets its contract. Assumes nothing.
use mathlib.Core.Path.{◌≡◌, refl}
use Prim.Native.Nat.{◌+◌, ◌-◌, min}
use native.Mathlib.Omega.{arith}
use lib.ListN.{length}
use Rattle.common.specs.Text.{text_bytes}
use Rattle.common.proofs.Texts.{bytes_short}
use Rattle.pieces.proofs.Laws.{looked_part, text_put}
use Rattle.pieces.proofs.paste.paste.Goals as goal

pub copy-requires : goal.copy-requires
copy-requires c =
    let a = c.args in
    omega (arith, bytes_short a.image.now a.run.from a.run.to, c.measure-end.ensures)

pub returns : goal.returns
returns c =
    let a = c.args in
    let img = a.image.now in
    let t = text_bytes img a.run.from a.run.to in
    let n = c.measure-end.result - a.run.from in
    let few : n ≡ min (length t) (length a.out.now + 1 - a.place.pos) = omega (arith, c.measure-end.ensures) in
    text_put t n c.requires.0 few refl refl (looked_part img a.run.from a.run.to n (omega arith)) c.copy.ensures
