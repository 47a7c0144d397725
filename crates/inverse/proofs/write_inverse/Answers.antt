-- `inverse::write_inverse` meets its contract. Assumes nothing.
use mathlib.Core.Path.{sym}
use native.Mathlib.Omega.{arith}
use Rattle.words.specs.Words.{words}
use Rattle.words.proofs.Slices.{length_words}
use Rattle.common.proofs.Holding.{none_held, put_held}
use Rattle.writer.specs.Write.{block_bytes}
use Rattle.inverse.specs.Invert.{inverse_of}
use Rattle.inverse.proofs.Writing.{length_inverse}
use Rattle.inverse.proofs.write_inverse.Goals as goal

pub returns-then-out-size : goal.returns-then-out-size
returns-then-out-size c =
    let a = c.args in
    let img = a.image.now in
    let n = a.b.valcount in
    let refs = words img a.b.firstref n in
    let values = words img a.b.firstval n in
    let long = length_inverse a.b refs values n (length_words img a.b.firstref n) (length_words img a.b.firstval n) in
    sym (none_held (block_bytes (inverse_of a.b) refs values) a.out.now (omega (arith, long)))

pub returns : goal.returns
returns c =
    let a = c.args in
    let img = a.image.now in
    let n = a.b.valcount in
    let refs = words img a.b.firstref n in
    let values = words img a.b.firstval n in
    let long = length_inverse a.b refs values n (length_words img a.b.firstref n) (length_words img a.b.firstval n) in
    put_held (block_bytes (inverse_of a.b) refs values) a.out.now (sym long) (omega arith) c.put_inverse.ensures
