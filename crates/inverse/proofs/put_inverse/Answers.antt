-- `inverse::put_inverse` meets its contract. Assumes nothing.
use Rattle.words.proofs.Slices.{length_words}
use Rattle.inverse.proofs.Writing.{inverse_put}
use Rattle.inverse.proofs.put_inverse.Goals as goal

pub returns : goal.returns
returns c =
    let a = c.args in
    let img = a.image.now in
    let n = a.b.valcount in
    inverse_put a.b _ _ n (length_words img a.b.firstref n) (length_words img a.b.firstval n) _ a.out.now _ _ _ _ _ c.inverse_of-made.ensures c.put.ensures c.put_fixed.ensures c.put_words.ensures c.put_fields.ensures c.put_words-2.ensures
