-- `writer::write_bits` meets its contract. Assumes nothing.
use mathlib.Core.Path.{sym}
use mathlib.Core.List.{map}
use native.Mathlib.Omega.{arith}
use lib.ListN.{length, length-map}
use Rattle.std.proofs.lemmas.Result.{err_from_is_err_and}
use Rattle.writer.specs.Write.{write_size}
use Rattle.writer.proofs.Writing.{fits_of, untouched, all_written}
use Rattle.writer.proofs.write_bits.Goals as goal

-- of an answer of n bytes, `fits_of`: the values are few enough, n is the block length, and the output has room
pub overflow_cast-values : goal.overflow_cast-values
unfolding write_size
overflow_cast-values g c = let f = fits_of c.args.block _ _ _ _ c.answer.ensures c.is_some.ensures c.in_ok-size.was in omega arith

pub put_front-at-requires : goal.put_front-at-requires
unfolding write_size
put_front-at-requires g c = let f = fits_of c.args.block _ _ _ _ c.answer.ensures c.is_some.ensures c.in_ok-size.was in omega arith

pub put_words-requires : goal.put_words-requires
unfolding write_size
put_words-requires g c = let f = fits_of c.args.block _ _ _ _ c.answer.ensures c.is_some.ensures c.in_ok-size.was in omega arith

pub overflow_mul-values : goal.overflow_mul-values
unfolding write_size
overflow_mul-values g c = let f = fits_of c.args.block _ _ _ _ c.answer.ensures c.is_some.ensures c.in_ok-size.was in omega arith

pub overflow_add-at : goal.overflow_add-at
unfolding write_size
overflow_add-at g c = let f = fits_of c.args.block _ _ _ _ c.answer.ensures c.is_some.ensures c.in_ok-size.was in omega arith

pub put_zeros-requires : goal.put_zeros-requires
unfolding write_size
put_zeros-requires g c = let f = fits_of c.args.block _ _ _ _ c.answer.ensures c.is_some.ensures c.in_ok-size.was in omega arith

pub returns-in_err-size : goal.returns-in_err-size
returns-in_err-size g c =
    let a = c.args in
    let vs = a.values.now in
    let p = err_from_is_err_and c.from_residual.result c.from_residual.ensures.1 in
    rw (p.1, p.2)
    (untouched a.block a.refs.now (map g.W.Word.bits vs) a.out.now (length vs) (sym (length-map vs g.W.Word.bits)) c.is_some.ensures c.answer.result c.answer.ensures
    c.in_err-size.field-0.0 c.in_err-size.was)

pub returns : goal.returns
returns g c =
    let a = c.args in
    let vs = a.values.now in
    all_written a.block a.refs.now (map g.W.Word.bits vs) a.out.now (length vs) (sym (length-map vs g.W.Word.bits)) c.is_some.ensures c.answer.result c.answer.ensures
    c.in_ok-size.size c.put_front-at.result c.put_front-at.new.out c.put_words.new.out c.put_zeros.new.out
    c.in_ok-size.was c.put_front-at.ensures.0 c.put_front-at.ensures.1 c.put_words.ensures c.put_zeros.ensures
