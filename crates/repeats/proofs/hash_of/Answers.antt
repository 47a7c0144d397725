-- `repeats::hash_of` meets its contract. Before each turn the bytes from the index on are still to be added. Assumes nothing.
use mathlib.Core.Path.{refl, sym, ◌∙◌}
use Rattle.common.specs.Text.{text_bytes}
use Rattle.repeats.specs.Scan.{run_text, hash_of}
use Rattle.repeats.proofs.Hashes.{hash_zero, hash_more, hash_none}
use Rattle.repeats.proofs.hash_of.Goals as goal

pub loop-byte-init : goal.loop-byte-init
unfolding run_text hash_of text_bytes
loop-byte-init c = refl

pub returns-then-byte-eq0 : goal.returns-then-byte-eq0
returns-then-byte-eq0 c =
    let l = c.loop-byte in
    sym (hash_zero _ l.h l.byte-index c.loop-byte-test.true c.if-byte-eq0.true) ∙ l.invariant

pub loop-byte-preserved : goal.loop-byte-preserved
loop-byte-preserved c =
    let l = c.loop-byte in
    sym (hash_more _ l.h l.byte-index c.from.result c.from.ensures c.loop-byte-test.true c.if-byte-eq0.false) ∙ l.invariant

pub returns : goal.returns
returns c =
    let l = c.loop-byte in
    sym (hash_none _ l.h l.byte-index c.loop-byte-test.false) ∙ l.invariant
