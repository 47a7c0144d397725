-- What is known where an inverse block was made: the block that it was made from has type 7 and keys without a fault, and the output begins with the new
-- block; and request [7]'s promise of what was made. Assumes nothing.
use Rattle.std.specs.Prelude.{Err, Ok, Result}
use mathlib.Core.Path.{◌≡◌, refl, sym, ap, ◌∙◌}
use mathlib.Core.Bool.{Bool, true, false, cond}
use mathlib.Core.List.{List, [], ◌++◌, append-nil}
use Prim.Native.Nat.{ℕ, ◌+◌, ◌*◌, ◌≤◌, ◌<◌}
use borrow.Author.Tests.{eqb-true}
use lib.Dec.{eqb}
use lib.ListN.{length, take, drop}
use lib.Seq.{take-append_seam}
use lib.Ieee.{binary64, to_bits}
use Rattle.words.specs.Words.{word64, words}
use Rattle.words.proofs.Clash.{clash}
use Rattle.words.proofs.Slices.{Bytes, length_words}
use Rattle.common.specs.Written.{WriteCall, write_call, holding}
use Rattle.common.proofs.Holding.{held}
use Rattle.common.specs.declared.refusal.Refusal.TheVariants.{WrongType}
use Rattle.blocks.specs.Block.{parsed}
use Rattle.blocks.specs.View.{view_of}
use Rattle.blocks.specs.declared.Block.{Block}
use Rattle.writer.specs.Write.{block_bytes}
use Rattle.repeats.specs.Repeats.{text_at}
use Rattle.keys.specs.Keys.{key_at, first_fault}
use Rattle.inverse.specs.Invert.{inverse_of, inverse_bytes, unless_faulty, inverted, inverted_as, inverting}
use Rattle.keys.proofs.Faults.{references_enough}
use Rattle.inverse.proofs.Writing.{length_inverse, block_is}
use Rattle.rules.specs.declared.number.Value.TheVariants as given
use Rattle.steps.specs.declared.mode.Mode.{Mode}
use Rattle.conversion.specs.Entry.{applying}
use Rattle.conversion.specs.declared.logic.Answer.TheVariants as answer
use Rattle.restored.proofs.Restored.{once, key_restored, same_bits, other_unknown}
use Rattle.common.specs.declared.refusal.Refusal.{Refusal}

-- the new block's bytes
abbrev pub new_block : List ℕ → Block → List ℕ
new_block img b = block_bytes (inverse_of b) (words img b.firstref b.valcount) (words img b.firstval b.valcount)

pub record Made (img : List ℕ) (a : ℕ) (out : List ℕ) (n : ℕ) (b : Block) : Type 0 where
  pub kind : b.kind ≡ 7
  pub sound : first_fault img (view_of b) 0 b.valcount ≡ (Ok tt)
  pub size : n ≡ 64 + 16 * b.valcount
  pub output : (inverting img a out).output ≡ new_block img b ++ drop n out

length_of : (img : List ℕ) (b : Block) → length (new_block img b) ≡ 64 + 16 * b.valcount
length_of img b =
    let n = b.valcount in
    length_inverse b (words img b.firstref n) (words img b.firstval n) n (length_words img b.firstref n) (length_words img b.firstval n)

module _ (img : List ℕ) (a : ℕ) (out : List ℕ) (n : ℕ) (answered : (inverting img a out).result ≡ Ok n) where
  -- only a block that parses has an inverse
  pub made_from : (b : Block) × (parsed img a ≡ Ok b)
  unfolding inverting
  made_from = go (parsed img a) refl answered
    where
      go : (p : Result Block Refusal) → parsed img a ≡ p → (inverted_as img a p out).result ≡ Ok n → (b : Block) × (parsed img a ≡ Ok b)
      go (Ok b) e q = (b, e)
      go (Err r) e q = clash cc

  module _ (b : Block) (whole : parsed img a ≡ Ok b) where
    same : inverting img a out ≡ inverted img a b out
    unfolding inverting
    same = ap (λ (p : Result Block Refusal). inverted_as img a p out) whole

    pub made : Made img a out n b
    unfolding inverted
    made = go (eqb b.kind 7) refl (first_fault img (view_of b) 0 b.valcount) refl same
      where
        go : (k : Bool) → eqb b.kind 7 ≡ k → (f : Result Unit Refusal) → first_fault img (view_of b) 0 b.valcount ≡ f
            → inverting img a out ≡ cond k (unless_faulty f (inverse_bytes img b) out) (write_call (Err (WrongType a)) out) → Made img a out n b
        go false p f q e = let other : Ok n ≡ Err (WrongType a) = sym answered ∙ ap (λ (c : WriteCall). c.result) e in clash cc
        go true p (Err r) q e = let other : Ok n ≡ Err r = sym answered ∙ ap (λ (c : WriteCall). c.result) e in clash cc
        go true p (Ok tt) q e =
            let block = block_is img a b whole (references_enough img (view_of b) b.valcount q) in
            let holds = held (new_block img b) out (inverting img a out).result n (inverting img a out).output (e ∙ ap (λ (bytes : List ℕ). holding bytes out) block) answered in
            record {
              kind = eqb-true b.kind 7 p;
              sound = q;
              size = holds.long ∙ length_of img b;
              output = holds.begins;
            }

    -- what was made, and nothing behind it, is the new block
    taken : take n (inverting img a out).output ≡ new_block img b
    taken =
        let m = made in
        let long : n ≡ length (new_block img b) = m.size ∙ sym (length_of img b) in
        ap (take n) m.output ∙ ap (λ (k : ℕ). take k (new_block img b ++ drop n out)) long ∙ take-append_seam (new_block img b) (drop n out)

    behind : (gap : List ℕ) → (img ++ gap) ++ take n (inverting img a out).output ≡ (img ++ gap) ++ (new_block img b ++ [])
    behind gap = ap (λ (x : List ℕ). (img ++ gap) ++ x) (taken ∙ sym (append-nil (new_block img b)))

    -- request [7], also with a gap between the old image and the new block, such as zeros up to a multiple of 8: the text of a key gives that key, for every
    -- limit from 1 on, in every mode; one block is visited, and one begun
    pub restored_behind : Bytes img → (gap : List ℕ) (i : ℕ) → i < b.valcount → (mode : Mode) (l : ℕ) → 1 ≤ l → (o : List ℕ)
        → applying mode ((img ++ gap) ++ take n (inverting img a out).output) (length (img ++ gap)) l given.Text (text_at img (view_of b) i) o
        ≡ once (answer.Number (key_at img (view_of b) i)) o
    restored_behind h gap i less mode l some o =
        ap (λ (x : List ℕ). applying mode x (length (img ++ gap)) l given.Text (text_at img (view_of b) i) o) (behind gap)
        ∙ key_restored img h a b whole made.sound gap [] i less mode l some o

    -- the same in the request's words: set behind the end of the old image
    pub restored : Bytes img → (i : ℕ) → i < b.valcount → (mode : Mode) (l : ℕ) → 1 ≤ l → (o : List ℕ)
        → applying mode (img ++ take n (inverting img a out).output) (length img) l given.Text (text_at img (view_of b) i) o
        ≡ once (answer.Number (key_at img (view_of b) i)) o
    restored h i less mode l some o =
        ap (λ (x : List ℕ). applying mode (x ++ take n (inverting img a out).output) (length x) l given.Text (text_at img (view_of b) i) o) (sym (append-nil img))
        ∙ restored_behind h [] i less mode l some o

    -- and that is the key's own 64 bits
    pub restored_bits : Bytes img → (i : ℕ) → i < b.valcount → to_bits binary64 (key_at img (view_of b) i) ≡ word64 img (b.firstval + 8 * i)
    restored_bits h i less = same_bits img h a b whole made.sound [] [] i less

    -- a text that is no key's is unknown
    pub unknown_behind : Bytes img → (gap t : List ℕ) → ((j : ℕ) → j < b.valcount → text_at img (view_of b) j ≡ t → ⊥) → (mode : Mode) (l : ℕ) → 1 ≤ l
        → (o : List ℕ) → applying mode ((img ++ gap) ++ take n (inverting img a out).output) (length (img ++ gap)) l given.Text t o ≡ once answer.Unknown o
    unknown_behind h gap t none mode l some o =
        ap (λ (x : List ℕ). applying mode x (length (img ++ gap)) l given.Text t o) (behind gap) ∙ other_unknown img h a b whole made.sound gap [] t none mode l some o

    pub unknown : Bytes img → (t : List ℕ) → ((j : ℕ) → j < b.valcount → text_at img (view_of b) j ≡ t → ⊥) → (mode : Mode) (l : ℕ) → 1 ≤ l
        → (o : List ℕ) → applying mode (img ++ take n (inverting img a out).output) (length img) l given.Text t o ≡ once answer.Unknown o
    unknown h t none mode l some o =
        ap (λ (x : List ℕ). applying mode (x ++ take n (inverting img a out).output) (length x) l given.Text t o) (sym (append-nil img))
        ∙ unknown_behind h [] t none mode l some o
