-- What reading answers after each test, and that a conversion's link gives the text of a ##TX that is read here, and no other. Assumes nothing.
use Rattle.std.specs.Prelude.{Err, None, Ok, Option, Result, Some}
use mathlib.Core.Path.{◌≡◌, refl, sym, ap, ◌∙◌}
use mathlib.Core.Bool.{Bool, true, false, cond}
use mathlib.Core.List.{List}
use Prim.Native.Nat.{ℕ}
use native.Mathlib.Omega.{arith}
use borrow.Author.Tests.{eqb-true, eqb-false, ne_eqb}
use lib.Dec.{eqb}
use Rattle.words.proofs.Clash.{clash}
use Rattle.words.specs.Words.{word32}
use Rattle.common.specs.Header.{inside, text_id, has_id}
use Rattle.common.specs.Text.{run_at, cut_off, text_of, TextIn}
use Rattle.common.proofs.Texts.{run_nil, run_outside, run_inside, run_other, run_at_within, cut_within, text_of_none}
use Rattle.common.specs.declared.refusal.Refusal.TheVariants.{Outside, NotTextBlock}
use Rattle.texts.specs.Read.{id_word, found_at, tx_text, link_text, read_as, read_at, reading}
use Rattle.texts.specs.declared.read.TextId.{TextId}
use Rattle.texts.specs.declared.read.TextId.TheVariants.{Tx, Md}
use Rattle.common.specs.declared.refusal.Refusal.{Refusal}
use Rattle.common.specs.declared.text.Span.{Span}
use Rattle.texts.specs.declared.read.TextRead.{TextRead}

-- the part of a text that was found lies in the image
abbrev pub FoundIn : List ℕ → Result TextRead Refusal → Type 0
FoundIn img (Ok t) = TextIn img (Some t.text)
FoundIn img (Err r) = Unit {0}

module _ (img : List ℕ) (a : ℕ) where
  pub read_inside : inside img a ≡ true → reading img a ≡ read_at img a
  unfolding reading
  read_inside h = ap (λ (b : Bool). cond b (read_at img a) (Err (Outside a))) h

  -- a block has one id at most
  other_id : has_id (id_word Md) img a ≡ true → has_id (id_word Tx) img a ≡ false
  unfolding has_id
  other_id h = let e = eqb-true (word32 img a) (id_word Md) h in ne_eqb (word32 img a) (id_word Tx) (λ same. omega (arith, e, same))

  pub read_as_id : (id : TextId) → has_id (id_word id) img a ≡ true → read_at img a ≡ read_as id img a
  unfolding read_at
  read_as_id Tx h = rw h
  read_as_id Md h = rw (other_id h, h)

  as_within : (id : TextId) → FoundIn img (read_as id img a)
  unfolding read_as
  as_within id = go (cut_off img (run_at (id_word id) img a)) (cut_within img (run_at (id_word id) img a) (run_at_within (id_word id) img a))
    where
      go : (t : Option Span) → TextIn img t → FoundIn img (found_at id a t)
      go (Some s) h = h
      go None h = tt

  pub read_within : FoundIn img (reading img a)
  unfolding reading read_at
  read_within = go (inside img a) (has_id (id_word Tx) img a) (has_id (id_word Md) img a)
    where
      go : (i t m : Bool) → FoundIn img (cond i (cond t (read_as Tx img a) (cond m (read_as Md img a) (Err (NotTextBlock a)))) (Err (Outside a)))
      go true true m = as_within Tx
      go true false true = as_within Md
      go true false false = tt
      go false t m = tt

  -- ---- conversions
  link_tx : (t : Option Span) → link_text (found_at Tx a t) ≡ t
  link_tx (Some s) = refl
  link_tx None = refl

  link_md : (t : Option Span) → link_text (found_at Md a t) ≡ None
  link_md (Some s) = refl
  link_md None = refl

  -- for every address but 0, which as a link is NIL: the text that a conversion's link to it gives is that of the ##TX that is read there; a ##MD gives none,
  -- and where nothing is read there is none
  pub as_linked : (a ≡ 0 → ⊥) → text_of img a ≡ link_text (reading img a)
  unfolding reading read_at read_as text_of
  as_linked nonzero = go (inside img a) (has_id (id_word Tx) img a) (has_id (id_word Md) img a) refl refl
    where
      go : (i t m : Bool) → inside img a ≡ i → has_id (id_word Tx) img a ≡ t
          → text_of img a ≡ link_text (cond i (cond t (read_as Tx img a) (cond m (read_as Md img a) (Err (NotTextBlock a)))) (Err (Outside a)))
      go true true m p q = ap (cut_off img) (run_inside img a nonzero p) ∙ sym (link_tx (cut_off img (run_at text_id img a)))
      go true false true p q = text_of_none img a (run_inside img a nonzero p ∙ run_other text_id img a q) ∙ sym (link_md (cut_off img (run_at (id_word Md) img a)))
      go true false false p q = text_of_none img a (run_inside img a nonzero p ∙ run_other text_id img a q)
      go false t m p q = text_of_none img a (run_outside img a nonzero p)

-- what reading answers where it finds the text s, of a block with this id
abbrev pub text_read : TextId → Span → Result TextRead Refusal
text_read id s = Ok (record { id = id; text = s })

-- only a ##TX has a text that a link gives
link_is : (r : Result TextRead Refusal) (s : Span) → Some s ≡ link_text r → r ≡ text_read Tx s
link_is (Ok t) s e = go t.id refl e
  where
    go : (id : TextId) → id ≡ t.id → Some s ≡ tx_text id t.text → Ok t ≡ text_read Tx s
    go Tx same e =
        let place : s ≡ t.text = cc in
        ap (λ (id : TextId). text_read id t.text) (sym same) ∙ ap (text_read Tx) (sym place)
    go Md same e = clash cc
link_is (Err r) s e = clash cc

-- the other way round: a text that a link gives is read here, as that of a ##TX
pub as_read : (img : List ℕ) (link : ℕ) (s : Span) → text_of img link ≡ Some s → reading img link ≡ text_read Tx s
as_read img link s e = go (eqb link 0) refl
  where
    go : (z : Bool) → eqb link 0 ≡ z → reading img link ≡ text_read Tx s
    go true z =
        let none = text_of_none img link (run_nil img link (eqb-true link 0 z)) in
        clash cc
    go false z = link_is (reading img link) s (sym e ∙ as_linked img link (eqb-false link 0 z))

-- a ##MD gives a conversion no text, wherever it stands
pub no_text_of_metadata : (img : List ℕ) (link : ℕ) (s : Span) → reading img link ≡ text_read Md s → text_of img link ≡ None
no_text_of_metadata img link s e = go (eqb link 0) refl
  where
    go : (z : Bool) → eqb link 0 ≡ z → text_of img link ≡ None
    go true z = text_of_none img link (run_nil img link (eqb-true link 0 z))
    go false z = as_linked img link (eqb-false link 0 z) ∙ ap link_text e
