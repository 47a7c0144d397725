-- Request [7]: "Set behind the end of the old image and applied there with a limit of 1 or more to any key's text, the new block gives that key", and
-- any other text is Unknown. Assumes nothing.
use Rattle.std.specs.Prelude.{Err, Float, None, Ok, Option, Result, Some}
use mathlib.Core.Path.{◌≡◌, refl, sym, ap, subst, ◌∙◌}
use mathlib.Core.Bool.{Bool, true, false, cond}
use mathlib.Core.List.{List, [], ◌∷◌, ◌++◌, append_assoc}
use Prim.Native.Nat.{ℕ, zero, suc, ◌+◌, ◌-◌, ◌*◌, ◌≤◌, ◌<◌}
use native.Mathlib.Omega.{arith}
use borrow.Author.Tests.{ltb-true, ltb-false, ne_eqb}
use lib.Dec.{ltb, eqb}
use lib.ListN.{length}
use lib.Ieee.{binary64, to_bits}
use lib.Ieee.Bits.{to_bits-of_bits}
use Rattle.floats.proofs.Nan.{not_true}
use Rattle.words.specs.Words.{word64, words, value_at}
use Rattle.words.proofs.Clash.{clash}
use Rattle.words.proofs.Slices.{Bytes, length_words, word16_small, word64_small, words_small}
use Rattle.common.specs.Header.{inside, is_conversion}
use Rattle.common.specs.Text.{run_of, text_bytes}
use Rattle.common.specs.Types.{type_of}
use Rattle.common.specs.declared.types.ConversionType.{ConversionType}
use Rattle.common.specs.declared.types.ConversionType.TheVariants as kind
use Rattle.blocks.specs.Block.{fixed_at, fields_at, fields_place, block_at, opened, parsed}
use Rattle.blocks.specs.Place.{word_in, reference_of, value_word_of, references, word_at, as_value}
use Rattle.blocks.specs.View.{view_of, seen_of, seen, reference_in, value_word_in, value_in}
use Rattle.blocks.specs.declared.Block.{Block}
use Rattle.blocks.specs.declared.view.View.{View}
use Rattle.blocks.proofs.Opening.{parsed_whole, parsed_is_read, opened_whole}
use Rattle.blocks.proofs.Places.{word_there, word_past_count, by_place, reference_there, references_read}
use Rattle.leads.specs.Lead.{nested_at, lead_of, lead_at, by_text, by_link}
use Rattle.leads.specs.Keys.{same_bytes, is_key, first_text, value_key}
use Rattle.leads.specs.declared.lead.Lead.TheVariants.{Words, Nested, Nil, Elsewhere}
use Rattle.writer.specs.Write.{write_size, block_bytes}
use Rattle.writer.specs.Stored.{stored, Sized}
use Rattle.writer.proofs.ParseWritten.{parse_written, references_written, values_written}
use Rattle.repeats.specs.Repeats.{lead_text, text_at, text_repeated, first_of}
use Rattle.keys.specs.Keys.{key_at, is_empty, first_fault}
use Rattle.inverse.specs.Invert.{inverse_of, KeyPlaces}
use Rattle.repeats.proofs.Firsts.{same_itself, same_is, among_some, is_first}
use Rattle.keys.proofs.Faults.{all_sound, IsSound, sound_is, references_enough}
use Rattle.inverse.proofs.Writing.{key_places}
use Rattle.tree.specs.Walk.{checked}
use Rattle.tree.specs.Tree.{leads_in, sizes, size, Each, Sound}
use Rattle.tree.proofs.Converse.{accepted_when}
use Rattle.rules.specs.declared.number.Value.TheVariants as given
use Rattle.steps.specs.Plain.{or_unknown}
use Rattle.steps.specs.Step.{typed, unless_cut, step_of}
use Rattle.steps.specs.declared.mode.Mode.{Mode}
use Rattle.pieces.specs.Answer as says
use Rattle.engine.specs.Apply.{Ap, begin, ruled, applied}
use Rattle.conversion.specs.Entry.{Call, call, answer_in, output_after, settled, applying}
use Rattle.conversion.specs.declared.logic.Answer.{Answer}
use Rattle.conversion.specs.declared.logic.Answer.TheVariants as answer
use Rattle.conversion.proofs.Demand.{after_check}
use Rattle.restored.proofs.Appended.{IsRun, is_run, bytes_first, run_first, no_conversion}
use Rattle.common.specs.declared.text.Span.{Span}

-- ---- a text that is not the same
not_same : (xs ys : List ℕ) → (xs ≡ ys → ⊥) → same_bytes xs ys ≡ false
not_same xs ys h = go (same_bytes xs ys) refl
  where
    go : (b : Bool) → same_bytes xs ys ≡ b → b ≡ false
    go true e = absurd (h (same_is xs ys e))
    go false e = refl

-- ---- the search for a text, by where the first lies
search_is : (img : List ℕ) (b : View) (t : List ℕ) (j n : ℕ) → first_text img b t 1 j n ≡ first_of (λ k. is_key img t (lead_at img b (1 * k))) j n
unfolding first_text first_of
search_is img b t j zero = refl
search_is img b t j (suc n) = ap (λ (k : ℕ). cond (is_key img t (lead_at img b (1 * j))) j k) (search_is img b t (j + 1) n)

-- ---- a link that gives a text
no_text_nested : (img : List ℕ) (link : ℕ) → lead_text img (nested_at img link) ≡ []
unfolding nested_at
no_text_nested img link = go (inside img link) (is_conversion img link)
  where
    go : (x y : Bool) → lead_text img (cond x (cond y (Nested link) Elsewhere) Elsewhere) ≡ []
    go true true = refl
    go true false = refl
    go false y = refl

record GivesText (img : List ℕ) (link : ℕ) : Type 0 where
  run : Span
  runs : run_of img link ≡ Some run
  lead : lead_of img link ≡ Words run

gives_text : (img : List ℕ) (link : ℕ) → is_empty (lead_text img (lead_of img link)) ≡ false → GivesText img link
unfolding lead_of
gives_text img link = go (eqb link 0) refl (run_of img link) refl
  where
    go : (z : Bool) → eqb link 0 ≡ z → (t : Option Span) → run_of img link ≡ t → is_empty (lead_text img (cond z Nil (by_text t (nested_at img link)))) ≡ false
        → GivesText img link
    go true p t q e = clash cc
    go false p (Some run) q e = record { run = run; runs = q; lead = rw (p, q) }
    go false p None q e =
        let none : is_empty (lead_text img (nested_at img link)) ≡ true = ap is_empty (no_text_nested img link) in
        clash cc

-- ---- references that all lead to texts: a tree of one block
module _ (img : List ℕ) (P : ℕ → Type 0) (g : ℕ → ℕ) where
  none_nested : (rs : List ℕ) → ((i r : ℕ) → word_at rs i ≡ Some r → leads_in img r ≡ false) → Each P (leads_in img) rs × (sizes g (leads_in img) rs ≡ 0)
  unfolding Each sizes word_at
  none_nested [] h = (tt, refl)
  none_nested (r ∷ rs) h =
      let here : leads_in img r ≡ false = h 0 r refl in
      let later = none_nested rs (λ i s e. h (suc i) s e) in
      ((λ e. clash cc, later.0), rw here (omega (arith, later.1)))

-- ---- an answer after one visit of the check, with one block begun
abbrev pub once : Answer → List ℕ → Call
once r o = call (record { answer = r; checked = 1; applied = 1; malformed = false }) o

-- ---- the new block behind the image that it was made from; whatever stands between them, and behind the new block, plays no part
module _ (img : List ℕ) (h : Bytes img) (a : ℕ) (b : Block) (whole : parsed img a ≡ Ok b)
    (sound : first_fault img (view_of b) 0 b.valcount ≡ (Ok tt)) (gap rest : List ℕ) where
  abbrev n : ℕ
  n = b.valcount

  abbrev refs : List ℕ
  refs = words img b.firstref n

  abbrev values : List ℕ
  values = words img b.firstval n

  abbrev image : List ℕ
  image = (img ++ gap) ++ (block_bytes (inverse_of b) refs values ++ rest)

  abbrev place : ℕ
  place = length (img ++ gap)

  -- all that stands behind the old image
  abbrev behind : List ℕ
  behind = gap ++ (block_bytes (inverse_of b) refs values ++ rest)

  shape : image ≡ img ++ behind
  shape = append_assoc img gap (block_bytes (inverse_of b) refs values ++ rest)

  abbrev new : Block
  new = stored place (inverse_of b) (length refs) (length values)

  same : b ≡ block_at img a
  same = (parsed_whole img a b whole).same

  sized : Sized (inverse_of b)
  unfolding block_at fixed_at fields_at
  sized =
      record {
        name = rw same (word64_small img h (a + 24));
        unit = rw same (word64_small img h (a + 24 + 8));
        comment = rw same (word64_small img h (a + 24 + 16));
        inverse = omega arith;
        kind = omega arith;
        precision = rw same (h (fields_place img a + 1));
        flags = rw same (word16_small img h (fields_place img a + 2));
        refcount = rw same (word16_small img h (fields_place img a + 6));
        range = tt;
        reserved = omega arith;
      }

  counts : (length refs ≡ n) × (length values ≡ n)
  counts = (length_words img b.firstref n, length_words img b.firstval n)

  parses : parsed image place ≡ Ok new
  unfolding write_size
  parses =
      parse_written (img ++ gap) rest (inverse_of b) refs values sized (omega (arith, counts.1, sized.refcount)) (omega (arith, counts.0, counts.1, sized.refcount)) refl

  few : n ≤ b.links - 4
  few = references_enough img (view_of b) n sound

  places : KeyPlaces b (length img) (64 + 16 * b.valcount)
  places = key_places img a b whole few

  -- the i-th reference of the new block is the old one's, and its i-th value too
  reference_is : (i : ℕ) → reference_in image (view_of new) i ≡ word_in img b.firstref n i
  unfolding reference_in reference_of
  reference_is i =
      references_written (img ++ gap) rest (inverse_of b) refs values (words_small img h b.firstref n) i ∙ sym (by_place img b.firstref n i places.0)

  value_is : (i : ℕ) → value_in image (view_of new) i ≡ as_value (word_in img b.firstval n i)
  unfolding value_in value_word_in value_word_of
  value_is i =
      ap as_value (values_written (img ++ gap) rest (inverse_of b) refs values (words_small img h b.firstval n) i ∙ sym (by_place img b.firstval n i places.1))

  -- ---- the i-th key's link leads to a text of the old image, from the new block too
  module _ (i : ℕ) (less : i < n) where
    abbrev link : ℕ
    link = word64 img (b.firstref + 8 * i)

    key_sound : IsSound img (view_of b) i
    key_sound = sound_is img (view_of b) i (all_sound img (view_of b) 0 n sound i (omega arith) (omega (arith, less)))

    unlike : text_repeated img (view_of b) i ≡ true → ⊥
    unlike e = let not-again = key_sound.unlike in clash cc

    old_reference : reference_in img (view_of b) i ≡ Some link
    unfolding reference_in reference_of
    old_reference = reference_there img a b whole i (omega (arith, less, few))

    new_reference : reference_in image (view_of new) i ≡ Some link
    new_reference = reference_is i ∙ word_there img b.firstref n i less (omega (arith, less, places.0))

    gives : GivesText img link
    unfolding text_at lead_at
    gives = gives_text img link (ap (λ (w : Option ℕ). is_empty (lead_text img (by_link img w))) (sym old_reference) ∙ key_sound.texted)

    text_is : text_at img (view_of b) i ≡ text_bytes img gives.run.from gives.run.to
    unfolding text_at lead_at
    text_is = ap (λ (w : Option ℕ). lead_text img (by_link img w)) old_reference ∙ ap (lead_text img) gives.lead

    runs : IsRun img link gives.run
    runs = is_run img link gives.run gives.runs

    new_lead : lead_at image (view_of new) i ≡ Words gives.run
    unfolding lead_at lead_of
    new_lead =
        ap (by_link image) new_reference
        ∙ rw (ne_eqb link 0 runs.linked, shape, run_first img behind link gives.run runs)

    new_key : (t : List ℕ) → is_key image t (lead_at image (view_of new) (1 * i)) ≡ same_bytes (text_at img (view_of b) i) t
    new_key t =
        let one : 1 * i ≡ i = omega arith in
        let order : (gives.run.from ≤ gives.run.to) × (gives.run.to ≤ length img) =
        (omega (arith, runs.start, runs.end, runs.long), omega (arith, runs.end, runs.within)) in
        ap (λ (k : ℕ). is_key image t (lead_at image (view_of new) k)) one ∙ ap (is_key image t) new_lead
        ∙ ap (λ (x : List ℕ). same_bytes x t) (ap (λ (x : List ℕ). text_bytes x gives.run.from gives.run.to) shape ∙ bytes_first img behind gives.run.from gives.run.to order.0 order.1 ∙ sym text_is)

    not_nested : leads_in image link ≡ false
    unfolding leads_in
    not_nested = rw (ap (λ (x : List ℕ). is_conversion x link) shape ∙ no_conversion img behind link gives.run runs) (go (eqb link 0) (inside image link))
      where
        go : (x y : Bool) → cond x false (cond y false false) ≡ false
        go true y = refl
        go false true = refl
        go false false = refl

    new_value : value_in image (view_of new) i ≡ Some (key_at img (view_of b) i)
    unfolding key_at value_at
    new_value = value_is i ∙ ap as_value (word_there img b.firstval n i less (omega (arith, less, places.1)))

  no_more_values : value_in image (view_of new) n ≡ None
  no_more_values = value_is n ∙ ap as_value (word_past_count img b.firstval n n (omega arith))

  -- ---- the check: a tree of one block
  leads_nowhere : (i r : ℕ) → word_at (references image new) i ≡ Some r → leads_in image r ≡ false
  unfolding reference_in reference_of
  leads_nowhere i r e = go (ltb i n) refl
    where
      read : word_in img b.firstref n i ≡ Some r
      read = sym (reference_is i) ∙ references_read image place new parses i ∙ e

      go : (x : Bool) → ltb i n ≡ x → leads_in image r ≡ false
      go true t =
          let less = ltb-true i n t in
          let there = word_there img b.firstref n i less (omega (arith, less, places.0)) in
          let both : Some r ≡ Some (word64 img (b.firstref + 8 * i)) = sym read ∙ there in
          let is : r ≡ word64 img (b.firstref + 8 * i) = cc in
          ap (leads_in image) is ∙ not_nested i less
      go false t =
          let none : Some r ≡ None = sym read ∙ word_past_count img b.firstref n i (ltb-false i n t) in
          clash cc

  new_same : new ≡ block_at image place
  new_same = (parsed_whole image place new parses).same

  alone : (d : ℕ) → Each (Sound d image) (leads_in image) (references image (block_at image place))
      × (sizes (size d image) (leads_in image) (references image (block_at image place)) ≡ 0)
  alone d =
      subst (λ (x : Block). Each (Sound d image) (leads_in image) (references image x) × (sizes (size d image) (leads_in image) (references image x) ≡ 0)) new_same
      (none_nested image (Sound d image) (size d image) (references image new) leads_nowhere)

  new_opens : opened image place ≡ Ok (block_at image place)
  new_opens = opened_whole image place (parsed_whole image place new parses).fits

  tree_sound : Sound 21 image place
  unfolding Sound
  tree_sound =
      let links : 4 ≤ (block_at image place).links = subst (λ (x : Block). 4 ≤ x.links) new_same (parsed_is_read image place new parses).1 in
      (links, new_opens, (alone 20).0)

  tree_size : size 21 image place ≡ 1
  unfolding size
  tree_size = omega (arith, (alone 20).1)

  pub new_accepted : (l : ℕ) → 1 ≤ l → checked image place l ≡ Ok 1
  new_accepted l h =
      let w = parsed_whole image place new parses in
      accepted_when image place l w.header w.conversion tree_sound (omega (arith, tree_size, h)) ∙ ap Ok tree_size

  -- ---- applying
  seen_new : seen image place ≡ Some (view_of new)
  unfolding seen
  seen_new = ap seen_of (new_opens ∙ ap Ok (sym new_same))

  -- by the index that the search gives
  abbrev spoken : Option Float → says.Answer
  spoken p = says.spelled image (or_unknown p)

  kind_new : type_of (view_of new).kind ≡ kind.TextToValue
  unfolding stored type_of
  kind_new = refl

  applied_new : (d : ℕ) (mode : Mode) (t : List ℕ) (p : Option Float) → value_in image (view_of new) (value_key image (view_of new) t) ≡ p
      → applied (suc d) mode image t place given.Text ≡ record { says = spoken p; begun = place ∷ []; malformed = false }
  unfolding applied step_of
  applied_new d mode t p e =
      ap (λ (s : Option View). begin place (ruled (applied d mode image t) image given.Text (unless_cut mode image t given.Text s))) seen_new
      ∙ ap (λ (k : ConversionType). begin place (ruled (applied d mode image t) image given.Text (typed mode image t (view_of new) given.Text k))) kind_new
      ∙ ap (λ (q : Option Float). record { says = spoken q; begun = place ∷ []; malformed = false }) e

  answered : (mode : Mode) (l : ℕ) → 1 ≤ l → (t o : List ℕ) (p : Option Float) → value_in image (view_of new) (value_key image (view_of new) t) ≡ p
      → applying mode image place l given.Text t o ≡ settled 1 place (record { says = spoken p; begun = place ∷ []; malformed = false }) o
  answered mode l h t o p e =
      after_check mode image place l 1 given.Text t o (new_accepted l h) ∙ ap (λ (x : Ap). settled 1 place x o) (applied_new 20 mode t p e)

  -- the references of the new block are as many as there are keys, so the search goes through the keys
  key_found : (t : List ℕ) → value_key image (view_of new) t ≡ first_of (λ j. is_key image t (lead_at image (view_of new) (1 * j))) 0 n
  unfolding value_key stored
  key_found t =
      let many : 4 + length refs - 4 ≡ n = omega (arith, counts.0) in
      ap (first_text image (view_of new) t 1 0) many ∙ search_is image (view_of new) t 0 n

  -- the text of a key gives that key
  pub key_restored : (i : ℕ) → i < b.valcount → (mode : Mode) (l : ℕ) → 1 ≤ l → (o : List ℕ)
      → applying mode ((img ++ gap) ++ (block_bytes (inverse_of b) (words img b.firstref b.valcount) (words img b.firstval b.valcount) ++ rest)) (length (img ++ gap)) l given.Text (text_at img (view_of b) i) o
      ≡ once (answer.Number (key_at img (view_of b) i)) o
  unfolding settled answer_in output_after
  key_restored i less mode l h o =
      let t = text_at img (view_of b) i in
      let before : (j : ℕ) → j < i → is_key image t (lead_at image (view_of new) (1 * j)) ≡ false =
      λ j k. new_key j (omega (arith, k, less)) t ∙ not_same (text_at img (view_of b) j) t (λ e. unlike i less (among_some img (view_of b) i i j k e)) in
      let found : value_key image (view_of new) t ≡ i =
      key_found t
      ∙ sym (is_first (λ j. is_key image t (lead_at image (view_of new) (1 * j))) n 0 i (omega arith) (omega (arith, less)) (λ j h k. before j k) (λ k. new_key i less t ∙ same_itself t)) in
      answered mode l h t o (Some (key_at img (view_of b) i)) (ap (value_in image (view_of new)) found ∙ new_value i less)

  -- and the key is the same 64 bits
  pub same_bits : (i : ℕ) → i < b.valcount → to_bits binary64 (key_at img (view_of b) i) ≡ word64 img (b.firstval + 8 * i)
  unfolding key_at value_at
  same_bits i less = to_bits-of_bits binary64 (word64 img (b.firstval + 8 * i)) (word64_small img h (b.firstval + 8 * i)) (not_true _ (key_sound i less).number)

  -- a text that is no key's is unknown: there is no default
  pub other_unknown : (t : List ℕ) → ((j : ℕ) → j < b.valcount → text_at img (view_of b) j ≡ t → ⊥) → (mode : Mode) (l : ℕ) → 1 ≤ l → (o : List ℕ)
      → applying mode ((img ++ gap) ++ (block_bytes (inverse_of b) (words img b.firstref b.valcount) (words img b.firstval b.valcount) ++ rest)) (length (img ++ gap)) l given.Text t o
      ≡ once answer.Unknown o
  unfolding settled answer_in output_after
  other_unknown t none mode l h o =
      let found : value_key image (view_of new) t ≡ n =
      key_found t
      ∙ sym (is_first (λ j. is_key image t (lead_at image (view_of new) (1 * j))) n 0 n (omega arith) (omega arith)
      (λ j h k. new_key j k t ∙ not_same (text_at img (view_of b) j) t (none j k)) (λ k. absurd (omega (arith, k)))) in
      answered mode l h t o None (ap (value_in image (view_of new)) found ∙ no_more_values)
