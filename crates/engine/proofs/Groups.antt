-- Bit groups, one after the other: what the loop knows after some groups, and what one group more adds. Assumes nothing.
use mathlib.Core.Path.{◌≡◌, refl, sym, ap, ◌∙◌}
use mathlib.Core.Bool.{Bool, true, false, ◌||◌}
use mathlib.Core.Logic.{◌⊎◌, inl, inr}
use mathlib.Core.List.{List, [], ◌∷◌, ◌++◌, append-nil, append_assoc}
use Prim.Native.Nat.{ℕ, zero, suc, ◌+◌, ◌-◌, ◌≤◌, ◌<◌}
use native.Mathlib.Nat.{add-zero, add-suc}
use native.Mathlib.Numerals.{add-one}
use native.Mathlib.Omega.{arith}
use lib.Bits.{bit_and}
use lib.Ieee.{Float}
use lib.ListN.{length, length-append}
use Rattle.common.specs.declared.text.Span.{Span}
use Rattle.blocks.specs.declared.view.View.{View}
use Rattle.leads.specs.Lead.{lead_at}
use Rattle.leads.specs.declared.lead.Lead.{Lead}
use Rattle.rules.specs.declared.number.Value.{Value}
use Rattle.pieces.specs.Write.{sat32, Wrote, Put}
use Rattle.pieces.specs.Answer.{Answer, number, text, unchanged, unknown, formula, broken, prefixed}
use Rattle.pieces.specs.Label.{bar}
use Rattle.pieces.specs.Did.{Says, SaysText, laid, laid_text, NoWords}
use Rattle.pieces.specs.declared.paste.Place.{Place}
use Rattle.pieces.specs.declared.said.Said.{Said}
use Rattle.pieces.specs.declared.said.Said.TheVariants as said
use Rattle.pieces.specs.declared.said.Outcome.{Outcome}
use Rattle.pieces.proofs.Laws.{forget, empty, then}
use Rattle.engine.specs.Apply.{Ap, mask_at, group_count, part_of, Groups, going, halted, grown, groups, joined, bit_groups, Does, after_bar}

-- ---- parts joined
abbrev pub some : List (List ℕ) → Bool
some [] = false
some (p ∷ ps) = true

pub join_more : (ps : List (List ℕ)) (t : List ℕ) → joined (ps ++ (t ∷ [])) ≡ joined ps ++ (bar (some ps) ++ t)
unfolding joined bar
join_more [] t = refl
join_more (p ∷ []) t = refl
join_more (p ∷ q ∷ ps) t =
    ap (λ (l : List ℕ). p ++ (124 ∷ l)) (join_more (q ∷ ps) t) ∙ sym (append_assoc p (124 ∷ joined (q ∷ ps)) (124 ∷ t))

some_more : (ps : List (List ℕ)) (t : List ℕ) → some (ps ++ (t ∷ [])) ≡ true
some_more [] t = refl
some_more (p ∷ ps) t = refl

-- ---- what the loop knows: m counts the blocks begun, and odd says whether a malformed table was consulted
pub record Sofar (G : Groups) (o p : List ℕ) (at e : Place) (started : Bool) (m : ℕ) (odd : Bool) : Type 0 where
  pub parts : List (List ℕ)
  pub begun : List ℕ
  pub is : G ≡ going parts begun odd
  pub first : started ≡ some parts
  pub count : m ≡ sat32 (length begun)
  pub put : Put o p at (joined parts) e

pub record Halted (x : Answer) (G : Groups) (o p : List ℕ) (at : Place) (m : ℕ) (odd : Bool) : Type 0 where
  pub begun : List ℕ
  pub is : G ≡ halted x begun odd
  pub count : m ≡ sat32 (length begun)
  pub wrote : Wrote o p at.pos at.lim []

-- after one group more, by that group's word
abbrev pub Grown : Said → Groups → List ℕ → List ℕ → Place → Place → Bool → ℕ → Bool → Type 0
Grown (said.Number x) G o p at e started m odd = Sofar G o p at e started m odd
Grown (said.Words run) G o p at e started m odd = Unit {0}
Grown (said.Text f) G o p at e started m odd = Sofar G o p at (record e { pos = f }) true m odd
Grown said.Unchanged G o p at e started m odd = Sofar G o p at e started m odd
Grown said.Unknown G o p at e started m odd = Sofar G o p at e started m odd
Grown said.Formula G o p at e started m odd = Halted formula G o p at m odd
Grown said.Broken G o p at e started m odd = Halted broken G o p at m odd

-- the words that the loop goes on after as it was
pub passed : {G : Groups} {o p : List ℕ} {at e : Place} {started : Bool} {m : ℕ} {odd : Bool} (s : Said) → NoWords s
    → ((x : Float) × s ≡ said.Number x) ⊎ (((run : Span) × s ≡ said.Words run) ⊎ ((s ≡ said.Unchanged) ⊎ (s ≡ said.Unknown)))
    → Grown s G o p at e started m odd → Sofar G o p at e started m odd
passed s n (inl k) g = rw k.1 at g
passed s n (inr (inl k)) g = absurd (rw k.1 at n)
passed s n (inr (inr (inl k))) g = rw k at g
passed s n (inr (inr (inr k))) g = rw k at g

both : (vs ws : List ℕ) (m u : ℕ) → m ≡ sat32 (length vs) → u ≡ sat32 (length ws) → sat32 (m + u) ≡ sat32 (length (vs ++ ws))
both vs ws m u k l = simp length-append (omega arith)

module _ (ps : List (List ℕ)) (vs ws : List ℕ) (m u : ℕ) (odd : Bool) {o p q : List ℕ} {at e : Place} (started : Bool) (fits : at.lim ≤ length o)
    (put : Put o p at (joined ps) e) (first : started ≡ some ps) (h : m ≡ sat32 (length vs)) (l : u ≡ sat32 (length ws)) where
  -- what was put stays where nothing more is
  keep : Wrote p q e.pos e.lim [] → Put o q at (joined ps) e
  keep w = rw append-nil at (then {f = e} {s = joined ps} {t = []} fits put (record { end = omega arith; limit = refl; wrote = w }))

  stay : (G : Groups) → G ≡ going ps (vs ++ ws) odd → Wrote p q e.pos e.lim [] → Sofar G o q at e started (sat32 (m + u)) odd
  stay G is w = record { parts = ps; begun = vs ++ ws; is = is; first = first; count = both vs ws m u h l; put = keep w }

  halt : (x : Answer) → Wrote p q e.pos e.lim [] → Halted x (halted x (vs ++ ws) odd) o q at (sat32 (m + u)) odd
  halt x w = record { begun = vs ++ ws; is = refl; count = both vs ws m u h l; wrote = forget (keep w).wrote }

  -- a text, or no part of it
  grow_text : (img t : List ℕ) (s : Said) → NoWords s → SaysText img (length p) e.pos (bar started ++ t) s → Wrote p q e.pos e.lim (laid_text (bar started ++ t) s)
      → Grown s (going (ps ++ (t ∷ [])) (vs ++ ws) odd) o q at e started (sat32 (m + u)) odd
  grow_text img t (said.Number x) n k w = absurd k
  grow_text img t (said.Words run) n k w = absurd n
  grow_text img t (said.Text f) n k w = record {
    parts = ps ++ (t ∷ []);
    begun = vs ++ ws;
    is = refl;
    first = sym (some_more ps t);
    count = both vs ws m u h l;
    put = rw (join_more ps t, ← first) (then fits put (record { end = k; limit = refl; wrote = w }));
  }
  grow_text img t said.Unchanged n k w = absurd k
  grow_text img t said.Unknown n k w = absurd k
  grow_text img t said.Formula n k w = absurd k
  grow_text img t said.Broken n k w = absurd k

  pub grow : (img : List ℕ) (x : Answer) (s : Said) → NoWords s → Says img (length p) e.pos (prefixed (bar started) x) s
      → Wrote p q e.pos e.lim (laid (prefixed (bar started) x) s) → Grown s (grown ps (vs ++ ws) odd x) o q at e started (sat32 (m + u)) odd
  grow img (number x) s n says w = rw says (stay _ refl w)
  grow img (text t) s n says w = grow_text img t s n says w
  grow img unchanged s n says w = rw says (stay _ refl w)
  grow img unknown s n says w = rw says (stay _ refl w)
  grow img formula s n says w = rw says (halt formula w)
  grow img broken s n says w = rw says (halt broken w)

module _ (nested : ℕ → Value → Ap) (img : List ℕ) (b : View) (bits : ℕ) where
  pub start : (o : List ℕ) (at : Place) → at.pos ≤ length o + 1 → Sofar (groups nested img b bits 0) o o at at false 0 false
  unfolding groups joined
  start o at h = record { parts = []; begun = []; is = refl; first = refl; count = refl; put = empty o at h }

  pub turn : (i m w : ℕ) (l : Lead) (x : Said) (odd : Bool) {o p q : List ℕ} {at e : Place} {k : ℕ} {started : Bool} {y : Outcome} → at.lim ≤ length o
      → Sofar (groups nested img b bits i) o p at e started k odd → l ≡ lead_at img b i → w ≡ mask_at img b i
      → Does img p q e.pos e.lim (after_bar started (part_of nested img l (bit_and bits w))) y → NoWords y.said → m ≡ sat32 (k + y.visits) → y.said ≡ x
      → Grown x (groups nested img b bits (i + 1)) o q at e started m (odd || y.malformed)
  unfolding groups
  turn i m w l x odd {k = k} {started = started} {y = y} fits sofar hl hw did plain hm told =
      let part = part_of nested img l (bit_and bits w) in
      rw (← told, hm, ap (λ (f : Bool). odd || f) did.flag, add-one, sofar.is, ← hl, ← hw)
      (grow sofar.parts sofar.begun part.begun k y.visits (odd || part.malformed) started fits sofar.put sofar.first sofar.count did.count img part.says y.said plain did.says did.wrote)

  stays : (i j : ℕ) (x : Answer) (vs : List ℕ) (odd : Bool) → groups nested img b bits i ≡ halted x vs odd → groups nested img b bits (i + j) ≡ halted x vs odd
  unfolding groups
  stays i zero x vs odd h = rw (add-zero, h)
  stays i (suc j) x vs odd h = rw (add-suc, stays i j x vs odd h)

  -- the loop is left: at a stop, or at its end
  stop_at : (i n : ℕ) (x : Answer) {o p : List ℕ} {at : Place} {m : ℕ} {odd : Bool} {r : Outcome} → i < n → n ≡ group_count b
      → Halted x (groups nested img b bits (i + 1)) o p at m odd → Says img (length o) at.pos x r.said → r.visits ≡ m → r.malformed ≡ odd
      → laid x r.said ≡ [] → Does img o p at.pos at.lim (bit_groups nested img b bits) r
  unfolding bit_groups
  stop_at i n x h e stopped told count flag none =
      let q : i + 1 + (n - (i + 1)) ≡ n = omega arith in
      rw (← e, ← q, stays (i + 1) (n - (i + 1)) x stopped.begun _ stopped.is)
      (record { says = told; count = count ∙ stopped.count; flag = flag; wrote = rw none stopped.wrote })

  pub stop : (i n : ℕ) (e : Place) (started : Bool) {o p : List ℕ} {at : Place} {m : ℕ} {odd : Bool} {r : Outcome} → i < n → n ≡ group_count b
      → (r.said ≡ said.Formula) ⊎ (r.said ≡ said.Broken) → Grown r.said (groups nested img b bits (i + 1)) o p at e started m odd → r.visits ≡ m → r.malformed ≡ odd
      → Does img o p at.pos at.lim (bit_groups nested img b bits) r
  stop i n e started h hn (inl k) stopped count flag = stop_at i n formula h hn (rw k at stopped) k count flag refl
  stop i n e started h hn (inr k) stopped count flag = stop_at i n broken h hn (rw k at stopped) k count flag refl

  pub finish : (i n : ℕ) {o p : List ℕ} {at e : Place} {m : ℕ} {started odd : Bool} → i ≡ n → n ≡ group_count b
      → Sofar (groups nested img b bits i) o p at e started m odd
      → Does img o p at.pos at.lim (bit_groups nested img b bits) (record { said = said.Text e.pos; visits = m; malformed = odd })
  unfolding bit_groups
  finish i n h e sofar = rw (← e, ← h, sofar.is) (record { says = sofar.put.end; count = sofar.count; flag = refl; wrote = sofar.put.wrote })
