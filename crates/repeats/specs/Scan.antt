-- For inner contracts: what the search for a repeated text keeps of the texts that it has seen. Assumes nothing: these are definitions.
use Rattle.std.specs.Prelude.{ℕ, zero, suc, ◌+◌, ◌*◌, ◌%◌, ◌≤◌, ◌<◌, ◌≡◌, Bool, true, false, cond, List, [], ◌∷◌, eqb, get_or, Option, Some, None}
use Rattle.words.specs.Words.{PartIn}
use Rattle.common.specs.Text.{text_bytes}
use Rattle.blocks.specs.declared.view.View.{View}
use Rattle.repeats.specs.Repeats.{text_at}
use Rattle.common.specs.declared.text.Span.{Span}
use Rattle.repeats.specs.declared.Row.{Row}

-- how many leading bytes two texts have in common
unfoldable pub in_common : List ℕ → List ℕ → ℕ
in_common [] ys = 0
in_common (x ∷ xs) [] = 0
in_common (x ∷ xs) (y ∷ ys) = cond (eqb x y) (suc (in_common xs ys)) 0

-- the text of a run, and that the run lies in the image
unfoldable pub run_text : List ℕ → Span → List ℕ
run_text img t = text_bytes img t.from t.to

abbrev pub RunIn : List ℕ → Span → Type 0
RunIn img t = PartIn img t.from t.to

-- the run of the i-th text
pub record RunOf (img : List ℕ) (b : View) (i : ℕ) (t : Span) : Type 0 where
  pub inner : RunIn img t
  pub text : run_text img t ≡ text_at img b i

-- two texts compared: so many bytes in common and not the same, or the same
abbrev pub MetBy : List ℕ → List ℕ → Option ℕ → Type 0
MetBy q t (Some m) = (in_common q t ≡ m) × (q ≡ t → ⊥)
MetBy q t None = q ≡ t

-- what is known of two texts by a third: q has a bytes in common with it and t has s, behind which t has the byte `mark`
pub record Through (q t : List ℕ) (a s mark : ℕ) : Type 0 where
  pub third : List ℕ
  pub one : in_common q third ≡ a
  pub other : in_common t third ≡ s
  pub behind : mark ≡ get_or t s 0

-- the texts of a chunk by number: 0 is the empty text, and 1 the text of the index `start`
unfoldable pub numbered : List ℕ → View → ℕ → ℕ → List ℕ
numbered img b start zero = []
numbered img b start (suc k) = text_at img b (start + k)

-- what is kept of a number: a number below, how much the two texts have in common (s), and the byte behind that
abbrev pub RowOf : List ℕ → View → ℕ → ℕ → Row → ℕ → Type 0
RowOf img b start k r s =
    (r.below < k)
    × (s ≡ in_common (numbered img b start k) (numbered img b start r.below))
    × (r.mark ≡ get_or (numbered img b start k) s 0)

-- the row where there is none
abbrev pub no_row : Row
no_row = record { below = 0; mark = 0 }

-- the rows of the numbers under m
abbrev pub Kept : List ℕ → View → ℕ → List Row → List ℕ → ℕ → Type 0
Kept img b start rows shared m = (k : ℕ) → 0 < k → k < m → RowOf img b start k (get_or rows k no_row) (get_or shared k 0)

-- how much the text q has in common with each number under m; it is the text of none
abbrev pub Agreed : List ℕ → View → ℕ → List ℕ → List ℕ → ℕ → Type 0
Agreed img b start q agree m =
    (k : ℕ) → k < m → (get_or agree k 0 ≡ in_common q (numbered img b start k)) × (0 < k → q ≡ numbered img b start k → ⊥)

-- the text q is that of a number under m
pub record Numbered (img : List ℕ) (b : View) (start : ℕ) (q : List ℕ) (m : ℕ) : Type 0 where
  pub number : ℕ
  pub some : 0 < number
  pub less : number < m
  pub same : q ≡ numbered img b start number

-- q held against all numbers under m: it is one of them, or what it has in common with each is known
abbrev pub Held : List ℕ → View → ℕ → List ℕ → List ℕ → ℕ → Bool → Type 0
Held img b start q agree m true = Numbered img b start q m
Held img b start q agree m false = Agreed img b start q agree m

-- the same without what it has in common with them: it is one of them, or none
abbrev pub Told : List ℕ → View → ℕ → List ℕ → ℕ → Bool → Type 0
Told img b start q m true = Numbered img b start q m
Told img b start q m false = (k : ℕ) → k < m → 0 < k → q ≡ numbered img b start k → ⊥

-- a text's hash: each byte is added to what the bytes before it give times a number, in 32 bits
unfoldable pub hash_from : ℕ → List ℕ → ℕ
hash_from h [] = h
hash_from h (b ∷ bs) = hash_from ((h * 16777619 + b) % 4294967296) bs

unfoldable pub hash_of : List ℕ → ℕ
hash_of bs = hash_from 2166136261 bs

-- the hashes of the m texts from the index `start` on
abbrev pub Hashed : List ℕ → View → ℕ → ℕ → List ℕ → Type 0
Hashed img b start m hashes = (k : ℕ) → k < m → get_or hashes k 0 ≡ hash_of (text_at img b (start + k))

-- no is answered only where none of the first m hashes is h
abbrev pub NoneIs : List ℕ → ℕ → ℕ → Bool → Type 0
NoneIs hashes m h r = r ≡ false → (k : ℕ) → k < m → get_or hashes k 0 ≡ h → ⊥

-- no text under the index r is equal to an earlier one from low up to high
abbrev pub Apart : List ℕ → View → ℕ → ℕ → ℕ → Type 0
Apart img b low high r = (i j : ℕ) → i < r → j < i → low ≤ j → j < high → text_at img b j ≡ text_at img b i → ⊥

-- no text from the index high up to r is equal to one from low up to high
abbrev pub Behind : List ℕ → View → ℕ → ℕ → ℕ → Type 0
Behind img b low high r = (i j : ℕ) → high ≤ i → i < r → low ≤ j → j < high → text_at img b j ≡ text_at img b i → ⊥

-- the r-th text is equal to an earlier one
pub record Again (img : List ℕ) (b : View) (r : ℕ) : Type 0 where
  pub earlier : ℕ
  pub before : earlier < r
  pub same : text_at img b earlier ≡ text_at img b r

-- r is `bound`, or the text there is equal to an earlier one; none under r is equal to an earlier one from low up to high
pub record FirstRepeat (img : List ℕ) (b : View) (low high bound r : ℕ) : Type 0 where
  pub most : r ≤ bound
  pub apart : Apart img b low high r
  pub again : r < bound → Again img b r

-- the texts behind the chunk gone through up to r
pub record Gone (img : List ℕ) (b : View) (start stop bound r : ℕ) : Type 0 where
  pub least : stop ≤ r
  pub most : r ≤ bound
  pub apart : Behind img b start stop r
  pub again : r < bound → Again img b r
