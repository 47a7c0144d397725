-- A text that a reference leads to lies in the image; the search for a text, key by key. Assumes nothing.
use Rattle.std.specs.Prelude.{None, Option, Some}
use mathlib.Core.Path.{◌≡◌, refl, ◌∙◌}
use mathlib.Core.Bool.{Bool, true, false, cond}
use mathlib.Core.List.{List}
use Prim.Native.Nat.{ℕ, zero, suc, ◌+◌, ◌-◌, ◌*◌, ◌≤◌, ◌<◌}
use native.Mathlib.Omega.{arith}
use lib.Dec.{eqb}
use Rattle.common.specs.Header.{inside, is_conversion}
use Rattle.common.proofs.Headers.{inside_fits}
use Rattle.common.specs.Text.{run_of, TextIn}
use Rattle.common.proofs.Texts.{run_within}
use Rattle.blocks.specs.View.{reference_in}
use Rattle.blocks.specs.declared.view.View.{View}
use Rattle.leads.specs.Lead.{nested_at, lead_of, lead_at, by_text, by_link, LeadIn}
use Rattle.leads.specs.Keys.{is_key, first_text}
use Rattle.leads.specs.declared.lead.Lead.TheVariants.{Nested, Nil, Elsewhere}
use Rattle.common.specs.declared.text.Span.{Span}

nested_inside : (img : List ℕ) (link : ℕ) → LeadIn img (nested_at img link)
unfolding nested_at
nested_inside img link = go (inside img link) (is_conversion img link) refl
  where
    go : (x y : Bool) → inside img link ≡ x → LeadIn img (cond x (cond y (Nested link) Elsewhere) Elsewhere)
    go true true h = inside_fits img link h
    go true false h = tt
    go false y h = tt

lead_inside : (img : List ℕ) (link : ℕ) → LeadIn img (lead_of img link)
unfolding lead_of
lead_inside img link = go (eqb link 0) (run_of img link) (run_within img link)
  where
    go : (z : Bool) (t : Option Span) → TextIn img t → LeadIn img (cond z Nil (by_text t (nested_at img link)))
    go true t h = tt
    go false (Some run) h = h
    go false None h = nested_inside img link

pub lead_at_inside : (img : List ℕ) (b : View) (i : ℕ) → LeadIn img (lead_at img b i)
unfolding lead_at
lead_at_inside img b i = go (reference_in img b i)
  where
    go : (w : Option ℕ) → LeadIn img (by_link img w)
    go (Some link) = lead_inside img link
    go None = tt

-- ---- the search, with n keys left from the j-th on
module _ (img : List ℕ) (b : View) (t : List ℕ) (stride : ℕ) where
  step : (j n : ℕ) → 0 < n
      → first_text img b t stride j n ≡ cond (is_key img t (lead_at img b (stride * j))) j (first_text img b t stride (j + 1) (n - 1))
  unfolding first_text
  step j zero h = absurd (omega arith)
  step j (suc n) h = let e : suc n - 1 ≡ n = omega arith in rw e

  pub key_here : (j n : ℕ) → 0 < n → is_key img t (lead_at img b (stride * j)) ≡ true → first_text img b t stride j n ≡ j
  key_here j n h e = step j n h ∙ rw e

  pub key_later : (j n m : ℕ) → 0 < n → n - 1 ≡ m → is_key img t (lead_at img b (stride * j)) ≡ false
      → first_text img b t stride j n ≡ first_text img b t stride (j + 1) m
  key_later j n m h k e = step j n h ∙ rw (e, k)

  pub no_key : (j n : ℕ) → n ≤ 0 → first_text img b t stride j n ≡ j
  unfolding first_text
  no_key j zero h = refl
  no_key j (suc n) h = absurd (omega arith)
