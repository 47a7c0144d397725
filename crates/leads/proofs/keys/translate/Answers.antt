-- `leads::keys::translate` meets its contract. Assumes nothing.
use mathlib.Core.Path.{◌≡◌, ap, ◌∙◌}
use Prim.Native.Nat.{ℕ}
use Rattle.leads.specs.Lead.{lead_at}
use Rattle.leads.specs.Keys.{first_text, pair_count, output_at, translated}
use Rattle.leads.proofs.keys.translate.Goals as goal

pub returns : goal.returns
unfolding translated pair_count
returns c =
    let s = c.args in
    let img = s.image.now in
    let pairs : c.pairs_of-pairs.result ≡ pair_count s.b =
    c.pairs_of-pairs.ensures.0 in
    c.lead_at.ensures
    ∙ ap (lead_at img s.b) c.output_of.ensures
    ∙ ap (λ (j : ℕ). lead_at img s.b (output_at j c.pairs_of-pairs.result)) c.find_text-j.ensures
    ∙ ap (λ (p : ℕ). lead_at img s.b (output_at (first_text img s.b s.text.now 2 0 p) p)) pairs
