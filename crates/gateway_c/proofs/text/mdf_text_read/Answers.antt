-- `gateway_c::text::mdf_text_read` meets its contract. Assumes nothing.
use Rattle.std.specs.Prelude.{List, ℕ, Err, Ok, Result}
use mathlib.Core.Path.{sym, subst}
use Rattle.common.specs.declared.refusal.Refusal.{Refusal}
use Rattle.texts.specs.declared.read.TextRead.{TextRead}
use Rattle.texts.proofs.Reading.{FoundIn, read_within}
use Rattle.faces.specs.Text.{InOrder}
use Rattle.gateway_c.proofs.text.mdf_text_read.Goals as goal

-- a text that lies in the image ends where it starts or later
in_order : (img : List ℕ) (t : Result TextRead Refusal) → FoundIn img t → InOrder t
in_order img (Ok t) h = h.0
in_order img (Err r) h = tt

pub text_face-requires : goal.text_face-requires
text_face-requires c =
    let a = c.args in
    in_order a.image.now c.read.result (subst (FoundIn a.image.now) (sym c.read.ensures) (read_within a.image.now a.address))
