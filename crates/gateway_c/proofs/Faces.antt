-- The face of a call's answer, with the output that the call left, is the face of the call. Assumes nothing.
use mathlib.Core.Path.{◌≡◌, ap, ◌∙◌}
use mathlib.Core.List.{List}
use Prim.Native.Nat.{ℕ}
use Rattle.conversion.specs.Entry.{Call, call}
use Rattle.conversion.specs.declared.logic.Applied.{Applied}
use Rattle.faces.specs.Applied.{applied_face, face, call_face}
use Rattle.faces.specs.declared.applied.MdfApplied.{MdfApplied}

pub faced : (r : Applied) (out : List ℕ) (c : Call) (m : MdfApplied) → call r out ≡ c → m ≡ applied_face r → face m out ≡ call_face c
faced r out c m called shown = ap (λ (x : MdfApplied). face x out) shown ∙ ap call_face called
