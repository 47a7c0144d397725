-- Applying in the mode that a caller asks for in two numbers: the edition of MDF (request [8]: "The caller now names the edition, 4.10 or 4.20") and
-- the width of the signal (request [2]: "the caller gives the signal's width, 1 to 64, and only that many low bits reach the masks").
-- What the edition does is `grouped_in`, and what the width does is `bits_of`, both in `steps`. Assumes nothing: these are definitions.
use Rattle.std.specs.Prelude.{ℕ, Bool, cond, ◌&&◌, ◌||◌, List, eqb, ltb, leb, Err, Ok, Result}
use Rattle.common.specs.declared.refusal.Refusal.{Refusal}
use Rattle.common.specs.declared.refusal.Refusal.TheVariants.{Width, Edition as WrongEdition}
use Rattle.rules.specs.declared.number.Value.{Value}
use Rattle.steps.specs.declared.mode.Mode.{Mode}
use Rattle.steps.specs.declared.mode.Edition.{Edition}
use Rattle.steps.specs.declared.mode.Edition.TheVariants.{Mdf410, Mdf420}
use Rattle.conversion.specs.Entry.{Call, call, refused_before, applying}

-- 4.10 is the number 410, and 4.20 is 420
abbrev pub is_edition : ℕ → Bool
is_edition edition = eqb edition 410 || eqb edition 420

-- a signal has 1 to 64 bits
abbrev pub is_width : ℕ → Bool
is_width width = ltb 0 width && leb width 64

-- the edition of a number that is 410 or 420
abbrev pub edition_of : ℕ → Edition
edition_of edition = cond (eqb edition 410) Mdf410 Mdf420

abbrev pub mode_of : ℕ → ℕ → Mode
mode_of edition width = record { width = width; edition = edition_of edition }

-- "16 Edition for any other, before the width test"; "11 Width for 0 or above 64, before all others"; then one call in that mode
unfoldable pub applying_at : ℕ → ℕ → List ℕ → ℕ → ℕ → Value → List ℕ → List ℕ → Call
applying_at edition width img a limit v t out =
    cond (is_edition edition)
    (cond (is_width width) (applying (mode_of edition width) img a limit v t out) (call (refused_before Width) out))
    (call (refused_before WrongEdition) out)

-- ---- for inner contracts
-- the edition of a number, or the refusal of one that names none
abbrev pub edition_named : ℕ → Result Edition Refusal
edition_named edition = cond (is_edition edition) (Ok (edition_of edition)) (Err WrongEdition)

-- the mode of two numbers, or the refusal of a mode that is none
abbrev pub mode_asked : ℕ → ℕ → Result Mode Refusal
mode_asked edition width = cond (is_edition edition) (cond (is_width width) (Ok (mode_of edition width)) (Err Width)) (Err WrongEdition)
