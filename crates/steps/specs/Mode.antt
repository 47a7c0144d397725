-- What an application may vary: how many bits reach the masks, and whether bit groups are known. Document 01 has one mode, `standard` (document 01,
-- "Applying", bit groups: "the integer's 64 bits"). Assumes nothing: these are definitions.
use Rattle.std.specs.Prelude.{ℕ, ◌%◌, ◌^◌, None, Option, Some}
use Rattle.floats.specs.Twos.{twos}
use Rattle.rules.specs.declared.number.Value.{Value}
use Rattle.rules.specs.declared.number.Value.TheVariants.{Unsigned, Signed, Float, Text, Other}
use Rattle.steps.specs.declared.mode.Mode.{Mode}
use Rattle.steps.specs.declared.mode.Edition.TheVariants.{Mdf420}

-- the integer's 64 bits, and bit groups as MDF 4.20 has them
abbrev pub standard : Mode
standard = record { width = 64; edition = Mdf420 }

-- the low bits of an integer, signed as two's complement; no other value has any (request [2]: "only that many low bits reach the masks")
abbrev pub bits_of : Mode → Value → Option ℕ
bits_of mode (Unsigned n) = Some (n % 2 ^ mode.width)
bits_of mode (Signed n) = Some (twos n % 2 ^ mode.width)
bits_of mode (Float x) = None
bits_of mode Text = None
bits_of mode Other = None
