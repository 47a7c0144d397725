-- The number of a value (document 01, "Applying": "x" is the number: a float itself, an integer rounded to the nearest f64, ties to even).
-- Assumes nothing: a definition.
use Rattle.std.specs.Prelude.{true, false, pos, None, Option, Some}
use Rattle.std.specs.Float.{binary64}
use Rattle.std.specs.Float.Ieee.{of_int}
use Rattle.rules.specs.declared.number.Value.{Value}
use Rattle.rules.specs.declared.number.Value.TheVariants.{Unsigned, Signed, Float, Text, Other}
use Rattle.rules.specs.declared.number.Taken.{Taken}

-- the number, and whether it came from an integer
abbrev pub taken : Value → Option Taken
taken (Unsigned n) = Some (record { number = of_int binary64 (pos n); whole = true })
taken (Signed n) = Some (record { number = of_int binary64 n; whole = true })
taken (Float x) = Some (record { number = x; whole = false })
taken Text = None
taken Other = None
