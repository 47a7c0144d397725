-- A signed number's 64 bits (document 01, "Applying", bit groups: "signed as two's complement"). Assumes nothing: a definition.
use Rattle.std.specs.Prelude.{ℕ, suc, ◌-◌, ◌^◌, ℤ, pos, negsuc}

-- n itself, or 2^64 less the size of a negative number; `negsuc k` is -(k + 1)
unfoldable pub twos : ℤ → ℕ
twos (pos n) = n
twos (negsuc k) = 2 ^ 64 - suc k
