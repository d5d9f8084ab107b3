-- The text of a time or an interval: seconds with six decimals, which is this project's own form.
use Rattle.std.specs.Prelude.{ℕ, suc, ◌-◌, ◌/◌, ◌%◌, List, ◌++◌, length, replicate, codes, decimal, ℤ, pos, negsuc}

-- the digits of n, with zeros before them up to the width
abbrev pub padded_decimal : ℕ → ℕ → List ℕ
padded_decimal width n = replicate (width - length (decimal n)) 48 ++ decimal n

-- n microseconds as seconds: the whole ones, a point, and the six digits of the rest
abbrev pub seconds_decimal : ℕ → List ℕ
seconds_decimal n = decimal (n / 1_000_000) ++ codes "." ++ padded_decimal 6 (n % 1_000_000)

-- microseconds as seconds, with a minus sign before a negative number
unfoldable pub span_decimal : ℤ → List ℕ
span_decimal (pos n) = seconds_decimal n
span_decimal (negsuc n) = codes "-" ++ seconds_decimal (suc n)
