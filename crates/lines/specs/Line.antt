-- A line (docs/RULES.md, "The program": "with one space between two numbers and a line end behind the last").
-- glyph d      == the ASCII byte of the digit d
-- digits_by f n == the decimal digits of n, with f divisions allowed
-- decimal n    == the decimal digits of n in ASCII, the first first, no zero in front
-- space_then n  == a space and the number n
-- spaced ns    == each of the numbers ns, one space in front of each
-- line n ns    == the number n and the numbers ns, separated by one space, and a newline
-- Assumes nothing: these are definitions.
use Rattle.std.specs.Prelude.{cond, List, [], ◌∷◌, ◌++◌, ℕ, zero, suc, ◌+◌, ◌/◌, ◌%◌, ltb}

abbrev pub glyph : ℕ → ℕ
glyph d = 48 + d

unfoldable pub digits_by : ℕ → ℕ → List ℕ
digits_by zero n = glyph (n % 10) ∷ []
digits_by (suc f) n = cond (ltb n 10) (glyph n ∷ []) (digits_by f (n / 10) ++ (glyph (n % 10) ∷ []))

-- n divisions are more than enough
unfoldable pub decimal : ℕ → List ℕ
decimal n = digits_by n n

unfoldable pub space_then : ℕ → List ℕ
space_then n = 32 ∷ decimal n

unfoldable pub spaced : List ℕ → List ℕ
spaced [] = []
spaced (n ∷ ns) = space_then n ++ spaced ns

unfoldable pub line : ℕ → List ℕ → List ℕ
line n ns = decimal n ++ (spaced ns ++ (10 ∷ []))
