-- 32-bit integers (docs/RULES.md, "Integers as bytes": "An integer takes four bytes, the low byte first").
-- Word z          <-> z is a 32-bit integer, -2147483648 to 2147483647
-- least, greatest == -2147483648, which has no lower neighbour, and 2147483647, which has no upper one
-- joined a b c d  == the number that four bytes say with no sign, the low byte a first
-- signed u        == the integer whose 32 bits are those of u
-- bits_at s i      == the number that the four bytes of s from the place i on say with no sign
-- int_at s i       == the integer whose four bytes stand in s from the place i on
-- bits z          == the 32 bits of z as a number with no sign
-- four_bytes u     == the four bytes of u, low byte first
-- int_bytes z      == the four bytes of z, low byte first
-- eq_z a b         == whether a is b
-- Assumes nothing: these are definitions.
use Rattle.std.specs.Prelude.{ℕ, ◌+◌, ◌-◌, ◌*◌, ◌/◌, ◌%◌, ◌<◌, List, [], ◌∷◌, Bool, false, cond, ltb, eqb, get_or, ℤ, pos, negsuc}
use Rattle.std.specs.Int.Signed.{mag}

abbrev pub Word : ℤ → Type 0
Word z = mag z < 2147483648

abbrev pub least : ℤ
least = negsuc 2147483647

abbrev pub greatest : ℤ
greatest = pos 2147483647

abbrev pub joined : ℕ → ℕ → ℕ → ℕ → ℕ
joined a b c d = a + b * 256 + c * 65536 + d * 16777216

-- below 2 ^ 31 the number itself, from there on the number less 2 ^ 32
unfoldable pub signed : ℕ → ℤ
signed u = cond (ltb u 2147483648) (pos u) (negsuc (4294967295 - u))

abbrev pub bits_at : List ℕ → ℕ → ℕ
bits_at s i = joined (get_or s i 0) (get_or s (i + 1) 0) (get_or s (i + 2) 0) (get_or s (i + 3) 0)

unfoldable pub int_at : List ℕ → ℕ → ℤ
int_at s i = signed (bits_at s i)

abbrev pub bits : ℤ → ℕ
bits (pos n) = n
bits (negsuc n) = 4294967295 - n

abbrev pub four_bytes : ℕ → List ℕ
four_bytes u = u % 256 ∷ u / 256 % 256 ∷ u / 65536 % 256 ∷ u / 16777216 % 256 ∷ []

unfoldable pub int_bytes : ℤ → List ℕ
int_bytes z = four_bytes (bits z)

abbrev pub eq_z : ℤ → ℤ → Bool
eq_z (pos a) (pos b) = eqb a b
eq_z (pos a) (negsuc b) = false
eq_z (negsuc a) (pos b) = false
eq_z (negsuc a) (negsuc b) = eqb a b
