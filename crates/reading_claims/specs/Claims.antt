-- What is claimed of integers as bytes and of the reading of templates.
-- ReadsBack  <-> the four bytes of a 32-bit integer, in front of anything, say that integer
-- WritesBack <-> four bytes are the bytes of the integer that they say
-- OrderKept  <-> comparison of 32-bit integers is comparison of their ranks
-- Neighbours <-> the next and the previous integer have the next and the previous rank, where they exist
-- NumberGiven    <-> the number that the functions give is the definition's: the verdict of the reading
-- AcceptedAtZero <-> 0 is given exactly where the bytes are accepted: they were read to their end
-- Assumes nothing: these are statements, proved in proofs/Claims.antt.
use Rattle.std.specs.Prelude.{◌≡◌, List, [], ◌∷◌, ◌++◌, ℕ, ◌+◌, ◌-◌, ◌<◌, ltb, leb, eqb, ℤ, pos, ◌+ℤ◌, ◌-ℤ◌}
use Rattle.std.specs.Int.Signed.{lt_z, le_z}
use Rattle.integers.specs.Integer.{Word, joined, signed, int_at, int_bytes, eq_z}
use Rattle.integers.specs.Rank.{rank}
use Rattle.grammar.specs.Read.{Read, got, verdict}
use Rattle.elements.specs.Contract.{Answered}

-- ---- integers
abbrev pub ReadsBack : Type 0
ReadsBack = (z : ℤ) (s : List ℕ) → Word z → int_at (int_bytes z ++ s) 0 ≡ z

abbrev pub WritesBack : Type 0
WritesBack = (a b c d : ℕ) → a < 256 → b < 256 → c < 256 → d < 256 → int_bytes (signed (joined a b c d)) ≡ a ∷ b ∷ c ∷ d ∷ []

abbrev pub OrderKept : Type 0
OrderKept = (x y : ℤ) → Word x → Word y → (lt_z x y ≡ ltb (rank x) (rank y)) × (le_z x y ≡ leb (rank x) (rank y)) × (eq_z x y ≡ eqb (rank x) (rank y))

abbrev pub Neighbours : Type 0
Neighbours = (z : ℤ) → Word z → (rank z < 4294967295 → Word (z +ℤ pos 1) × (rank (z +ℤ pos 1) ≡ rank z + 1)) × (0 < rank z → Word (z -ℤ pos 1) × (rank (z -ℤ pos 1) ≡ rank z - 1))

-- ---- reading
abbrev pub NumberGiven : Type 1
NumberGiven = (A : Type 0) (o : Read A) (r : ℕ) → Answered o r → r ≡ verdict o

abbrev pub AcceptedAtZero : Type 1
AcceptedAtZero = (A : Type 0) (o : Read A) (r : ℕ) → Answered o r → (r ≡ 0 → (a : A) × (o ≡ got a [])) × ((a : A) → o ≡ got a [] → r ≡ 0)
