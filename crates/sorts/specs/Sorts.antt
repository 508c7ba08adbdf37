-- The family and the type of a template's leaves, as one number.
-- floats_word       == the number of the floats: the bits of the greatest and of the least integer, which are the bounds of no type
-- word_of f lo hi   == the number of the leaves of the family f in the type from lo to hi
-- whole            == the sort of all 32-bit integers
-- family_of k, lower_of k, upper_of k == the family that the sort k says, and the bounds of the type
-- leaves_for k s    == the leaf of this sort at the front of s, or its own fault
-- Sorted f lo hi k <-> k says the family f and, of integers, the type from lo to hi
-- Assumes nothing: these are definitions.
use Rattle.std.specs.Prelude.{◌≡◌, cond, List, ℕ, ◌+◌, ◌*◌, ◌/◌, ◌%◌, eqb, ℤ}
use Rattle.format.specs.declared.Family.{Family}
use Rattle.integers.specs.Integer.{signed, bits}
use Rattle.grammar.specs.Record.{Head}
use Rattle.grammar.specs.Family.{LeafOf, leaves_in}
use Rattle.sorts.specs.declared.Sort.{Sort}

abbrev pub floats_word : ℕ
floats_word = 0x7fffffff80000000

abbrev pub word_of : Family → ℤ → ℤ → ℕ
word_of Family.Integers lo hi = bits lo * 4294967296 + bits hi
word_of Family.Floats lo hi = floats_word

abbrev pub whole : Sort
whole = record { word = 0x800000007fffffff }

abbrev pub family_of : Sort → Family
family_of k = cond (eqb k.word floats_word) Family.Floats Family.Integers

abbrev pub lower_of : Sort → ℤ
lower_of k = signed (k.word / 4294967296)

abbrev pub upper_of : Sort → ℤ
upper_of k = signed (k.word % 4294967296)

abbrev pub leaves_for : (k : Sort) → List ℕ → Head (LeafOf (family_of k))
leaves_for k = leaves_in (family_of k) (lower_of k) (upper_of k)

pub data Sorted (f : Family) (lo hi : ℤ) (k : Sort) : Type 0 where
  of_integers : f ≡ Family.Integers → family_of k ≡ Family.Integers → lower_of k ≡ lo → upper_of k ≡ hi → Sorted f lo hi k
  of_floats : f ≡ Family.Floats → family_of k ≡ Family.Floats → Sorted f lo hi k
