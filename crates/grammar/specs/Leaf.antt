-- The leaves of the integer family: "A leaf is a record 01, 02 or 03".
-- Leaf == 01 the integer itself, 02 a range with both its bounds, 03 any value
-- lower_of l, upper_of l == the bounds of the leaf l, both included: 01 is the range of its integer alone, 03 that of all 32-bit integers
-- single_head s == the 01 at the front of s, or its fault 3; range_head s == the 02 there, or its fault 3 or 6
-- leaf_head s == the leaf at the front of s, or its own fault: 4 for any other kind, 3 for a short body, 6 for lower above upper
-- outside_type lo hi x == the integer x is outside the type, which is the integers from lo to hi
-- reaches lo hi l == the leaf l reaches outside the type; any value never does
-- of_type lo hi h == the record h, or 16 where it is a leaf that reaches outside the type
-- typed_head lo hi s == the leaf at the front of s, of a template whose elements are of the type
-- Assumes nothing: these are definitions.
use Rattle.std.specs.Prelude.{ℕ, List, Bool, false, ◌||◌, cond, length, drop, ltb, eqb, ℤ}
use Rattle.std.specs.Int.Signed.{lt_z}
use Rattle.integers.specs.Integer.{least, greatest, int_at}
use Rattle.grammar.specs.Record.{Head, fault, leaf_here, group, kind_of}

pub data Leaf : Type 0 where
  single : ℤ → Leaf
  range : ℤ → ℤ → Leaf
  any : Leaf

unfoldable pub lower_of : Leaf → ℤ
lower_of (single z) = z
lower_of (range lower upper) = lower
lower_of any = least

unfoldable pub upper_of : Leaf → ℤ
upper_of (single z) = z
upper_of (range lower upper) = upper
upper_of any = greatest

unfoldable pub single_head : List ℕ → Head Leaf
single_head s =
    cond (ltb (length s) 5) (fault 3)
    (leaf_here (single (int_at s 1)) (drop 5 s))

unfoldable pub range_head : List ℕ → Head Leaf
range_head s =
    cond (ltb (length s) 9) (fault 3)
    (cond (lt_z (int_at s 5) (int_at s 1)) (fault 6)
    (leaf_here (range (int_at s 1) (int_at s 5)) (drop 9 s)))

unfoldable pub leaf_head : List ℕ → Head Leaf
leaf_head s =
    cond (eqb (kind_of s) 0x01) (single_head s)
    (cond (eqb (kind_of s) 0x02) (range_head s)
    (cond (eqb (kind_of s) 0x03) (leaf_here any (drop 1 s))
    (fault 4)))

abbrev pub outside_type : ℤ → ℤ → ℤ → Bool
outside_type lo hi x = lt_z x lo || lt_z hi x

-- "a leaf reaching outside the type (infinities too)": they are ends as any others
unfoldable pub reaches : ℤ → ℤ → Leaf → Bool
reaches lo hi (single z) = outside_type lo hi z
reaches lo hi (range lower upper) = lt_z lower lo || lt_z hi upper
reaches lo hi any = false

-- 16 "after 6": the record's own 4, 3 and 6 are found before
unfoldable pub of_type : ℤ → ℤ → Head Leaf → Head Leaf
of_type lo hi (fault r) = fault r
of_type lo hi (leaf_here l s) = cond (reaches lo hi l) (fault 16) (leaf_here l s)
of_type lo hi (group c n s) = group c n s

abbrev pub typed_head : ℤ → ℤ → List ℕ → Head Leaf
typed_head lo hi s = of_type lo hi (leaf_head s)
