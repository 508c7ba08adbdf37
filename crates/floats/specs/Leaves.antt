-- The leaves of the float family (docs/RULES.md, "Floats"). A decoded leaf is the enum `Leaf` of the code: a float, a range, any value.
-- one_fault x      == the fault of a 06 with the float x: 14 for a NaN, 0 for none
-- bounds_fault b   == the fault of a 07 with these bounds: 14 for a NaN, 6 for lower above upper, 0 for none
-- float_matches l x == the leaf l matches the float x
-- Assumes nothing: these are definitions.
use Rattle.std.specs.Prelude.{ℕ, Bool, true, ◌||◌, ◌&&◌, cond, Float}
use Rattle.std.specs.Float.Ieee.{lt, le, eq, is_nan}
use Rattle.floats.specs.declared.Bounds.{Bounds}
use Rattle.floats.specs.declared.Leaf.{Leaf}

unfoldable pub one_fault : Float → ℕ
one_fault x = cond (is_nan x) 14 0

unfoldable pub bounds_fault : Bounds → ℕ
bounds_fault b =
    cond (is_nan b.lower || is_nan b.upper) 14
    (cond (lt b.upper b.lower) 6
    0)

-- "Numbers are compared as IEEE 754 does": minus zero equals zero, and a NaN equals nothing and lies between no bounds
unfoldable pub float_matches : Leaf → Float → Bool
float_matches (Leaf.Float y) x = eq y x
float_matches (Leaf.Range b) x = le b.lower x && le x b.upper
float_matches Leaf.Any x = true
