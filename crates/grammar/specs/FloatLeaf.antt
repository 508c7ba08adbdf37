-- The leaves of the float family (docs/RULES.md, "Floats"): "A leaf is a record 06, 07 or 03". What a leaf says is the enum `Leaf` of crate `floats`.
-- bounds_at s i == the bounds whose eight bytes each stand in s from the place i on
-- one_head s == the 06 at the front of s, or its fault 3 or 14; float_range_head s == the 07 there, or its fault 3, 14 or 6
-- float_head s == the leaf at the front of s, or its own fault: 4 for any other kind, 3 for a short body, 14 for a NaN, 6 for lower above upper
-- Assumes nothing: these are definitions.
use Rattle.std.specs.Prelude.{ℕ, ◌+◌, List, cond, length, drop, ltb, eqb}
use Rattle.floats.specs.Bytes.{float_at}
use Rattle.floats.specs.Leaves.{one_fault, bounds_fault}
use Rattle.floats.specs.declared.Bounds.{Bounds}
use Rattle.floats.specs.declared.Leaf.{Leaf}
use Rattle.grammar.specs.Record.{Head, fault, fault_or, leaf_here, kind_of}

abbrev pub bounds_at : List ℕ → ℕ → Bounds
bounds_at s i = record { lower = float_at s i; upper = float_at s (i + 8) }

unfoldable pub one_head : List ℕ → Head Leaf
one_head s =
    cond (ltb (length s) 9) (fault 3)
    (fault_or (one_fault (float_at s 1))
    (leaf_here (Leaf.Float (float_at s 1)) (drop 9 s)))

unfoldable pub float_range_head : List ℕ → Head Leaf
float_range_head s =
    cond (ltb (length s) 17) (fault 3)
    (fault_or (bounds_fault (bounds_at s 1))
    (leaf_here (Leaf.Range (bounds_at s 1)) (drop 17 s)))

unfoldable pub float_head : List ℕ → Head Leaf
float_head s =
    cond (eqb (kind_of s) 0x06) (one_head s)
    (cond (eqb (kind_of s) 0x07) (float_range_head s)
    (cond (eqb (kind_of s) 0x03) (leaf_here Leaf.Any (drop 1 s))
    (fault 4)))
