-- The definitions computed on examples: bytes that say a float, the faults of leaves, and leaves that match and that do not. Assumes nothing.
use mathlib.Core.Path.{◌≡◌, refl}
use mathlib.Core.List.{[], ◌∷◌}
use mathlib.Core.Bool.{true, false}
use lib.IntN.{pos, negsuc}
use lib.Ieee.{Float, nan, inf, fin, binary64, of_bits, is_nan, lt, le, eq}
use Rattle.floats.specs.declared.Bounds.{Bounds}
use Rattle.floats.specs.declared.Leaf.{Leaf}
use Rattle.floats.specs.Bytes.{float_at}
use Rattle.floats.specs.Leaves.{one_fault, bounds_fault, float_matches}

-- ---- floats by their bits

abbrev plus_zero : Float
plus_zero = of_bits binary64 0x0000000000000000

abbrev minus_zero : Float
minus_zero = of_bits binary64 0x8000000000000000

abbrev one : Float
one = of_bits binary64 0x3ff0000000000000

abbrev next_above_one : Float
next_above_one = of_bits binary64 0x3ff0000000000001

abbrev plus_infinity : Float
plus_infinity = of_bits binary64 0x7ff0000000000000

abbrev minus_infinity : Float
minus_infinity = of_bits binary64 0xfff0000000000000

abbrev bounds : Float → Float → Bounds
bounds l u = record { lower = l; upper = u }

two_zeros : (plus_zero ≡ fin false 0 (pos 0)) × (minus_zero ≡ fin true 0 (pos 0))
unfolding of_bits
two_zeros = (refl, refl)

one_is : one ≡ fin false 1 (pos 0)
unfolding of_bits
one_is = refl

two_infinities : (plus_infinity ≡ inf false) × (minus_infinity ≡ inf true)
unfolding of_bits
two_infinities = (refl, refl)

-- ---- eight bytes, low byte first

one_read : float_at (0x00 ∷ 0x00 ∷ 0x00 ∷ 0x00 ∷ 0x00 ∷ 0x00 ∷ 0xf0 ∷ 0x3f ∷ []) 0 ≡ one
unfolding float_at
one_read = refl

next_above_one_read : float_at (0x06 ∷ 0x01 ∷ 0x00 ∷ 0x00 ∷ 0x00 ∷ 0x00 ∷ 0x00 ∷ 0xf0 ∷ 0x3f ∷ []) 1 ≡ next_above_one
unfolding float_at
next_above_one_read = refl

minus_one_and_a_half_read : float_at (0x00 ∷ 0x00 ∷ 0x00 ∷ 0x00 ∷ 0x00 ∷ 0x00 ∷ 0xf8 ∷ 0xbf ∷ []) 0 ≡ fin true 3 (negsuc 0)
unfolding float_at of_bits
minus_one_and_a_half_read = refl

-- the least above zero, 2 ^ -1074
least_read : float_at (0x01 ∷ 0x00 ∷ 0x00 ∷ 0x00 ∷ 0x00 ∷ 0x00 ∷ 0x00 ∷ 0x00 ∷ []) 0 ≡ fin false 1 (negsuc 1073)
unfolding float_at of_bits
least_read = refl

infinity_read : float_at (0x00 ∷ 0x00 ∷ 0x00 ∷ 0x00 ∷ 0x00 ∷ 0x00 ∷ 0xf0 ∷ 0x7f ∷ []) 0 ≡ plus_infinity
unfolding float_at
infinity_read = refl

nan_read : float_at (0x01 ∷ 0x00 ∷ 0x00 ∷ 0x00 ∷ 0x00 ∷ 0x00 ∷ 0xf8 ∷ 0x7f ∷ []) 0 ≡ nan
unfolding float_at of_bits
nan_read = refl

signalling_nan_read : float_at (0x01 ∷ 0x00 ∷ 0x00 ∷ 0x00 ∷ 0x00 ∷ 0x00 ∷ 0xf0 ∷ 0xff ∷ []) 0 ≡ nan
unfolding float_at of_bits
signalling_nan_read = refl

-- ---- faults

no_06_of_nan : one_fault nan ≡ 14
unfolding one_fault is_nan
no_06_of_nan = refl

infinity_allowed : one_fault plus_infinity ≡ 0
unfolding one_fault of_bits is_nan
infinity_allowed = refl

nan_below : bounds_fault (bounds nan one) ≡ 14
unfolding bounds_fault is_nan
nan_below = refl

nan_above : bounds_fault (bounds one nan) ≡ 14
unfolding bounds_fault of_bits is_nan
nan_above = refl

lower_above_upper : bounds_fault (bounds one plus_zero) ≡ 6
unfolding bounds_fault of_bits is_nan lt
lower_above_upper = refl

zeros_as_bounds : bounds_fault (bounds plus_zero minus_zero) ≡ 0
unfolding bounds_fault of_bits is_nan lt
zeros_as_bounds = refl

infinities_as_bounds : bounds_fault (bounds minus_infinity plus_infinity) ≡ 0
unfolding bounds_fault of_bits is_nan lt
infinities_as_bounds = refl

-- ---- when a leaf matches

zero_is_minus_zero : float_matches (Leaf.Float plus_zero) minus_zero ≡ true
unfolding float_matches of_bits eq
zero_is_minus_zero = refl

minus_zero_in_zeros : float_matches (Leaf.Range (bounds plus_zero plus_zero)) minus_zero ≡ true
unfolding float_matches of_bits le
minus_zero_in_zeros = refl

infinity_is_itself : float_matches (Leaf.Float plus_infinity) plus_infinity ≡ true
unfolding float_matches of_bits eq
infinity_is_itself = refl

ends_included : (float_matches (Leaf.Range (bounds plus_zero one)) plus_zero ≡ true) × (float_matches (Leaf.Range (bounds plus_zero one)) one ≡ true)
unfolding float_matches of_bits le
ends_included = (refl, refl)

just_above : float_matches (Leaf.Range (bounds plus_zero one)) next_above_one ≡ false
unfolding float_matches of_bits le
just_above = refl

nan_is_not_one : float_matches (Leaf.Float one) nan ≡ false
unfolding float_matches of_bits eq
nan_is_not_one = refl

nan_in_no_range : float_matches (Leaf.Range (bounds minus_infinity plus_infinity)) nan ≡ false
unfolding float_matches of_bits le
nan_in_no_range = refl

any_matches_nan : float_matches Leaf.Any nan ≡ true
unfolding float_matches
any_matches_nan = refl
