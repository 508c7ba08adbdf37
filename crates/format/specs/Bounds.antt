-- The bounds of a 20 or a 30 (docs/RULES.md, "Limits").
-- bad_bounds min max == min or max is outside its range, or min is above max
-- Assumes nothing: these are definitions.
use Rattle.std.specs.Prelude.{ℕ, Bool, not, ◌||◌, ◌&&◌, ltb, eqb}

-- "min is 0 to 32 and max is 0 to 32 or 255"
abbrev pub bad_bounds : ℕ → ℕ → Bool
bad_bounds min max = ltb 32 min || ((ltb 32 max && not (eqb max 255)) || ltb max min)
