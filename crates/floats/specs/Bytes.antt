-- Eight bytes and a 64-bit float (document 02, One: "bytes low first").
-- float_at s i == the float whose eight bytes stand in s from the place i on; every pattern of a NaN is the one value `nan`
-- Assumes nothing: these are definitions.
use Rattle.std.specs.Prelude.{ℕ, ◌+◌, ◌*◌, List, Float}
use Rattle.std.specs.Float.{binary64}
use Rattle.std.specs.Float.Ieee.{of_bits}
use Rattle.integers.specs.Integer.{bits_at}

unfoldable pub float_at : List ℕ → ℕ → Float
float_at s i = of_bits binary64 (bits_at s i + bits_at s (i + 4) * 4294967296)
