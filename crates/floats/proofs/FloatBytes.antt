-- The float at a place of what is left of a list. Assumes nothing.
use Prim.Native.Nat.{ℕ, ◌+◌, ◌*◌}
use native.Mathlib.Nat.{add_assoc}
use mathlib.Core.Path.{◌≡◌, ap}
use mathlib.Core.List.{List}
use lib.ListN.{drop}
use lib.Ieee.{binary64, of_bits}
use Rattle.integers.proofs.FourBytes.{bits_at_drop}
use Rattle.floats.specs.Bytes.{float_at}

pub both_halves : {a b p q : ℕ} → a ≡ p → b ≡ q → a + b * 4294967296 ≡ p + q * 4294967296
both_halves e f = cc

pub float_at_drop : (t : List ℕ) (at i : ℕ) → float_at (drop at t) i ≡ float_at t (at + i)
unfolding float_at
float_at_drop t at i = ap (of_bits binary64) (both_halves (bits_at_drop t at i) (rw (add_assoc at i 4) (bits_at_drop t at (i + 4))))
