-- The lists of the two families: of two that are lent one is empty. Assumes nothing.
use mathlib.Core.Path.{◌≡◌, ap}
use mathlib.Core.List.{List}
use Prim.Native.Nat.{◌+◌}
use native.Mathlib.Omega.{arith}
use lib.IntN.{ℤ}
use lib.Ieee.{Float}
use lib.ListN.{length}
use Rattle.format.specs.declared.Family.{Family}
use Rattle.grammar.specs.Family.{list_of, Lent}

pub lent_size : (fam : Family) (xs : List ℤ) (ys : List Float) → Lent fam xs ys → length (list_of fam xs ys) ≡ length xs + length ys
lent_size Family.Integers xs ys e = omega (arith, ap length e)
lent_size Family.Floats xs ys e = omega (arith, ap length e)
