-- `integers::same` meets its contract: the bits are equal exactly where the numbers are. Assumes nothing.
use mathlib.Core.Path.{◌≡◌, refl}
use Prim.Native.Nat.{suc, ◌-◌, ◌^◌}
use native.Mathlib.Omega.{arith}
use borrow.Author.Tests.{ne_eqb}
use lib.IntN.{ℤ, pos, negsuc}
use lib.Dec.{eqb}
use mir.Syntax.{w32}
use mir.Val.{of_z, SFits}
use Rattle.integers.specs.Integer.{eq_z}
use Rattle.facts.proofs.Cases.{same_eqb}
use Rattle.integers.proofs.same.Statement.{statement}
use Rattle.integers.proofs.same.Tie as tie

same_bits : (a b : ℤ) → SFits w32 a → SFits w32 b → eqb (of_z w32 a) (of_z w32 b) ≡ eq_z a b
same_bits (pos a) (pos b) fa fb = refl
same_bits (pos a) (negsuc b) fa fb = ne_eqb a (2 ^ 32 - suc b) (λ e. omega (arith, fa.sfits, fb.sfits))
same_bits (negsuc a) (pos b) fa fb = ne_eqb (2 ^ 32 - suc a) b (λ e. omega (arith, fa.sfits, fb.sfits))
same_bits (negsuc a) (negsuc b) fa fb =
    same_eqb (2 ^ 32 - suc a) (2 ^ 32 - suc b) a b (λ e. omega (arith, fa.sfits, fb.sfits)) (λ e. omega arith)

returns : tie.Need-returns
returns c = same_bits c.args.a c.args.b c.ranges.a c.ranges.b

pub same_spec : {M : Type 1} → statement M
same_spec = tie.close (tie.spec returns)
