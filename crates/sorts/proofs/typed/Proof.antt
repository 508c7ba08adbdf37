-- `sorts::typed` meets its contract. Assumes nothing.
use mathlib.Core.Path.{ap, ap₂, ◌∙◌}
use Prim.Native.Nat.{ℕ, ◌+◌, ◌*◌}
use Rattle.integers.specs.Integer.{bits}
use Rattle.integers.proofs.SignedLocals.{again_same}
use borrow.Author.Rules.{rules}
use Rattle.sorts.proofs.typed.Statement.{statement}
use Rattle.sorts.proofs.typed.Tie as tie
use Rattle.sorts.proofs.typed.Reads as reads
use Rattle.sorts.proofs.typed.Lts as lts
use Rattle.integers.proofs.to_bits.Reads as to-bits-reads

to_bits_requires : tie.Need-to_bits-requires
to_bits_requires c κs = search rules

cast_t4 : tie.Need-overflow_cast-result
cast_t4 c = search rules

mul_t5 : tie.Need-overflow_mul-result
mul_t5 c = search rules

to_bits_requires_2 : tie.Need-to_bits-requires-2
to_bits_requires_2 c κs = search rules

cast_t7 : tie.Need-overflow_cast-result-2
cast_t7 c = search rules

add_t8 : tie.Need-overflow_add-result
add_t8 c = search rules

returns : tie.Need-returns
returns c =
    let s = c.before.before in
    ap₂ (λ (a b : ℕ). a * 4294967296 + b) (c.before.to_bits.ensures ∙ ap bits (again_same s.args.lower s.ranges.lower.sfits)) (c.to_bits-2.ensures ∙ ap bits (again_same s.args.upper s.ranges.upper.sfits))

pub typed_spec : {M : Type 1} → statement M
typed_spec =
    tie.close (tie.spec to_bits_requires cast_t4 mul_t5 to_bits_requires_2 cast_t7 add_t8 returns)
