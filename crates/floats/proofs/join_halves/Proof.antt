-- `floats::join_halves` meets its contract: the shift loses no bit, and `|` adds the high half above the low one. Assumes nothing.
use mathlib.Core.Path.{◌≡◌, ap, ◌∙◌}
use Prim.Native.Nat.{ℕ, ◌+◌, ◌*◌, ◌%◌, ◌^◌, ◌<◌}
use native.Mathlib.Omega.{arith}
use lib.Bits.{bit_or, or_shifted_r}
use Rattle.floats.proofs.join_halves.Statement.{statement}
use Rattle.floats.proofs.join_halves.Tie as tie

joins : (l h : ℕ) → l < 4294967296 → h < 4294967296 → bit_or l (h * 4294967296 % 18446744073709551616) ≡ l + h * 4294967296
joins l h a b =
    let e : h * 4294967296 % 18446744073709551616 ≡ h * 2 ^ 32 = omega arith in
    ap (bit_or l) e ∙ or_shifted_r h 32 l a ∙ omega arith

returns : tie.Need-returns
returns c = joins c.args.low c.args.high c.ranges.low.fits c.ranges.high.fits

pub join_halves_spec : {M : Type 1} → statement M
join_halves_spec = tie.close (tie.spec returns)
