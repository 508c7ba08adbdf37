-- Every pattern of a NaN is `nan`. Assumes nothing.
use Rattle.std.proofs.Common.{◌≡◌, refl, sym, ◌∙◌, true, true≢false}
use Rattle.std.specs.Prelude.{Float}
use Rattle.std.specs.Float.{binary64}
use Rattle.std.specs.Float.Ieee.{nan, inf, fin, is_nan, of_bits}
use lib.Ieee.Bits.{nan_bits_is}
use Rattle.floats.proofs.from_pattern.Goals as goal

only_nan : (x : Float) → is_nan x ≡ true → nan ≡ x
unfolding is_nan
only_nan nan e = refl
only_nan (inf s) e = absurd (true≢false (sym e))
only_nan (fin s m e') e = absurd (true≢false (sym e))

-- the constant's own pattern
constant : of_bits binary64 9221120237041090560 ≡ nan
unfolding of_bits
constant = refl

pub returns-then-is_nan_pattern : goal.returns-then-is_nan_pattern
returns-then-is_nan_pattern c = constant ∙ only_nan (of_bits binary64 c.args.u) (sym (nan_bits_is binary64 c.args.u) ∙ sym c.is_nan_pattern.ensures ∙ c.if-is_nan_pattern.true)
