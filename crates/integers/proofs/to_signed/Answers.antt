-- The definition's test is that of the cast. Assumes nothing.
use Rattle.std.proofs.Common.{◌≡◌, ◌∙◌, ap, ℕ, ◌<◌, negsuc, to_z, w32, arith}
use lib.Dec.{ltb}
use Rattle.facts.proofs.Cases.{by-test}
use Rattle.integers.specs.Integer.{signed}
use Rattle.integers.proofs.SignedLocals.{again_same}
use Rattle.integers.proofs.to_signed.Goals as goal

signed_is : (u : ℕ) → u < 4294967296 → to_z w32 u ≡ signed u
unfolding signed
signed_is u small = by-test (ltb u 2147483648) (λ e. rw e) (λ e. rw e (ap negsuc (omega arith)))

pub returns : goal.returns
returns c = again_same c.cast_signed.result c.cast_signed.type_inv ∙ c.cast_signed.ensures ∙ signed_is c.args.u c.ranges.u.fits
