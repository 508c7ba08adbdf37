-- The bits are joined and then read with their sign. Assumes nothing.
use Rattle.std.proofs.Common.{ap, ◌∙◌}
use Rattle.integers.specs.Integer.{signed, int_at}
use Rattle.integers.proofs.SignedLocals.{again_same}
use Rattle.integers.proofs.int_at.Goals as goal

pub returns : goal.returns
unfolding int_at
returns c = again_same c.to_signed.result c.to_signed.type_inv ∙ c.to_signed.ensures ∙ ap signed c.bits_at.ensures
