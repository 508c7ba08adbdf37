-- The test is the definition's. Assumes nothing.
use Rattle.std.proofs.Common.{sym, ◌∙◌}
use Rattle.floats.specs.Leaves.{one_fault}
use Rattle.floats.proofs.one_fault.Goals as goal

pub returns-then-is_nan : goal.returns-then-is_nan
unfolding one_fault
returns-then-is_nan c = rw (sym c.is_nan.ensures.value ∙ c.if-is_nan.true)

pub returns-else-is_nan : goal.returns-else-is_nan
unfolding one_fault
returns-else-is_nan c = rw (sym c.is_nan.ensures.value ∙ c.if-is_nan.false)
