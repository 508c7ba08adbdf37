-- `in_one`: the number of a block says which block it is.
use Rattle.std.proofs.Common.{refl, ◌∙◌}
use Rattle.records.proofs.runs.in_one.Goals as goal

pub returns : goal.returns
returns c = c.number_of.ensures.1 ∙ rw (c.together-max.ensures, c.together-min.ensures, c.block_of-b.ensures, c.block_of-a.ensures) refl
