-- A leaf is read by the function that is passed. Assumes nothing.
use Rattle.format.specs.declared.Family.{Family}
use Rattle.grammar.specs.FloatLeaf.{float_head}
use Rattle.elements.proofs.float_head_end.Goals as goal

pub returns : goal.returns
returns c = c.element_head_end.ensures Family.Floats float_head (λ r h. h)
