-- A leaf is read by the function that is passed. Assumes nothing.
use Rattle.format.specs.declared.Family.{Family}
use Rattle.grammar.specs.Leaf.{leaf_head}
use Rattle.elements.proofs.integer_head_end.Goals as goal

pub returns : goal.returns
returns c = c.element_head_end.ensures Family.Integers leaf_head (λ r h. h)
