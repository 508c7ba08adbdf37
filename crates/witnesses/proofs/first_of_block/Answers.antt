-- `first_of_block`: a cut by one block is what it takes of all elements.
use Rattle.std.proofs.Common.{refl}
use Rattle.witnesses.proofs.OneBlock.{other_size, whole_answer_lem, out_of_size, in_size}
use Rattle.witnesses.proofs.first_of_block.Goals as goal

pub returns-then-size-least : goal.returns-then-size-least
returns-then-size-least c = other_size _ _ _ _ refl (out_of_size _ _ _ c.if-size-least.true)

pub returns : goal.returns
returns c = let s = in_size _ _ _ c.if-size-least.false in whole_answer_lem _ _ _ s.0 s.1 c.first_assignment.ensures
