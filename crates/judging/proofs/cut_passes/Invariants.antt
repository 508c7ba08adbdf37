-- `cut_passes`: `reach` has the places that the blocks before j reach.
use Rattle.judging.specs.Reach.{any_pair, Reached}
use Rattle.blocks.proofs.LentBlocks.{lent}
use Rattle.judging.proofs.cut_passes.Given as goal

abbrev pub invariant-loop-j : goal.invariant-loop-j
invariant-loop-j l = Reached any_pair (lent l.j l.blocks) l.w l.reach
