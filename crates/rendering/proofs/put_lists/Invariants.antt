-- The loop: what is written, and then the lines of the lists from `at` on, are the lines of all lists; there are at least two bytes before `at` for each list so far,
-- and after what is written there is room for five bytes for each byte of the input that is left, and for a line more. The measure is the number of bytes left.
use Rattle.std.proofs.Common.{◌-◌, length}
use Rattle.rendering.proofs.Filled.{Going}
use Rattle.rendering.proofs.put_lists.Given as goal

abbrev pub invariant-loop-next : goal.invariant-loop-next
invariant-loop-next l = Going l.template l.input l.first l.fn.out l.out l.at l.number l.filled

abbrev pub decreases-loop-next : goal.decreases-loop-next
decreases-loop-next l = length l.input - l.at
