-- `left` are still to be tested. The measure is how many they are. Assumes nothing.
use Rattle.std.proofs.Common.{get_or}
use Rattle.facts.specs.Counting.{count}
use Rattle.masks.specs.Masks.{bit}
use Rattle.element_match.proofs.Asked.{Sifting}
use Rattle.element_match.proofs.failing.Given as goal

abbrev pub invariant-loop-left : goal.invariant-loop-left
invariant-loop-left g l = Sifting (λ j b. (d : _) → goal.F-post g l.test (get_or l.elements j d) b) l.asked l.left l.rest

abbrev pub decreases-loop-left : goal.decreases-loop-left
decreases-loop-left g l = count (bit l.left) 32
