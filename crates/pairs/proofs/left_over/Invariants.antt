-- The pairs before e are right, and `left` has the members that do not stand before e. Assumes nothing.
use Rattle.std.proofs.Common.{List, take}
use Rattle.grammar.specs.Element.{Elem}
use Rattle.format.specs.declared.Family.{Family}
use Rattle.grammar.specs.Family.{LeafOf, list_of, Lent}
use Rattle.grammar.specs.Blocks.{Standing}
use Rattle.pairs.proofs.ByteByByte.{Going}
use Rattle.pairs.proofs.left_over.Given as goal

abbrev pub invariant-loop-e : goal.invariant-loop-e
invariant-loop-e l = (fam : Family) → Lent fam l.integers l.floats → (es : List (Elem (LeafOf fam))) → Standing fam l.t es (take l.members l.places) → Going fam es (list_of fam l.integers l.floats) l.w l.e l.left
