-- `plain_first`. The loop: the elements before e match their members, and have their numbers.
use Rattle.std.proofs.Common.{List, take}
use Rattle.grammar.specs.Element.{Elem}
use Rattle.format.specs.declared.Family.{Family}
use Rattle.grammar.specs.Family.{LeafOf, list_of, Lent}
use Rattle.grammar.specs.Blocks.{Standing}
use Rattle.member_rows.specs.Contract.{pair_of}
use Rattle.records.proofs.PlainCuts.{Tested}
use Rattle.records.proofs.plain_first.Given as goal

abbrev pub invariant-loop-e : goal.invariant-loop-e
invariant-loop-e l = (fam : Family) → Lent fam l.integers l.floats → (es : List (Elem (LeafOf fam))) → Standing fam l.t es (take l.members l.places) → Tested (pair_of fam es (list_of fam l.integers l.floats)) l.e l.w
