-- `containment_passes`. The loop, `Given`: each element before e has a member that matches it.
use Rattle.std.proofs.Common.{List, take}
use Rattle.format.specs.declared.Family.{Family}
use Rattle.grammar.specs.Element.{Elem}
use Rattle.grammar.specs.Family.{LeafOf, list_of, Lent}
use Rattle.grammar.specs.Blocks.{Standing}
use Rattle.member_rows.specs.Contract.{pair_of}
use Rattle.sheets.proofs.LeastMembers.{Given}
use Rattle.sheets.proofs.containment_passes.Given as goal

abbrev pub invariant-loop-e : goal.invariant-loop-e
invariant-loop-e l = (fam : Family) → Lent fam l.integers l.floats → (es : List (Elem (LeafOf fam))) → Standing fam l.t es (take l.members l.places)
    → Given (pair_of fam es (list_of fam l.integers l.floats)) l.members l.w l.e
