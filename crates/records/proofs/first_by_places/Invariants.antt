-- `first_by_places`. The loop: the places from which the blocks from j on go on, and the rows of the groups among them. It ends at the first block, or after it
-- where that is a group.
use Rattle.std.proofs.Common.{◌≡◌, ◌+◌, ◌≤◌, List, length, take}
use Rattle.grammar.specs.Element.{Elem}
use Rattle.format.specs.declared.Family.{Family}
use Rattle.grammar.specs.Family.{LeafOf, list_of, Lent}
use Rattle.grammar.specs.Blocks.{Standing}
use Rattle.member_rows.specs.Contract.{pair_of}
use Rattle.records.proofs.Loop.{Going}
use Rattle.records.proofs.first_by_places.Given as goal

abbrev pub invariant-loop-j : goal.invariant-loop-j
invariant-loop-j l =
    ((fam : Family) → Lent fam l.integers l.floats → (es : List (Elem (LeafOf fam))) → Standing fam l.t es (take l.members l.places)
    → Going (pair_of fam es (list_of fam l.integers l.floats)) (length l.integers + length l.floats) l.count l.blocks l.j l.good l.ends l.rows)
    × (length l.ends ≡ 32) × (l.last ≤ l.count → l.last ≤ l.j)
