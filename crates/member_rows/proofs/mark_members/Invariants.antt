-- The members first .. m - 1 are marked. Assumes nothing.
use Rattle.std.proofs.Common.{◌≡◌, length, take}
use Rattle.format.specs.declared.Family.{Family}
use Rattle.grammar.specs.Family.{list_of, Lent}
use Rattle.member_rows.proofs.RowByRow.{MarkedTo}
use Rattle.member_rows.proofs.mark_members.Given as goal

abbrev pub invariant-loop-m : goal.invariant-loop-m
invariant-loop-m l = record {
  size : length l.rows ≡ 32;
  marked : (fam : Family) (fit : length (take l.end l.places) ≡ l.end) → Lent fam l.integers l.floats → MarkedTo fam l.t l.places l.end fit l.fn.rows l.first (list_of fam l.integers l.floats) l.m l.rows;
}
