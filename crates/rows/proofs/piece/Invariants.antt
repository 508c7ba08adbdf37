-- `piece`: the rows before e are those of the piece, the others are empty.
use Rattle.rows.specs.Columns.{Piece}
use Rattle.rows.proofs.piece.Given as goal

abbrev pub invariant-loop-e : goal.invariant-loop-e
invariant-loop-e l = Piece l.rows l.first l.k l.from l.e l.r
