-- `piece`: no rows at first, and at e the row of e.
use Rattle.std.proofs.Common.{arith}
use Rattle.rows.proofs.PieceRows.{piece_none, piece_more}
use Rattle.rows.proofs.piece.Goals as goal

pub loop-e-init : goal.loop-e-init
loop-e-init c = piece_none

pub loop-e-preserved : goal.loop-e-preserved
loop-e-preserved c = piece_more c.span-block.result c.loop-e.auto.e (omega arith) c.span-block.ensures c.loop-e.invariant
