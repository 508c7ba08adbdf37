-- `turned`: the piece, transposed.
use Rattle.rows.proofs.PieceRows.{piece_within, piece_turned}
use Rattle.rows.proofs.turned.Goals as goal

pub transpose-requires : goal.transpose-requires
transpose-requires c =
    let part = c.piece-r.ensures in
    let wide = c.width-size.ensures in
    (wide.square, part.size, piece_within wide part)

pub returns : goal.returns
returns c = piece_turned c.piece-r.ensures c.transpose.ensures
