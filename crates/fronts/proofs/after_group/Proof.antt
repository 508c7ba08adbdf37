-- `after_group` meets its contract. Assumes nothing.
use Rattle.fronts.proofs.Moves.{picked_order}
use borrow.Author.Rules.{rules}
use Rattle.fronts.proofs.after_group.Statement.{statement}
use Rattle.fronts.proofs.after_group.Tie as tie

first_piece_requires : tie.Need-first_piece-to-requires
first_piece_requires c κs = search rules

settle_group_requires : tie.Need-settle_group-requires
settle_group_requires c κs =
    let s = c.before.before.before.before in
    let g = c.before.before.first_piece-to.ensures in
    (s.requires.0, s.requires.1, s.requires.2, picked_order s.requires.4 g, g.high, s.requires.4)

returns : tie.Need-returns
returns c = c.settle_group.ensures _ c.before.before.before.first_piece-to.ensures

pub after_group_spec : {M : Type 1} → statement M
after_group_spec = tie.close (tie.spec first_piece_requires settle_group_requires returns)
