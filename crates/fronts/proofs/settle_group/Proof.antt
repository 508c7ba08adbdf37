-- `settle_group` meets its contract: the first of its lists settles the group. Assumes nothing.
use Rattle.fronts.proofs.Moves.{nexts_are, group_moved}
use borrow.Author.Rules.{rules}
use Rattle.fronts.proofs.settle_group.Statement.{statement}
use Rattle.fronts.proofs.settle_group.Tie as tie

first_member_requires : tie.Need-first_member-head-requires
first_member_requires c κs = search rules

after_last_requires : tie.Need-after_last-next-requires
after_last_requires c κs = search rules

copy_piece_requires : tie.Need-copy_piece-requires
copy_piece_requires c κs = search rules

cast_least : tie.Need-overflow_cast-least
cast_least c = search rules

cast_least_2 : tie.Need-overflow_cast-least-2
cast_least_2 c = search rules

add_least : tie.Need-overflow_add-least
add_least c = search rules

cast_most : tie.Need-overflow_cast-most
cast_most c = search rules

cast_most_2 : tie.Need-overflow_cast-most-2
cast_most_2 c = search rules

add_most : tie.Need-overflow_add-most
add_most c = search rules

up_to_requires : tie.Need-up_to-requires
up_to_requires c κs = search rules

after_spares_requires : tie.Need-after_spares-reached-requires
after_spares_requires c κs = search rules

from_on_requires : tie.Need-from_on-requires
from_on_requires c κs = search rules

in_both_requires : tie.Need-in_both-requires
in_both_requires c κs = search rules

returns : tie.Need-returns
returns c =
    let s = c.before.before.before.before.before.before.before.before.before.before.before.before in
    λ may g. group_moved s.requires.0 s.requires.1 s.requires.2 s.requires.5 g c.before.before.before.before.before.before.before.before.before.before.before.first_member-head.ensures c.before.before.before.before.before.before.before.before.before.before.after_last-next.ensures
    (nexts_are c.before.before.before.up_to.result c.before.before.after_spares-reached.result c.before.from_on.result s.requires.2 c.before.before.before.up_to.ensures c.before.before.after_spares-reached.ensures c.before.from_on.ensures c.in_both.ensures)
    c.before.before.before.before.before.before.before.before.copy_piece.ensures

pub settle_group_spec : {M : Type 1} → statement M
settle_group_spec =
    tie.close
    (tie.spec
    first_member_requires
    after_last_requires
    copy_piece_requires
    cast_least
    cast_least_2
    add_least
    cast_most
    cast_most_2
    add_most
    up_to_requires
    after_spares_requires
    from_on_requires
    in_both_requires
    returns)
