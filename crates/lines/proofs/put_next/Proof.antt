-- `lines::put_next` meets its contract: the space, then the digits after it. Assumes nothing.
use Rattle.lines.proofs.Lines.{next_inside, next_fits, next_place, next_placed, next_length}
use borrow.Author.Rules.{rules}
use Rattle.lines.proofs.put_next.Statement.{statement}
use Rattle.lines.proofs.put_next.Tie as tie

slice_write_out : tie.Need-bounds-out-at
slice_write_out c =
    let a = c.before.args in
    next_inside a.out.now a.out.now a.at a.n c.before.requires

add_put_number : tie.Need-overflow_add-at
add_put_number c = search rules

put_number_requires : tie.Need-put_number-requires
put_number_requires c κs =
    let a = c.before.before.args in
    next_fits a.out.now a.out.now a.at a.n c.before.before.requires

same_length : tie.Need-shape_of-out
same_length c =
    let at_put_number = c.before.before in
    let start = at_put_number.before.before.before in
    let a = start.args in
    next_length a.out.now at_put_number.put_number.new.out a.at a.n start.requires at_put_number.put_number.ensures.0

returns : tie.Need-returns
returns c =
    let at_put_number = c.before.before in
    let start = at_put_number.before.before.before in
    let a = start.args in
    (next_placed a.out.now at_put_number.put_number.new.out a.at a.n start.requires at_put_number.put_number.ensures.0, next_place a.out.now a.out.now a.at a.n start.requires at_put_number.put_number.result at_put_number.put_number.ensures.1)

pub put_next_spec : {M : Type 1} → statement M
put_next_spec =
    tie.close (tie.spec slice_write_out add_put_number put_number_requires same_length returns)
