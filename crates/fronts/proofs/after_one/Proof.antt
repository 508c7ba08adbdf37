-- `after_one` meets its contract: a member at the first of the places comes before one at a later place. Assumes nothing.
use Rattle.fronts.proofs.Moves.{one_moved}
use native.Mathlib.Omega.{arith}
use borrow.Author.Rules.{rules}
use Rattle.fronts.proofs.after_one.Statement.{statement}
use Rattle.fronts.proofs.after_one.Tie as tie

lowest_place_requires : tie.Need-lowest_place-q-requires
lowest_place_requires c κs = search rules

element_write_w : tie.Need-bounds-w-q
element_write_w c = let p = c.before.requires.3 _ c.lowest_place-q.ensures.inside in omega arith

add_with_place : tie.Need-overflow_add-q
add_with_place c = search rules

with_place_requires : tie.Need-with_place-requires
with_place_requires c κs = let p = c.before.requires.3 _ c.lowest_place-q.ensures.inside in omega arith

add_t9 : tie.Need-overflow_add-result
add_t9 c = search rules

returns : tie.Need-returns
returns c = let s = c.before.before in λ may ends low lead. one_moved _ s.requires.0 s.requires.1 low lead s.requires.4 c.before.lowest_place-q.ensures c.with_place.ensures

pub after_one_spec : {M : Type 1} → statement M
after_one_spec =
    tie.close
    (tie.spec
    lowest_place_requires
    element_write_w
    add_with_place
    with_place_requires
    add_t9
    returns)
