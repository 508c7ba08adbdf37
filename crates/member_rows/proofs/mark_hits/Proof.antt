-- `member_rows::mark_hits` meets its contract. The loop: those of `left` are still to be marked. The measure is how many they are. Assumes nothing.
use native.Mathlib.Omega.{arith}
use borrow.Author.Rules.{rules}
use Rattle.facts.specs.Counting.{count}
use Rattle.masks.specs.Masks.{bit}
use Rattle.masks.proofs.OneByOne.{left_falls}
use Rattle.member_rows.proofs.RowByRow.{Marking, marking_start, marking_step, marking_end}
use Rattle.member_rows.proofs.mark_hits.Statement.{statement}
use Rattle.member_rows.proofs.mark_hits.Tie as tie

abbrev invariant_loop : tie.invariant-loop-left
invariant_loop rows₀ m elements left₀ rows left = Marking rows₀ m elements left rows

abbrev decreases_loop : tie.decreases-loop-left
decreases_loop rows₀ m elements left₀ rows left = count (bit left) 32

loop_holds : tie.Need-loop-left-init invariant_loop decreases_loop
loop_holds c = marking_start _ _ _ c.requires.0

lowest_requires : tie.Need-lowest-e-requires invariant_loop decreases_loop
lowest_requires c κs = omega (arith, c.loop-left-test.true)

without_lowest_requires : tie.Need-without_lowest-left-requires invariant_loop decreases_loop
without_lowest_requires c κs = omega (arith, c.loop-left-test.true)

cast_row : tie.Need-overflow_cast-row invariant_loop decreases_loop
cast_row c = search rules

mul_row : tie.Need-offset_bounds-rows-e invariant_loop decreases_loop
mul_row c = omega (arith, c.lowest-e.ensures.low)

element_copy_out_row : tie.Need-bounds-rows-e invariant_loop decreases_loop
element_copy_out_row c = omega (arith, c.lowest-e.ensures.low, c.loop-left.invariant.size)

with_requires : tie.Need-with-requires invariant_loop decreases_loop
with_requires c κs = search rules

cast_rows : tie.Need-overflow_cast-rows invariant_loop decreases_loop
cast_rows c = search rules

mul_rows : tie.Need-offset_bounds-rows-e-in-loop-left invariant_loop decreases_loop
mul_rows c = omega (arith, c.lowest-e.ensures.low)

element_write_rows : tie.Need-bounds-rows-e-in-loop-left invariant_loop decreases_loop
element_write_rows c = omega (arith, c.lowest-e.ensures.low, c.loop-left.invariant.size)

loop_less : tie.Need-loop-left-smaller invariant_loop decreases_loop
loop_less c =
    let chosen = c.before.before.before.before in
    left_falls chosen.lowest-e.result (c.without_lowest-left.ensures _ _ chosen.lowest-e.ensures) chosen.lowest-e.ensures.inside chosen.lowest-e.ensures.low (λ j h. h)

loop_again : tie.Need-loop-left-preserved invariant_loop decreases_loop
loop_again c =
    let chosen = c.before.before.before.before in
    marking_step _ _ _ _ _ chosen.loop-left.invariant _ _ _ chosen.lowest-e.ensures.low chosen.lowest-e.ensures.inside (c.without_lowest-left.ensures _ _ chosen.lowest-e.ensures) c.with.ensures

returns : tie.Need-returns invariant_loop decreases_loop
returns c = marking_end _ _ _ _ _ c.loop-left-test.false c.loop-left.invariant

pub mark_hits_spec : {M : Type 1} → statement M
mark_hits_spec =
    tie.close
    (tie.spec
    invariant_loop
    decreases_loop
    loop_holds
    lowest_requires
    without_lowest_requires
    cast_row
    mul_row
    element_copy_out_row
    with_requires
    cast_rows
    mul_rows
    element_write_rows
    loop_less
    loop_again
    returns)
