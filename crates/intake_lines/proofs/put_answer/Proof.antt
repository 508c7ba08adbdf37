-- `intake_lines::put_answer` meets its contract: the witness is written on a match only. Assumes nothing.
use mathlib.Core.Path.{refl, sym}
use native.Mathlib.Omega.{arith}
use lib.ListN.{length, length-take}
use lib.Seq.{length-take-le}
use Rattle.format.specs.declared.Family.{Family}
use Rattle.intake_lines.proofs.Turns.{wrote_matched, wrote_other}
use borrow.Author.Rules.{rules}
use Rattle.intake_lines.proofs.put_answer.Statement.{statement}
use Rattle.intake_lines.proofs.put_answer.Tie as tie

array_share_prefix_none : tie.Need-slice_bounds-none-end
array_share_prefix_none c = search rules

slice_aggregate_match_planned : tie.Need-slice_bounds-match_planned-end
slice_aggregate_match_planned c = search rules

slice_aggregate_match_planned_2 : tie.Need-slice_bounds-match_planned-end-2
slice_aggregate_match_planned_2 c = search rules

match_planned_requires : tie.Need-match_planned-answer-requires
match_planned_requires c κs = record { family = Family.Integers; plan = c.requires.0; lent = refl }

array_share_prefix_room : tie.Need-slice_bounds-room-end
array_share_prefix_room c = search rules

slice_aggregate_put_line : tie.Need-slice_bounds-put_line-end
slice_aggregate_put_line c =
    let at_match_planned = c.before.before.before.before in
    let start = at_match_planned.before.before.before.before.before in
    let k = at_match_planned.match_planned-answer.auto.room in sym (length-take-le (length start.args.xs.now) at_match_planned.match_planned-answer.new.room (omega (arith, start.requires.1.count_short)))

put_line_requires : tie.Need-put_line-requires
put_line_requires c κs =
    let at_match_planned = c.before.before.before.before in
    let start = at_match_planned.before.before.before.before.before in
    (record { number_short = start.requires.1.number_short; count_short = start.requires.1.count_short; room = start.requires.1.room }, omega (arith, length-take (length start.args.xs.now) at_match_planned.match_planned-answer.new.room, start.requires.1.count_short))

same_length : tie.Need-shape_of-out-then-answer-eq-DONE
same_length c = search rules

returns : tie.Need-returns-then-answer-eq-DONE
returns c =
    let at_put_line = c.before.before in
    let at_if1 = at_put_line.before.before.before in
    let at_match_planned = at_if1.before.before in
    let start = at_match_planned.before.before.before.before.before in
    let a = start.args in
    wrote_matched a.template.now a.number a.xs.now at_match_planned.match_planned-answer.new.room at_match_planned.match_planned-answer.result (at_match_planned.match_planned-answer.ensures Family.Integers start.requires.0 refl) at_if1.if-answer-eq-DONE.true _ _ _ at_put_line.put_line.ensures

array_share_prefix_room_2 : tie.Need-slice_bounds-room-end-2
array_share_prefix_room_2 c = search rules

slice_aggregate_put_line_2 : tie.Need-slice_bounds-put_line-end-2
slice_aggregate_put_line_2 c = search rules

put_line_requires_2 : tie.Need-put_line-requires-2
put_line_requires_2 c κs = search rules

same_length_2 : tie.Need-shape_of-out
same_length_2 c = search rules

returns_2 : tie.Need-returns
returns_2 c =
    let at_put_line2 = c.before.before in
    let at_if1 = at_put_line2.before.before.before in
    let at_match_planned = at_if1.before.before in
    let start = at_match_planned.before.before.before.before.before in
    let a = start.args in
    wrote_other a.template.now a.number a.xs.now at_match_planned.match_planned-answer.new.room at_match_planned.match_planned-answer.result (at_match_planned.match_planned-answer.ensures Family.Integers start.requires.0 refl) at_if1.if-answer-eq-DONE.false _ _ _ at_put_line2.put_line-2.ensures

pub put_answer_spec : {M : Type 1} → statement M
put_answer_spec =
    tie.close
    (tie.spec
    array_share_prefix_none
    slice_aggregate_match_planned
    slice_aggregate_match_planned_2
    match_planned_requires
    array_share_prefix_room
    slice_aggregate_put_line
    put_line_requires
    same_length
    returns
    array_share_prefix_room_2
    slice_aggregate_put_line_2
    put_line_requires_2
    same_length_2
    returns_2)
