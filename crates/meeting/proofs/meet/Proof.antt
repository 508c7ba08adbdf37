-- `meeting::meet` meets its contract: what is not in both is found, and what is left is written. Assumes nothing.
use mathlib.Core.Path.{sym, ap, ◌∙◌, subst}
use mathlib.Core.Bool.{◌&&◌}
use mathlib.Core.List.{List}
use native.Mathlib.Omega.{arith}
use borrow.Author.Rules.{rules}
use Rattle.integers.proofs.SignedLocals.{again_same}
use Rattle.ranges.specs.Spans.{Span, Ascending}
use Rattle.mixing.proofs.Turned.{ascending_not_in_both}
use Rattle.meeting.specs.Contract.{written_from}
use Rattle.meeting.proofs.meet.Statement.{statement}
use Rattle.meeting.proofs.meet.Tie as tie

slice_aggregate_not_in_both : tie.Need-slice_bounds-not_in_both-end
slice_aggregate_not_in_both c = search rules

slice_aggregate_not_in_both_2 : tie.Need-slice_bounds-not_in_both-end-2
slice_aggregate_not_in_both_2 c = search rules

not_in_both_requires : tie.Need-not_in_both-u-requires
not_in_both_requires c κs =
    let s = c.before.before.before.before.before.before.before in
    (s.requires.0, s.requires.1, omega arith, omega arith)

abbrev start : tie.After-not_in_both-u → tie.Start
start c = c.before.before.before.before.before.before.before.before

slice_aggregate_give_met : tie.Need-slice_bounds-give_met-end
slice_aggregate_give_met c = search rules

slice_aggregate_give_met_2 : tie.Need-slice_bounds-give_met-end-2
slice_aggregate_give_met_2 c = search rules

give_met_requires : tie.Need-give_met-requires
give_met_requires c κs =
    let u = c.before.before.before.before.before.before.before.before.before.before.before in
    let s = start u in
    let b = u.not_in_both-u.ensures in (
      omega (arith, b.0, b.1.size_low),
      omega (arith, b.0, b.1.size_high),
      omega (arith, b.1.size_low),
      subst Ascending (sym b.1.ranges) (ascending_not_in_both s.args.first.outside _ s.args.second.outside _ s.requires.0.ascending s.requires.1.ascending),
    )

same_length : tie.Need-shape_of-room
same_length c = search rules

same_length_2 : tie.Need-shape_of-lo
same_length_2 c = search rules

same_length_3 : tie.Need-shape_of-hi
same_length_3 c = search rules

same_length_4 : tie.Need-shape_of-los
same_length_4 c = search rules

same_length_5 : tie.Need-shape_of-his
same_length_5 c = search rules

returns : tie.Need-returns
returns c =
    let g = c.before.before.before.before in
    let u = g.before.before.before.before.before.before.before.before.before.before.before.before in
    let s = start u in
    let lo = s.args.lower in
    let hi = s.args.upper in
    rw (again_same lo s.ranges.lower.sfits, again_same hi s.ranges.upper.sfits) at g.give_met.ensures
    ∙ ap (λ (us : List Span). written_from lo hi (s.args.first.outside && s.args.second.outside) us s.args.room.now) u.not_in_both-u.ensures.1.ranges

pub meet_spec : {M : Type 1} → statement M
meet_spec =
    tie.close
    (tie.spec
    slice_aggregate_not_in_both
    slice_aggregate_not_in_both_2
    not_in_both_requires
    slice_aggregate_give_met
    slice_aggregate_give_met_2
    give_met_requires
    same_length
    same_length_2
    same_length_3
    same_length_4
    same_length_5
    returns)
