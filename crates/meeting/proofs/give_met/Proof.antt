-- `meeting::give_met` meets its contract: the ranges of its side, cut to the type, are counted, and then written. Assumes nothing.
use mathlib.Core.Path.{◌≡◌, sym, ap, ◌∙◌, subst}
use mathlib.Core.List.{List}
use native.Mathlib.Omega.{arith}
use lib.ListN.{length}
use borrow.Author.Rules.{rules}
use Rattle.integers.proofs.SignedLocals.{again_same}
use Rattle.ranges.specs.Shown.{view}
use Rattle.ranges.specs.Spans.{Span, Proper, cut_to}
use Rattle.ranges.proofs.JoinsAndGaps.{proper_of}
use Rattle.mixing.specs.Mixing.{gaps_unless}
use Rattle.mixing.proofs.Turned.{ascending_unless}
use Rattle.meeting.proofs.Results.{written_over, written_form}
use Rattle.meeting.proofs.give_met.Statement.{statement}
use Rattle.meeting.proofs.give_met.Tie as tie

gaps_unless_requires : tie.Need-gaps_unless-g-requires
gaps_unless_requires c κs = search rules

-- the ranges that the result is written from, before they are cut
module _ (c : tie.After-gaps_unless-g) where
  abbrev start : tie.Start
  start = c.before.before.before.before

  abbrev side : List Span
  side = gaps_unless start.args.outside (view start.args.u start.args.lo.now start.args.hi.now)

  side_proper : Proper (view c.gaps_unless-g.result c.gaps_unless-g.new.lo c.gaps_unless-g.new.hi)
  side_proper = subst Proper (sym c.gaps_unless-g.ensures.ranges) (proper_of side (ascending_unless start.args.outside _ start.requires.3))

cut_requires : tie.Need-cut-c-requires
cut_requires c κs =
    let g = c.before.before.before.before in
    let b = g.gaps_unless-g.ensures in
    (omega (arith, b.fits.0, b.size_low), omega (arith, b.fits.1, b.size_high), side_proper g)

-- and after
module _ (c : tie.After-cut-c) where
  abbrev turned : tie.After-gaps_unless-g
  turned = c.before.before.before.before.before

  abbrev left : List Span
  left = view c.cut-c.result c.cut-c.new.lo c.cut-c.new.hi

  left_is : left ≡ cut_to (start turned).args.lower (start turned).args.upper (side turned)
  left_is =
      let s = start turned in
      rw (again_same s.args.lower s.ranges.lower.sfits, again_same s.args.upper s.ranges.upper.sfits) at c.cut-c.ensures.ranges
      ∙ ap (cut_to s.args.lower s.args.upper) turned.gaps_unless-g.ensures.ranges

  left_count : length left ≡ c.cut-c.result
  left_count = ap length c.cut-c.ensures.ranges ∙ sym c.cut-c.ensures.count

refused_requires : tie.Need-refused-requires
refused_requires c κs = search rules

same_length : tie.Need-shape_of-lo-then-c-gt-FORM_LEAVES_MOST
same_length c = search rules

same_length_2 : tie.Need-shape_of-hi-then-c-gt-FORM_LEAVES_MOST
same_length_2 c = search rules

returns : tie.Need-returns-then-c-gt-FORM_LEAVES_MOST
returns c =
    let k = c.before.before.before.before in
    let s = start (turned k) in
    rw (c.refused.ensures.0, c.refused.ensures.1)
    (written_over s.args.lower s.args.upper s.args.outside _ s.args.room.now (left k) (left_is k) (omega (arith, left_count k, c.if-c-gt-FORM_LEAVES_MOST.true)))

give_requires : tie.Need-give-requires
give_requires c κs = search rules

same_length_3 : tie.Need-shape_of-room
same_length_3 c = search rules

same_length_4 : tie.Need-shape_of-lo
same_length_4 c = search rules

same_length_5 : tie.Need-shape_of-hi
same_length_5 c = search rules

returns_2 : tie.Need-returns
returns_2 c =
    let g = c.before.before in
    let n = g.before.before in
    let k = n.before.before.before in
    let s = start (turned k) in
    g.give.ensures
    ∙ written_form s.args.lower s.args.upper s.args.outside _ s.args.room.now (left k) (left_is k) (omega (arith, left_count k, n.if-c-gt-FORM_LEAVES_MOST.false))

pub give_met_spec : {M : Type 1} → statement M
give_met_spec =
    tie.close
    (tie.spec
    gaps_unless_requires
    cut_requires
    refused_requires
    same_length
    same_length_2
    returns
    give_requires
    same_length_3
    same_length_4
    same_length_5
    returns_2)
