-- `normal::walk::left_out` meets its contract: the gaps of what the sweep joined. Assumes nothing.
use mathlib.Core.Path.{sym, ap, ◌∙◌, subst}
use mathlib.Core.List.{[]}
use native.Mathlib.Omega.{arith}
use borrow.Author.Rules.{rules}
use Rattle.ranges.specs.Spans.{Ascending, gaps}
use Rattle.ranges.proofs.JoinsAndGaps.{ascending_joined}
use Rattle.ranges.proofs.Views.{became}
use Rattle.normal.proofs.walk.left_out.Statement.{statement}
use Rattle.normal.proofs.walk.left_out.Tie as tie

swept_requires : tie.Need-swept-m-requires
swept_requires c κs = search rules

gaps_requires : tie.Need-gaps-requires
gaps_requires c κs =
    let w = c.before.before.before.before in
    let s = w.before.before.before in
    let b = w.swept-m.ensures in (
      omega (arith, b.0, b.1.size_low, s.requires.0),
      omega (arith, b.0, b.1.size_high, s.requires.1),
      subst Ascending (sym b.1.ranges) (ascending_joined _ [] s.requires.2 tt),
    )

same_length : tie.Need-shape_of-lo
same_length c = search rules

same_length_2 : tie.Need-shape_of-hi
same_length_2 c = search rules

returns : tie.Need-returns
returns c =
    let g = c.before.before.gaps.ensures in
    let b = c.before.before.before.before.before.before.before.swept-m.ensures.1 in
    became _ _ _ _ _ _ (g.size_low ∙ b.size_low) (g.size_high ∙ b.size_high) (omega (arith, g.fits.0, b.size_low)) (omega (arith, g.fits.1, b.size_high))
    (g.ranges ∙ ap gaps b.ranges)

pub left_out_spec : {M : Type 1} → statement M
left_out_spec = tie.close (tie.spec swept_requires gaps_requires same_length same_length_2 returns)
