-- `answers::give_set` meets its contract: the side that the form is written from is the one that the definition takes, cut to the type. Assumes nothing.
use mathlib.Core.Path.{◌≡◌, sym, ap, ◌∙◌, subst}
use mathlib.Core.List.{List}
use Prim.Native.Nat.{ℕ}
use native.Mathlib.Omega.{arith}
use borrow.Author.Rules.{rules}
use Rattle.integers.proofs.SignedLocals.{again, again_same}
use Rattle.ranges.specs.Shown.{view}
use Rattle.ranges.specs.Spans.{Span, Proper, gaps}
use Rattle.ranges.proofs.JoinsAndGaps.{proper_of, ascending_gaps}
use Rattle.forms.specs.Answer.{placed}
use Rattle.answers.proofs.Sides.{form_matched, form_unmatched}
use Rattle.answers.proofs.give_set.Statement.{statement}
use Rattle.answers.proofs.give_set.Tie as tie

-- the bounds, as they are handed on
low_same : (s : tie.Start) → again s.args.lower ≡ s.args.lower
low_same s = again_same s.args.lower s.ranges.lower.sfits

high_same : (s : tie.Start) → again s.args.upper ≡ s.args.upper
high_same s = again_same s.args.upper s.ranges.upper.sfits

holds_requires : tie.Need-holds-requires
holds_requires c κs = search rules

gaps_requires : tie.Need-gaps-g-requires
gaps_requires c κs = search rules

-- where the lower bound is matched: the gaps
module _ (c : tie.After-gaps-g) where
  abbrev then_start : tie.Start
  then_start = c.before.before.before.before.before.before

  abbrev whole : List Span
  whole = view then_start.args.n then_start.args.lo.now then_start.args.hi.now

  gaps_proper : Proper (view c.gaps-g.result c.gaps-g.new.lo c.gaps-g.new.hi)
  gaps_proper = subst Proper (sym c.gaps-g.ensures.ranges) (proper_of (gaps whole) (ascending_gaps whole then_start.requires.3))

cut_requires : tie.Need-cut-c-requires
cut_requires c κs =
    let o = c.before.before.before.before in
    let b = o.gaps-g.ensures in
    (omega (arith, b.fits.0, b.size_low), omega (arith, b.fits.1, b.size_high), gaps_proper o)

give_requires : tie.Need-give-requires
give_requires c κs =
    let k = c.before.before.before in
    let o = k.before.before.before.before.before in
    let b = k.cut-c.ensures in
    (omega (arith, b.fits.0, o.gaps-g.ensures.size_low, (then_start o).requires.2), omega (arith, b.fits.0, b.size_low), omega (arith, b.fits.1, b.size_high))

same_length : tie.Need-shape_of-room-then-holds
same_length c = search rules

same_length_2 : tie.Need-shape_of-lo-then-holds
same_length_2 c = search rules

same_length_3 : tie.Need-shape_of-hi-then-holds
same_length_3 c = search rules

returns : tie.Need-returns-then-holds
returns c =
    let g = c.before.before in
    let k = g.before.before.before.before in
    let o = k.before.before.before.before.before in
    let s = then_start o in
    let h = o.before.before.before in
    let matched = rw (low_same s) at h.holds.ensures in
    let cut_so = rw (low_same s, high_same s) at k.cut-c.ensures.ranges in
    g.give.ensures
    ∙ ap (λ (f : List ℕ). placed f s.args.room.now) (form_unmatched s.args.lower s.args.upper _ _ _ o.gaps-g.ensures.ranges cut_so (sym matched ∙ h.if-holds.true))

-- where it is not: the ranges themselves
module _ (c : tie.After-cut-c-2) where
  abbrev else_start : tie.Start
  else_start = c.before.before.before.before.before.before

cut_requires_2 : tie.Need-cut-c-requires-2
cut_requires_2 c κs =
    let s = c.before.before.before.before.before in
    (omega (arith, s.requires.0), omega (arith, s.requires.1), proper_of (view s.args.n s.args.lo.now s.args.hi.now) s.requires.3)

give_requires_2 : tie.Need-give-requires-2
give_requires_2 c κs =
    let k = c.before.before.before in
    let b = k.cut-c-2.ensures in
    (omega (arith, b.fits.0, (else_start k).requires.2), omega (arith, b.fits.0, b.size_low), omega (arith, b.fits.1, b.size_high))

same_length_4 : tie.Need-shape_of-room
same_length_4 c = search rules

same_length_5 : tie.Need-shape_of-lo
same_length_5 c = search rules

same_length_6 : tie.Need-shape_of-hi
same_length_6 c = search rules

returns_2 : tie.Need-returns
returns_2 c =
    let g = c.before.before in
    let k = g.before.before.before.before in
    let s = else_start k in
    let h = k.before.before.before in
    let matched = rw (low_same s) at h.holds.ensures in
    let cut_so = rw (low_same s, high_same s) at k.cut-c-2.ensures.ranges in
    g.give-2.ensures
    ∙ ap (λ (f : List ℕ). placed f s.args.room.now) (form_matched s.args.lower s.args.upper _ _ cut_so (sym matched ∙ h.if-holds.false))

pub give_set_spec : {M : Type 1} → statement M
give_set_spec =
    tie.close
    (tie.spec
    holds_requires
    gaps_requires
    cut_requires
    give_requires
    same_length
    same_length_2
    same_length_3
    returns
    cut_requires_2
    give_requires_2
    same_length_4
    same_length_5
    same_length_6
    returns_2)
