-- `normal::of_group` meets its contract: what the walk gathers, swept, is the set of the element template. Assumes nothing.
use mathlib.Core.Path.{◌≡◌, refl, sym, ap, ◌∙◌, subst}
use mathlib.Core.List.{List, []}
use Prim.Native.Nat.{◌≤◌}
use native.Mathlib.Omega.{arith}
use lib.IntN.{ℤ}
use lib.ListN.{length}
use borrow.Author.Rules.{rules}
use Rattle.grammar.specs.Leaf.{leaf_head}
use Rattle.grammar.specs.Read.{got}
use Rattle.grammar.specs.Reading.{read_element}
use Rattle.integers.proofs.SignedLocals.{again_same}
use Rattle.ranges.specs.Shown.{view}
use Rattle.ranges.specs.Spans.{Span, Ascending, Proper, join_all}
use Rattle.ranges.proofs.JoinsAndGaps.{ascending_joined}
use Rattle.elements.specs.Contract.{count_in}
use Rattle.normal.proofs.Answers.{accepted_plain, whole_from, whole_few, whole_joined, answer_form}
use Rattle.normal.proofs.of_group.Statement.{statement}
use Rattle.normal.proofs.of_group.Tie as tie

slice_aggregate_set_of : tie.Need-slice_bounds-set_of-end
slice_aggregate_set_of c = search rules

slice_aggregate_set_of_2 : tie.Need-slice_bounds-set_of-end-2
slice_aggregate_set_of_2 c = search rules

-- without a type the bytes are read the same
plain : (s : tie.Start) → read_element leaf_head s.args.template.now ≡ got s.requires.0.what []
plain s = accepted_plain _ _ _ s.requires.0

set_of_requires : tie.Need-set_of-r-requires
set_of_requires c κs =
    let s = c.before.before.before.before in
    whole_from _ _ (plain s) _ _ refl refl s.requires.1

slice_aggregate_swept : tie.Need-slice_bounds-swept-end
slice_aggregate_swept c = search rules

slice_aggregate_swept_2 : tie.Need-slice_bounds-swept-end-2
slice_aggregate_swept_2 c = search rules

-- what the walk gathered
module _ (c : tie.After-set_of-r) where
  abbrev s : tie.Start
  s = c.before.before.before.before.before

  abbrev los : List ℤ
  los = c.set_of-r.new.lo

  abbrev his : List ℤ
  his = c.set_of-r.new.hi

  long_low : length los ≡ 130
  long_low = c.set_of-r.ensures.more.size_low

  long_high : length his ≡ 130
  long_high = c.set_of-r.ensures.more.size_high

  few : count_in c.set_of-r.result ≤ 128
  few = whole_few _ _ (plain s) _ _ _ _ _ c.set_of-r.ensures

  gathered : Proper (view (count_in c.set_of-r.result) los his)
  gathered = subst Proper (sym c.set_of-r.ensures.more.ranges) c.set_of-r.ensures.proper

swept_requires : tie.Need-swept-n-requires
swept_requires c κs =
    let w = c.before.before.before.before in
    (omega (arith, few w, long_low w), omega (arith, few w, long_high w), gathered w)

slice_aggregate_give_set : tie.Need-slice_bounds-give_set-end
slice_aggregate_give_set c = search rules

slice_aggregate_give_set_2 : tie.Need-slice_bounds-give_set-end-2
slice_aggregate_give_set_2 c = search rules

give_set_requires : tie.Need-give_set-requires
give_set_requires c κs =
    let j = c.before.before.before.before.before in
    let w = j.before.before.before.before.before in
    let b = j.swept-n.ensures in (
      omega (arith, b.0, few w, b.1.size_low, long_low w),
      omega (arith, b.0, few w, b.1.size_high, long_high w),
      omega (arith, b.1.size_low, long_low w),
      subst Ascending (sym b.1.ranges) (ascending_joined _ [] (gathered w) tt),
    )

same_length : tie.Need-shape_of-room
same_length c = search rules

returns : tie.Need-returns
returns c =
    let g = c.before.before.before.before in
    let j = g.before.before.before.before.before.before in
    let w = j.before.before.before.before.before in
    let lo = (s w).args.lower in
    let hi = (s w).args.upper in
    rw (again_same lo (s w).ranges.lower.sfits, again_same hi (s w).ranges.upper.sfits) at g.give_set.ensures
    ∙ answer_form lo hi _ (s w).args.room.now (s w).requires.0 _
    (j.swept-n.ensures.1.ranges ∙ ap (λ (rs : List Span). join_all rs []) w.set_of-r.ensures.more.ranges ∙ whole_joined _ _ (plain (s w)) _ _ _ _ _ w.set_of-r.ensures)

pub of_group_spec : {M : Type 1} → statement M
of_group_spec =
    tie.close
    (tie.spec
    slice_aggregate_set_of
    slice_aggregate_set_of_2
    set_of_requires
    slice_aggregate_swept
    slice_aggregate_swept_2
    swept_requires
    slice_aggregate_give_set
    slice_aggregate_give_set_2
    give_set_requires
    same_length
    returns)
