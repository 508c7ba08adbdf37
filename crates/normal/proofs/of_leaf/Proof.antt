-- `normal::of_leaf` meets its contract: the set of a leaf is the one range between its bounds. Assumes nothing.
use mathlib.Core.Path.{◌≡◌, refl, ◌∙◌}
use mathlib.Core.List.{[], ◌∷◌}
use native.Mathlib.Omega.{arith}
use lib.IntN.{ℤ}
use borrow.Author.Rules.{rules}
use Rattle.integers.specs.Integer.{Word}
use Rattle.integers.proofs.SignedLocals.{again, again_same}
use Rattle.ranges.specs.Spans.{span, holds, Ascending}
use Rattle.grammar.specs.Leaf.{leaf_head}
use Rattle.grammar.specs.Read.{got}
use Rattle.grammar.specs.Reading.{read_element}
use Rattle.leaves.specs.Leaves.{LeafHere}
use Rattle.normal.specs.Contract.{weight, HereSet}
use Rattle.normal.proofs.Walks.{leaf_there, leaf_here_set}
use Rattle.normal.proofs.Answers.{accepted_plain, whole_here, whole_set, answer_form}
use Rattle.normal.proofs.of_leaf.Statement.{statement}
use Rattle.normal.proofs.of_leaf.Tie as tie

-- without a type the bytes are read the same
plain : (s : tie.Start) → read_element leaf_head s.args.template.now ≡ got s.requires.0.what []
plain s = accepted_plain _ _ _ s.requires.0

-- the bytes are a leaf
there : (s : tie.Start) → LeafHere s.args.template.now 0
there s = leaf_there _ 0 8 (whole_here _ _ (plain s)) s.requires.1

bounds_at_requires : tie.Need-bounds_at-l-requires
bounds_at_requires c κs = there c.before.before

-- its range
module _ (c : tie.After-bounds_at-l) where
  abbrev s : tie.Start
  s = c.before.before.before

  abbrev a : ℤ
  a = c.bounds_at-l.result.lower

  abbrev b : ℤ
  b = c.bounds_at-l.result.upper

  word_a : Word a
  word_a = search rules

  word_b : Word b
  word_b = search rules

  found : Ascending (span (again a) (again b) ∷ [])
      × HereSet s.args.template.now 0 8 (holds (span (again a) (again b) ∷ [])) (weight (span (again a) (again b) ∷ [])) c.bounds_at-l.result.next
  found = rw (again_same a word_a, again_same b word_b) (leaf_here_set _ 0 8 (span a b ∷ []) a b _ refl (there s) s.requires.1 c.bounds_at-l.ensures)

slice_aggregate_give_set : tie.Need-slice_bounds-give_set-end
slice_aggregate_give_set c = search rules

slice_aggregate_give_set_2 : tie.Need-slice_bounds-give_set-end-2
slice_aggregate_give_set_2 c = search rules

give_set_requires : tie.Need-give_set-requires
give_set_requires c κs = (omega arith, omega arith, omega arith, (found c.before.before.before.before.before).0)

same_length : tie.Need-shape_of-room
same_length c = search rules

returns : tie.Need-returns
returns c =
    let g = c.before.before.before.before in
    let l = g.before.before.before.before.before.before in
    let f = found l in
    let lo = (s l).args.lower in
    let hi = (s l).args.upper in
    rw (again_same lo (s l).ranges.lower.sfits, again_same hi (s l).ranges.upper.sfits) at g.give_set.ensures
    ∙ answer_form lo hi _ (s l).args.room.now (s l).requires.0 _ (whole_set _ _ (plain (s l)) _ _ _ f.0 f.1)

pub of_leaf_spec : {M : Type 1} → statement M
of_leaf_spec =
    tie.close
    (tie.spec
    bounds_at_requires
    slice_aggregate_give_set
    slice_aggregate_give_set_2
    give_set_requires
    same_length
    returns)
