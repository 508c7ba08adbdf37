-- The maximal ranges of what an element template matches (docs/RULES.md, "The normal form": "the runs of neighbouring integers that
-- are matched, as long as they can be made").
-- leaf_ranges l   == those of the leaf l, among all 32-bit integers
-- ranges_of e     == those of the element template e
-- ranges_of_all es == those of what at least one of es matches
-- ranges_in lo hi e == those of the integers of the type from lo to hi that e matches
-- That they are the maximal ranges of what `matches` says is a part of demand 3 (`MaximalRanges` of crate `demands`).
-- Assumes nothing: these are definitions.
use Rattle.std.specs.Prelude.{List, [], ◌∷◌, ℤ}
use Rattle.grammar.specs.Element.{Elem, leaf, one_of, none_of, Elems, none, more}
use Rattle.grammar.specs.Leaf.{Leaf, single, range, any}
use Rattle.integers.specs.Integer.{least, greatest}
use Rattle.ranges.specs.Spans.{Span, span, join_all, gaps, cut_to}

abbrev pub leaf_ranges : Leaf → List Span
leaf_ranges (single z) = span z z ∷ []
leaf_ranges (range lower upper) = span lower upper ∷ []
leaf_ranges any = span least greatest ∷ []

unfoldable mutual
  pub ranges_of : Elem Leaf → List Span
  ranges_of (leaf l) = leaf_ranges l
  ranges_of (one_of es) = ranges_of_all es
  ranges_of (none_of es) = gaps (ranges_of_all es)

  pub ranges_of_all : Elems Leaf → List Span
  ranges_of_all none = []
  ranges_of_all (more e es) = join_all (ranges_of e) (ranges_of_all es)

unfoldable pub ranges_in : ℤ → ℤ → Elem Leaf → List Span
ranges_in lo hi e = cut_to lo hi (ranges_of e)
