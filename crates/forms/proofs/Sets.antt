-- The ranges of an element template hold exactly the integers that it matches, are ascending, and have at most two edges for each leaf:
-- a leaf has two, joining adds none, a complement has those of what it leaves out. Assumes nothing.
use mathlib.Core.Path.{◌≡◌, refl, sym, ap, ap₂, ◌∙◌}
use mathlib.Core.Bool.{Bool, false, not, ◌&&◌, ◌||◌, or-false}
use mathlib.Core.List.{List, [], ◌∷◌}
use Prim.Native.Nat.{ℕ, ◌+◌, ◌-◌, ◌*◌, ◌≤◌, min}
use native.Mathlib.Omega.{arith}
use lib.IntN.{ℤ}
use lib.Signed.{le_z, ◌≤ℤ◌}
use lib.ListN.{length}
use Rattle.ranges.specs.Spans.{Span, span, holds, Ascending, join_all, gaps, edges, cut_to}
use Rattle.ranges.proofs.JoinsAndGaps.{of_rank, ascending_joined, holds_joined, edges_joined, proper_of, holds_gaps, ascending_gaps, edges_gaps}
use Rattle.ranges.proofs.Cuts.{length_cut_edges}
use Rattle.grammar.specs.Element.{Elem, leaf, one_of, none_of, Elems, none, more, leaves, leaves_all}
use Rattle.grammar.specs.Leaf.{Leaf, single, range, any, lower_of, upper_of}
use Rattle.grammar.specs.Matches.{matches_by, leaf_matches, matches, any_matches}
use Rattle.grammar.proofs.LeafBounds.{leaf_between}
use Rattle.integers.specs.Integer.{Word, least, greatest}
use Rattle.integers.specs.Rank.{rank}
use Rattle.integers.proofs.Ranks.{low, rank_word}
use Rattle.forms.specs.Matched.{leaf_ranges, ranges_of, ranges_of_all}
use Rattle.forms.proofs.Accepts.{GoodLeaf, Good, GoodAll}

pub record SetOf (rs : List Span) (f : ℤ → Bool) (c : ℕ) : Type 0 where
  pub ascending : Ascending rs
  pub right : (x : ℤ) → Word x → holds rs x ≡ f x
  pub few : edges rs ≤ c

-- ---- leaves

two_edges : (a b : ℕ) → min a 1 + (min (4294967295 - b) 1 + 0) ≤ 2
two_edges a b = omega arith

ascending_one : (a b : ℤ) → Word a → Word b → a ≤ℤ b → Ascending (span a b ∷ [])
ascending_one a b p q o =
    (of_rank least a (omega arith) (low a p) (omega arith), o, of_rank b greatest (low b q) tt (omega (arith, rank_word b q)), tt)

≤ℤ-same : (a : ℤ) → Word a → a ≤ℤ a
≤ℤ-same a p = of_rank a a (low a p) (low a p) (omega arith)

pub leaf_set : (l : Leaf) → GoodLeaf l → SetOf (leaf_ranges l) (leaf_matches l) 2
unfolding lower_of upper_of
leaf_set (single z) g = record {
  ascending = ascending_one z z g g (≤ℤ-same z g);
  right = λ x w. or-false (le_z z x && le_z x z) ∙ sym (leaf_between (single z) x w);
  few = two_edges (rank z) (rank z);
}
leaf_set (range a b) g = record {
  ascending = ascending_one a b g.0 g.1 g.2;
  right = λ x w. or-false (le_z a x && le_z x b) ∙ sym (leaf_between (range a b) x w);
  few = two_edges (rank a) (rank b);
}
leaf_set any g = record {
  ascending = ascending_one least greatest (omega arith) (omega arith) (of_rank least greatest (omega arith) tt (omega arith));
  right = λ x w. or-false (le_z least x && le_z x greatest) ∙ sym (leaf_between any x w);
  few = two_edges 0 4294967295;
}

-- ---- joining and gaps

pub empty_set : SetOf [] (λ x. false) 0
empty_set = record { ascending = tt; right = λ x w. refl; few = omega arith }

pub join_set : (rs ss : List Span) (f g : ℤ → Bool) (c d : ℕ) → SetOf rs f c → SetOf ss g d → SetOf (join_all rs ss) (λ x. f x || g x) (c + d)
join_set rs ss f g c d p q = record {
  ascending = ascending_joined rs ss (proper_of rs p.ascending) q.ascending;
  right = λ x w. holds_joined rs ss x (proper_of rs p.ascending) q.ascending w ∙ ap₂ (λ (a b : Bool). a || b) (p.right x w) (q.right x w);
  few = omega (arith, edges_joined rs ss (proper_of rs p.ascending) q.ascending, p.few, q.few);
}

pub gaps_set : (rs : List Span) (f : ℤ → Bool) (c : ℕ) → SetOf rs f c → SetOf (gaps rs) (λ x. not (f x)) c
gaps_set rs f c p = record {
  ascending = ascending_gaps rs p.ascending;
  right = λ x w. holds_gaps rs p.ascending x w ∙ ap not (p.right x w);
  few = omega (arith, edges_gaps rs p.ascending, p.few);
}

-- ---- element templates

mutual
  unfolding ranges_of matches_by Good leaves

  pub elem_set : (e : Elem Leaf) → Good e → SetOf (ranges_of e) (matches e) (2 * leaves e)
  elem_set (leaf l) g = leaf_set l g
  elem_set (one_of es) g = all_set es g
  elem_set (none_of es) g = gaps_set (ranges_of_all es) (any_matches es) (2 * leaves_all es) (all_set es g)

  pub all_set : (es : Elems Leaf) → GoodAll es → SetOf (ranges_of_all es) (any_matches es) (2 * leaves_all es)
  all_set none g = empty_set
  all_set (more e es) g =
      let s = join_set (ranges_of e) (ranges_of_all es) (matches e) (any_matches es) (2 * leaves e) (2 * leaves_all es) (elem_set e g.0) (all_set es g.1) in
      record { ascending = s.ascending; right = s.right; few = omega (arith, s.few) }

-- ---- cut to a type: it is not long

module _ (lo hi : ℤ) (p : Word lo) (q : Word hi) where
  -- where the lower bound is not held
  pub cut_length : (rs : List Span) (f : ℤ → Bool) (c : ℕ) → SetOf rs f (2 * c) → holds rs lo ≡ false → length (cut_to lo hi rs) ≤ c
  cut_length rs f c s e = omega (arith, length_cut_edges lo hi p q rs s.ascending e, s.few)
