-- The side that a form is written from: what its bytes read as, how many leaves and bytes it has, and that it matches what the ranges hold of the type.
-- Assumes nothing.
-- side_elem outside rs == the element template that the form written from rs reads as
-- Side lo hi outside rs f c <-> the form that is written from rs matches what f says of the type from lo to hi; rs ascend, lie in the type, do not hold its lower
--                       bound, and are c at most
use mathlib.Core.Path.{◌≡◌, ap, ◌∙◌}
use mathlib.Core.Bool.{Bool, true, false, not, not-not}
use mathlib.Core.List.{List}
use Prim.Native.Nat.{ℕ, ◌*◌, ◌≤◌, max}
use native.Mathlib.Omega.{arith}
use lib.IntN.{ℤ}
use lib.Signed.{◌≤ℤ◌}
use lib.ListN.{length}
use Rattle.facts.proofs.Cases.{by-test}
use Rattle.integers.specs.Integer.{Word}
use Rattle.grammar.specs.Element.{Elem, leaves}
use Rattle.grammar.specs.Leaf.{Leaf}
use Rattle.grammar.specs.Matches.{matches}
use Rattle.grammar.proofs.TypedReading.{Inside}
use Rattle.ranges.specs.Spans.{Span, holds, Ascending, Proper, gaps, cut_to}
use Rattle.ranges.proofs.JoinsAndGaps.{proper_of, words_of, holds_gaps}
use Rattle.ranges.proofs.Cuts.{Among, word_between, holds_in_type, ascending_cut, among_cut}
use Rattle.forms.specs.Form.{side_form, form, side_ranges}
use Rattle.forms.proofs.Lengths.{length_side_form, matched_length_most, unmatched_length_most}
use Rattle.forms.proofs.Readings.{matched_elem, unmatched_elem, matched_matches, unmatched_matches, matched_inside, unmatched_inside, matched_leaves, unmatched_leaves, ReadsAs, matched_reads, unmatched_reads}
use Rattle.forms.proofs.SameForms.{lower_in_type}
use Rattle.forms.proofs.Sets.{SetOf, gaps_set, cut_length}

pub form_side : (lo hi : ℤ) (rs : List Span) → form lo hi rs ≡ side_form (holds rs lo) (side_ranges lo hi rs)
unfolding form side_ranges
form_side lo hi rs = by-test (holds rs lo) (λ e. rw e) (λ e. rw e)

-- ---- what a form reads as

abbrev pub side_elem : Bool → List Span → Elem Leaf
side_elem true rs = unmatched_elem rs
side_elem false rs = matched_elem rs

pub side_reads : (o : Bool) (rs : List Span) → length rs ≤ 64 → Proper rs → ReadsAs (side_form o rs) (side_elem o rs)
side_reads true rs = unmatched_reads rs
side_reads false rs = matched_reads rs

pub side_inside : (lo hi : ℤ) (o : Bool) (rs : List Span) → Proper rs → Among lo hi rs → Inside lo hi (side_elem o rs)
side_inside lo hi true rs = unmatched_inside lo hi rs
side_inside lo hi false rs = matched_inside lo hi rs

pub side_leaves : (o : Bool) (rs : List Span) → leaves (side_elem o rs) ≡ max 1 (length rs)
side_leaves true rs = unmatched_leaves rs
side_leaves false rs = matched_leaves rs

pub side_most : (o : Bool) (rs : List Span) → length rs ≤ 64 → length (side_form o rs) ≤ 578
side_most true rs h = omega (arith, length_side_form true rs, unmatched_length_most rs h)
side_most false rs h = omega (arith, length_side_form false rs, matched_length_most rs h)

-- ---- the ranges that it is written from

pub record Side (lo hi : ℤ) (outside : Bool) (rs : List Span) (f : ℤ → Bool) (c : ℕ) : Type 0 where
  pub ascending : Ascending rs
  pub among : Among lo hi rs
  pub lower : holds rs lo ≡ false
  pub few : length rs ≤ c
  pub same : (x : ℤ) → lo ≤ℤ x → x ≤ℤ hi → matches (side_elem outside rs) x ≡ f x

-- that of ranges that hold what f says, and have two edges at most for each of c
module _ (lo hi : ℤ) (p : Word lo) (q : Word hi) (o : lo ≤ℤ hi) (rs : List Span) (f : ℤ → Bool) (c : ℕ) (s : SetOf rs f (2 * c)) where
  pub side : Side lo hi (holds rs lo) (side_ranges lo hi rs) f c
  unfolding side_ranges
  side =
      by-test (holds rs lo)
      (λ h.
      let t = gaps_set rs f (2 * c) s in
      let all = gaps rs in
      let w = words_of all t.ascending in
      let out : holds all lo ≡ false = holds_gaps rs s.ascending lo p ∙ ap not h in
      let up = ascending_cut lo hi p q all o t.ascending in
      rw h (record {
        ascending = up;
        among = among_cut lo hi p q all w;
        lower = holds_in_type lo hi p q all lo w (lower_in_type lo hi p q o) o ∙ out;
        few = cut_length lo hi p q all (λ x. not (f x)) c t out;
        same = λ x a b.
            let v = word_between lo hi x p q a b in
            unmatched_matches (cut_to lo hi all) x (proper_of (cut_to lo hi all) up) v ∙ ap not (holds_in_type lo hi p q all x w a b ∙ t.right x v) ∙ not-not (f x);
      }))
      (λ h.
      let w = words_of rs s.ascending in
      let up = ascending_cut lo hi p q rs o s.ascending in
      rw h (record {
        ascending = up;
        among = among_cut lo hi p q rs w;
        lower = holds_in_type lo hi p q rs lo w (lower_in_type lo hi p q o) o ∙ h;
        few = cut_length lo hi p q rs f c s h;
        same = λ x a b.
            let v = word_between lo hi x p q a b in
            matched_matches (cut_to lo hi rs) x (proper_of (cut_to lo hi rs) up) v ∙ holds_in_type lo hi p q rs x w a b ∙ s.right x v;
      }))
