-- Ascending ranges that hold the same integers of a type have the same form there: the same side, and the same ranges to be written from. Assumes nothing.
use mathlib.Core.Path.{◌≡◌, sym, ap, ◌∙◌}
use mathlib.Core.Bool.{not}
use mathlib.Core.List.{List}
use native.Mathlib.Omega.{arith}
use lib.IntN.{ℤ}
use lib.Signed.{◌≤ℤ◌}
use Rattle.integers.specs.Integer.{Word}
use Rattle.integers.proofs.Ranks.{low}
use Rattle.ranges.specs.Spans.{Span, holds, Ascending, gaps, cut_to}
use Rattle.ranges.proofs.JoinsAndGaps.{of_rank, holds_gaps, ascending_gaps}
use Rattle.ranges.proofs.Cuts.{word_between, unique_cut}
use Rattle.forms.specs.Form.{form, side_ranges}

module _ (lo hi : ℤ) (p : Word lo) (q : Word hi) (o : lo ≤ℤ hi) where
  pub lower_in_type : lo ≤ℤ lo
  lower_in_type = of_rank lo lo (low lo p) (low lo p) (omega arith)

  module _ (rs ss : List Span) (f : Ascending rs) (g : Ascending ss) (same : (x : ℤ) → lo ≤ℤ x → x ≤ℤ hi → holds rs x ≡ holds ss x) where
    same_side : holds rs lo ≡ holds ss lo
    same_side = same lo lower_in_type o

    same_matched : cut_to lo hi rs ≡ cut_to lo hi ss
    same_matched = unique_cut lo hi p q rs ss o f g same

    same_unmatched : cut_to lo hi (gaps rs) ≡ cut_to lo hi (gaps ss)
    same_unmatched =
        unique_cut lo hi p q (gaps rs) (gaps ss) o (ascending_gaps rs f) (ascending_gaps ss g)
        (λ x a b. let w = word_between lo hi x p q a b in holds_gaps rs f x w ∙ ap not (same x a b) ∙ sym (holds_gaps ss g x w))

    pub same_sides : side_ranges lo hi rs ≡ side_ranges lo hi ss
    unfolding side_ranges
    same_sides = rw (same_side, same_matched, same_unmatched)

    pub same_forms : form lo hi rs ≡ form lo hi ss
    unfolding form
    same_forms = rw (same_side, same_matched, same_unmatched)
