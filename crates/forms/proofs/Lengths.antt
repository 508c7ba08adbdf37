-- How many bytes a form has, and how many at most. Assumes nothing.
use mathlib.Core.Path.{◌≡◌, refl, ap₂, ◌∙◌}
use mathlib.Core.Bool.{Bool, true, false}
use mathlib.Core.List.{List, [], ◌∷◌}
use Prim.Native.Nat.{ℕ, suc, ◌+◌, ◌*◌, ◌≤◌}
use native.Mathlib.Omega.{arith}
use lib.IntN.{ℤ}
use lib.ListN.{length, length-append}
use Rattle.ranges.specs.Spans.{Span, span, holds, gaps, cut_to}
use Rattle.integers.specs.Integer.{int_bytes, eq_z}
use Rattle.facts.proofs.Cases.{by-test}
use Rattle.forms.specs.Form.{record_of, records, matched_form, unmatched_form, side_form, form, record_length, records_length, matched_length, unmatched_length, side_length, form_length}

pub length_record_of : (r : Span) → length (record_of r) ≡ record_length r
unfolding record_of int_bytes
length_record_of (span a b) = by-test (eq_z a b) (λ e. rw e) (λ e. rw e)

pub length_records : (rs : List Span) → length (records rs) ≡ records_length rs
unfolding records records_length
length_records [] = refl
length_records (r ∷ rs) = length-append (record_of r) (records rs) ∙ ap₂ (λ (x y : ℕ). x + y) (length_record_of r) (length_records rs)

two_more : (a b : ℕ) → a ≡ b → suc (suc a) ≡ 2 + b
two_more a b e = omega arith

pub length_matched_form : (rs : List Span) → length (matched_form rs) ≡ matched_length rs
unfolding matched_form matched_length
length_matched_form [] = refl
length_matched_form (r ∷ []) = length_record_of r
length_matched_form (r ∷ q ∷ rs) = two_more (length (records (r ∷ q ∷ rs))) _ (length_records (r ∷ q ∷ rs))

pub length_unmatched_form : (rs : List Span) → length (unmatched_form rs) ≡ unmatched_length rs
unfolding unmatched_form unmatched_length
length_unmatched_form [] = refl
length_unmatched_form (r ∷ rs) = two_more (length (records (r ∷ rs))) _ (length_records (r ∷ rs))

pub length_side_form : (outside : Bool) (rs : List Span) → length (side_form outside rs) ≡ side_length outside rs
length_side_form true rs = length_unmatched_form rs
length_side_form false rs = length_matched_form rs

pub length_form : (lo hi : ℤ) (rs : List Span) → length (form lo hi rs) ≡ form_length lo hi rs
unfolding form form_length
length_form lo hi rs = by-test (holds rs lo) (λ e. rw e (length_unmatched_form (cut_to lo hi (gaps rs)))) (λ e. rw e (length_matched_form (cut_to lo hi rs)))

pub record_length_most : (r : Span) → record_length r ≤ 9
record_length_most (span a b) = by-test (eq_z a b) (λ e. rw e (omega arith)) (λ e. rw e (omega arith))

pub records_length_most : (rs : List Span) → records_length rs ≤ 9 * length rs
unfolding records_length
records_length_most [] = omega arith
records_length_most (r ∷ rs) = omega (arith, record_length_most r, records_length_most rs)

pub matched_length_most : (rs : List Span) → length rs ≤ 64 → matched_length rs ≤ 578
unfolding matched_length
matched_length_most [] p = omega arith
matched_length_most (r ∷ []) p = omega (arith, record_length_most r)
matched_length_most (r ∷ q ∷ rs) p = omega (arith, records_length_most (r ∷ q ∷ rs))

pub unmatched_length_most : (rs : List Span) → length rs ≤ 64 → unmatched_length rs ≤ 578
unfolding unmatched_length
unmatched_length_most [] p = omega arith
unmatched_length_most (r ∷ rs) p = omega (arith, records_length_most (r ∷ rs))
