-- The bytes of a normal form (docs/RULES.md, "The normal form").
-- record_of r       == the record of a range: 01 for one integer, 02 for any other
-- records rs       == the records of rs, one after the other
-- matched_form rs   == the form of a set that does not hold the lower bound of the type, from the maximal ranges of the integers matched
-- unmatched_form rs == the form of a set that holds the lower bound of the type, from the maximal ranges of the integers not matched
-- side_form outside rs == the one or the other: from the integers not matched, or from those matched
-- form lo hi rs    == the form of what the set whose maximal ranges are rs holds of the type from lo to hi
-- normal_form lo hi e == the normal form of the element template e, whose elements are of the type from lo to hi
-- side_ranges lo hi rs == the ranges that this form is written from: those not matched where it holds the lower bound, else those matched
-- form_leaves lo hi rs == how many leaves it has: one for each of these, and one for everything and for nothing
-- record_length r, records_length rs, matched_length rs, unmatched_length rs, side_length outside rs, form_length lo hi rs ==
--                     how many bytes each has
-- Assumes nothing: these are definitions.
use Rattle.std.specs.Prelude.{ℕ, ◌+◌, max, List, [], ◌∷◌, ◌++◌, Bool, true, false, cond, ℤ, length}
use Rattle.integers.specs.Integer.{int_bytes, eq_z}
use Rattle.grammar.specs.Element.{Elem}
use Rattle.grammar.specs.Leaf.{Leaf}
use Rattle.ranges.specs.Spans.{Span, span, holds, gaps, cut_to}
use Rattle.forms.specs.Matched.{ranges_of}

-- "A range of one integer is written as 01, any other as 02."
unfoldable pub record_of : Span → List ℕ
record_of (span a b) = cond (eq_z a b) (0x01 ∷ int_bytes a) (0x02 ∷ (int_bytes a ++ int_bytes b))

unfoldable pub records : List Span → List ℕ
records [] = []
records (r ∷ rs) = record_of r ++ records rs

-- "Nothing matched: 05 01 03." "the maximal ranges, ascending; one stands alone, two or more follow a 04"
unfoldable pub matched_form : List Span → List ℕ
matched_form [] = 0x05 ∷ 0x01 ∷ 0x03 ∷ []
matched_form (r ∷ []) = record_of r
matched_form (r ∷ q ∷ rs) = 0x04 ∷ length (r ∷ q ∷ rs) ∷ records (r ∷ q ∷ rs)

-- "Everything matched: 03." "05 and the maximal ranges of the integers not matched, ascending, n being 1 or more"
unfoldable pub unmatched_form : List Span → List ℕ
unmatched_form [] = 0x03 ∷ []
unmatched_form (r ∷ rs) = 0x05 ∷ length (r ∷ rs) ∷ records (r ∷ rs)

abbrev pub side_form : Bool → List Span → List ℕ
side_form true rs = unmatched_form rs
side_form false rs = matched_form rs

-- "its least integer is then the lower bound and everything means the whole type"
unfoldable pub form : ℤ → ℤ → List Span → List ℕ
form lo hi rs = cond (holds rs lo) (unmatched_form (cut_to lo hi (gaps rs))) (matched_form (cut_to lo hi rs))

unfoldable pub normal_form : ℤ → ℤ → Elem Leaf → List ℕ
normal_form lo hi e = form lo hi (ranges_of e)

unfoldable pub side_ranges : ℤ → ℤ → List Span → List Span
side_ranges lo hi rs = cond (holds rs lo) (cut_to lo hi (gaps rs)) (cut_to lo hi rs)

unfoldable pub form_leaves : ℤ → ℤ → List Span → ℕ
form_leaves lo hi rs = max 1 (length (side_ranges lo hi rs))

-- "The length is 1 for everything, 3 for nothing, otherwise 5 for each single plus 9 for each wider range, and 2 for a 04 or 05."
abbrev pub record_length : Span → ℕ
record_length (span a b) = cond (eq_z a b) 5 9

unfoldable pub records_length : List Span → ℕ
records_length [] = 0
records_length (r ∷ rs) = record_length r + records_length rs

unfoldable pub matched_length : List Span → ℕ
matched_length [] = 3
matched_length (r ∷ []) = record_length r
matched_length (r ∷ q ∷ rs) = 2 + records_length (r ∷ q ∷ rs)

unfoldable pub unmatched_length : List Span → ℕ
unmatched_length [] = 1
unmatched_length (r ∷ rs) = 2 + records_length (r ∷ rs)

abbrev pub side_length : Bool → List Span → ℕ
side_length true rs = unmatched_length rs
side_length false rs = matched_length rs

unfoldable pub form_length : ℤ → ℤ → List Span → ℕ
form_length lo hi rs = cond (holds rs lo) (unmatched_length (cut_to lo hi (gaps rs))) (matched_length (cut_to lo hi rs))
