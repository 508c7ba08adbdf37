-- What `why_not` gives (document 02, "Say why not"): the matcher's number, and the group that is the reason.
-- pairs f es xs m e   == member m of es matches element e of xs
-- Asked             == of what a group is given where the list does not match: of nothing, or of k members and n elements, `ok v e` saying that member v
--                      matches element e
-- asked_by f h b xs    == what is asked of a list that meets the length attribute: of a superset the members; of a "subset under sheet 2" the same "with
--                      elements and members exchanged"; "in every other case" nothing
-- asked_of f s xs      == what is asked of the template s and the list xs: of one that does not meet "any length attribute" nothing
-- GroupOf q r g    <-> with the matcher's number r, g is the mask of the group that is given, 0 where none is
-- GroupRead f o xs r g <-> the same for a template that was read as o
-- number_of a        == the number of an answer of the matcher
-- WhyOf f t xs r g   <-> r is "the matcher's number" for the template bytes t and the list xs, with any room that is long enough, and g the mask of the group
-- Assumes nothing: these are definitions.
use Rattle.std.specs.Prelude.{◌≡◌, Bool, ◌&&◌, cond, List, ℕ, ◌≤◌, ltb, length, get_or}
use Rattle.masks.specs.Masks.{bit}
use Rattle.grammar.specs.Element.{Elem}
use Rattle.format.specs.declared.Family.{Family}
use Rattle.grammar.specs.Family.{LeafOf, ElementOf, no_element, matches_of}
use Rattle.grammar.specs.Template.{Body, record_of, set_of, superset, subset, is_plain, Heads, Template, template}
use Rattle.grammar.specs.Read.{Read, refuse, got}
use Rattle.grammar.specs.Whole.{read_template}
use Rattle.grammar.specs.Members.{member_hits}
use Rattle.matching.specs.Obeys.{length_met}
use Rattle.matching.specs.Answer.{Given, given, match_answer}
use Rattle.reasons.specs.Reason.{ShortGroup, Reason}

unfoldable pub pairs : (f : Family) → List (Elem (LeafOf f)) → List (ElementOf f) → ℕ → ℕ → Bool
pairs f es xs m e = ltb e (length xs) && member_hits (matches_of f) es m (get_or xs e (no_element f))

pub data Asked : Type 0 where
  of_nothing : Asked
  of_groups : (ℕ → ℕ → Bool) → ℕ → ℕ → Asked

unfoldable pub asked_by : (f : Family) → Heads → Body (LeafOf f) → List (ElementOf f) → Asked
asked_by f h (record_of is) xs = of_nothing
asked_by f h (set_of g) xs = of_nothing
asked_by f h (superset es) xs = of_groups (pairs f es xs) (length es) (length xs)
asked_by f h (subset es) xs = cond (is_plain h.sheet) of_nothing (of_groups (λ e m. pairs f es xs m e) (length xs) (length es))

unfoldable pub asked_of : (f : Family) → Template (LeafOf f) → List (ElementOf f) → Asked
asked_of f (template h b) xs = cond (length_met h.length (length xs)) (asked_by f h b xs) of_nothing

-- "When a superset doesn't match": the number is 1, and so no other, as 17 for a list with an element outside the type
unfoldable pub GroupOf : Asked → ℕ → ℕ → Type 0
GroupOf of_nothing r g = g ≡ 0
GroupOf (of_groups ok k n) r g = (r ≡ 1 → Reason ok k n (bit g) × ShortGroup ok k n (bit g)) × ((r ≡ 1 → ⊥) → g ≡ 0)

unfoldable pub GroupRead : (f : Family) → Read (Template (LeafOf f)) → List (ElementOf f) → ℕ → ℕ → Type 0
GroupRead f (refuse q) xs r g = g ≡ 0
GroupRead f (got s rest) xs r g = GroupOf (asked_of f s xs) r g

abbrev pub number_of : Given → ℕ
number_of (given r room) = r

pub record WhyOf (f : Family) (t : List ℕ) (xs : List (ElementOf f)) (r g : ℕ) : Type 0 where
  pub number : (room : List ℕ) → length xs ≤ length room → number_of (match_answer f t xs room) ≡ r
  pub group : GroupRead f (read_template f t) xs r g
