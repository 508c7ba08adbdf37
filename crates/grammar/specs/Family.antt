-- The two families: which leaves a template has, and what the elements of its lists are (docs/RULES.md, "Floats").
-- LeafOf f     == the leaves of the family f; leaves_of f s == the leaf at the front of s, or its own fault
-- leaves_in f lo hi s == the same in a template whose elements are of the type from lo to hi, which only integers have
-- has_types f   == a template of the family f may have a type
-- ElementOf f  == the elements of its lists; no_element f == what stands for an element where there is none
-- test_of f l x == the leaf l matches the element x
-- matches_of f e x == the element template e matches the element x; any_matches_of f es x == at least one of es matches it
-- list_of f xs ys == the list of the family f, of the integers xs and the floats ys
-- Lent f xs ys <-> the list that is not of the family f is empty
-- some_outside lo hi xs == one of the integers xs is outside the type; outside_of f lo hi xs == the same of a list of the family f
-- ElementRowOf f n <-> n is the number of a row of the table that is about the bytes of an element template: 2 to 10, and 16 for integers, 14 for floats
-- RowOf f n   <-> the same of a whole template: also 20, for its sheet
-- Assumes nothing: these are definitions.
use Rattle.std.specs.Prelude.{◌≡◌, Bool, true, false, ◌||◌, List, [], ◌∷◌, ◌⊎◌, ℕ, ◌≤◌, ℤ, pos, Float}
use Rattle.std.specs.Float.{nan}
use Rattle.format.specs.declared.Family.{Family}
use Rattle.floats.specs.declared.Leaf.{Leaf as FloatLeaf}
use Rattle.floats.specs.Leaves.{float_matches}
use Rattle.grammar.specs.Element.{Elem, Elems}
use Rattle.grammar.specs.Record.{Head}
use Rattle.grammar.specs.Leaf.{Leaf, leaf_head, outside_type, typed_head}
use Rattle.grammar.specs.FloatLeaf.{float_head}
use Rattle.grammar.specs.Matches.{matches_by, any_matches_by, leaf_matches}

abbrev pub LeafOf : Family → Type 0
LeafOf Family.Integers = Leaf
LeafOf Family.Floats = FloatLeaf

abbrev pub leaves_of : (f : Family) → List ℕ → Head (LeafOf f)
leaves_of Family.Integers = leaf_head
leaves_of Family.Floats = float_head

-- "Float templates have no 31"
abbrev pub has_types : Family → Bool
has_types Family.Integers = true
has_types Family.Floats = false

abbrev pub leaves_in : (f : Family) → ℤ → ℤ → List ℕ → Head (LeafOf f)
leaves_in Family.Integers lo hi = typed_head lo hi
leaves_in Family.Floats lo hi = float_head

abbrev pub ElementOf : Family → Type 0
ElementOf Family.Integers = ℤ
ElementOf Family.Floats = Float

abbrev pub no_element : (f : Family) → ElementOf f
no_element Family.Integers = pos 0
no_element Family.Floats = nan

abbrev pub test_of : (f : Family) → LeafOf f → ElementOf f → Bool
test_of Family.Integers = leaf_matches
test_of Family.Floats = float_matches

abbrev pub matches_of : (f : Family) → Elem (LeafOf f) → ElementOf f → Bool
matches_of f e x = matches_by (test_of f) e x

abbrev pub any_matches_of : (f : Family) → Elems (LeafOf f) → ElementOf f → Bool
any_matches_of f es x = any_matches_by (test_of f) es x

abbrev pub list_of : (f : Family) → List ℤ → List Float → List (ElementOf f)
list_of Family.Integers xs ys = xs
list_of Family.Floats xs ys = ys

abbrev pub Lent : Family → List ℤ → List Float → Type 0
Lent Family.Integers xs ys = ys ≡ []
Lent Family.Floats xs ys = xs ≡ []

unfoldable pub some_outside : ℤ → ℤ → List ℤ → Bool
some_outside lo hi [] = false
some_outside lo hi (x ∷ xs) = outside_type lo hi x || some_outside lo hi xs

abbrev pub outside_of : (f : Family) → ℤ → ℤ → List (ElementOf f) → Bool
outside_of Family.Integers lo hi xs = some_outside lo hi xs
outside_of Family.Floats lo hi xs = false

abbrev pub ElementRowOf : Family → ℕ → Type 0
ElementRowOf Family.Integers n = ((2 ≤ n) × (n ≤ 10)) ⊎ (n ≡ 16)
ElementRowOf Family.Floats n = ((2 ≤ n) × (n ≤ 10)) ⊎ (n ≡ 14)

abbrev pub RowOf : Family → ℕ → Type 0
RowOf f n = ElementRowOf f n ⊎ (n ≡ 20)
