-- Element templates and integers (docs/RULES.md, "When an element matches").
-- matches_by test e x    == the element template e matches x, where `test` says which x a leaf matches
-- any_matches_by test es x == at least one of es matches x
-- leaf_matches l x       == the leaf l of the integer family matches the integer x
-- matches e x           == the element template e matches the integer x
-- any_matches es x       == at least one of es matches x
-- Assumes nothing: these are definitions.
use Rattle.std.specs.Prelude.{Bool, true, false, not, ◌||◌, ◌&&◌, ℤ}
use Rattle.std.specs.Int.Signed.{le_z}
use Rattle.integers.specs.Integer.{eq_z}
use Rattle.grammar.specs.Element.{Elem, leaf, one_of, none_of, Elems, none, more}
use Rattle.grammar.specs.Leaf.{Leaf, single, range, any}

-- "04: at least one of its members matches. 05: none of its members matches"
unfoldable mutual
  pub matches_by : {L X : Type 0} → (L → X → Bool) → Elem L → X → Bool
  matches_by test (leaf l) x = test l x
  matches_by test (one_of es) x = any_matches_by test es x
  matches_by test (none_of es) x = not (any_matches_by test es x)

  pub any_matches_by : {L X : Type 0} → (L → X → Bool) → Elems L → X → Bool
  any_matches_by test none x = false
  any_matches_by test (more e es) x = matches_by test e x || any_matches_by test es x

-- "01: equal. 02: between the bounds, ends included. 03: every 32-bit integer"
unfoldable pub leaf_matches : Leaf → ℤ → Bool
leaf_matches (single z) x = eq_z z x
leaf_matches (range lower upper) x = le_z lower x && le_z x upper
leaf_matches any x = true

abbrev pub matches : Elem Leaf → ℤ → Bool
matches e x = matches_by leaf_matches e x

abbrev pub any_matches : Elems Leaf → ℤ → Bool
any_matches es x = any_matches_by leaf_matches es x
