-- Templates (docs/RULES.md, "The records").
-- Star        == whether there is a 20, and its min and max
-- Group L     == what stands in a set of or a permutation: its element templates in order, and its 20 if it has one
-- Item L      == an item of a record of: an element template, a 20, a permutation
-- Body L      == record of, set of, superset, subset
-- Length      == the length attribute: none, or its min and max
-- Sheet       == the sheet that a rule is written on; is_plain v == it is sheet 1, which reads subset plainly
-- Heads       == what may stand before a body: the sheet, the length attribute, and the element type by its lower and its upper bound
-- no_heads     == what holds where nothing does: sheet 2, any length, and all 32-bit integers
-- InOrder h   <-> the bounds of the type are 32-bit integers, the lower one not above the upper one
-- Template L  == its heads, and a body
-- plainly h b == b is a subset, and the heads h say sheet 1
-- members_of b == the members of b, in the order of their numbers: those inside permutations in place
-- members_of_group g, members_of_item i, members_of_items is == the same of a group, of an item, of several items
-- Infinity as an upper bound is 255, as in the bytes: no list is that long.
-- Assumes nothing: these are definitions.
use Rattle.std.specs.Prelude.{◌≡◌, Bool, true, false, ℕ, ℤ, List, [], ◌∷◌, ◌++◌}
use Rattle.std.specs.Int.Signed.{lt_z}
use Rattle.integers.specs.Integer.{Word, least, greatest}
use Rattle.grammar.specs.Element.{Elem}

pub data Star : Type 0 where
  no_star : Star
  star : ℕ → ℕ → Star

pub data Group (L : Type 0) : Type 0 where
  grouped : List (Elem L) → Star → Group L

pub data Item (L : Type 0) : Type 0 where
  one : Elem L → Item L
  spares : ℕ → ℕ → Item L
  permutation : Group L → Item L

pub data Body (L : Type 0) : Type 0 where
  record_of : List (Item L) → Body L
  set_of : Group L → Body L
  superset : List (Elem L) → Body L
  subset : List (Elem L) → Body L

pub data Length : Type 0 where
  any_length : Length
  between : ℕ → ℕ → Length

-- sheet 1 reads "subset plainly", sheet 2 is "document 01's reading"
pub data Sheet : Type 0 where
  sheet1 : Sheet
  sheet2 : Sheet

abbrev pub is_plain : Sheet → Bool
is_plain sheet1 = true
is_plain sheet2 = false

pub record Heads : Type 0 where
  pub sheet : Sheet
  pub length : Length
  pub lower : ℤ
  pub upper : ℤ

abbrev pub no_heads : Heads
no_heads = record { sheet = sheet2; length = any_length; lower = least; upper = greatest }

abbrev pub InOrder : Heads → Type 0
InOrder h = Word h.lower × Word h.upper × (lt_z h.upper h.lower ≡ false)

pub data Template (L : Type 0) : Type 0 where
  template : Heads → Body L → Template L

unfoldable pub plainly : {L : Type 0} → Heads → Body L → Bool
plainly h (record_of is) = false
plainly h (set_of g) = false
plainly h (superset es) = false
plainly h (subset es) = is_plain h.sheet

unfoldable pub members_of_group : {L : Type 0} → Group L → List (Elem L)
members_of_group (grouped es s) = es

unfoldable pub members_of_item : {L : Type 0} → Item L → List (Elem L)
members_of_item (one e) = e ∷ []
members_of_item (spares min max) = []
members_of_item (permutation g) = members_of_group g

unfoldable pub members_of_items : {L : Type 0} → List (Item L) → List (Elem L)
members_of_items [] = []
members_of_items (i ∷ is) = members_of_item i ++ members_of_items is

unfoldable pub members_of : {L : Type 0} → Body L → List (Elem L)
members_of (record_of is) = members_of_items is
members_of (set_of g) = members_of_group g
members_of (superset es) = es
members_of (subset es) = es
