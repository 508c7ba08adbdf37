-- What the functions say.
-- pair_of f es xs m e == the member m of es matches the element e of xs, in the family f
-- RowsOf f es xs rows <-> bit m of row e says whether member m of es matches element e of xs; every other bit is clear
-- Assumes nothing: these are definitions.
use Rattle.std.specs.Prelude.{◌≡◌, Bool, false, List, ℕ, ◌≤◌, ◌<◌, length, get_or}
use Rattle.grammar.specs.Element.{Elem}
use Rattle.format.specs.declared.Family.{Family}
use Rattle.grammar.specs.Family.{LeafOf, ElementOf, no_element, matches_of}
use Rattle.grammar.specs.Members.{member_hits}
use Rattle.rows.specs.Rows.{may}

abbrev pub pair_of : (f : Family) → List (Elem (LeafOf f)) → List (ElementOf f) → ℕ → ℕ → Bool
pair_of f es xs m e = member_hits (matches_of f) es m (get_or xs e (no_element f))

pub record RowsOf (f : Family) (es : List (Elem (LeafOf f))) (xs : List (ElementOf f)) (rows : List ℕ) : Type 0 where
  pub size : length rows ≡ 32
  pub right : (m e : ℕ) → m < length es → e < length xs → may rows m e ≡ member_hits (matches_of f) es m (get_or xs e (no_element f))
  pub no_member : (m e : ℕ) → length es ≤ m → may rows m e ≡ false
  pub no_element : (m e : ℕ) → length xs ≤ e → may rows m e ≡ false
