-- The same relation by a row for each element and by a row for each member, computed. Assumes nothing.
use mathlib.Core.Path.{◌≡◌, refl}
use mathlib.Core.Bool.{Bool, true, false}
use mathlib.Core.List.{List, [], ◌∷◌}
use Prim.Native.Nat.{ℕ}
use Rattle.masks.specs.Masks.{bit}
use Rattle.rows.specs.Rows.{may, picks}

-- member 0 may take elements 0 and 1, member 1 only element 1
rows : List ℕ
rows = 1 ∷ 3 ∷ []

columns : List ℕ
columns = 3 ∷ 2 ∷ []

table : (ℕ → ℕ → Bool) → List Bool
table ok = ok 0 0 ∷ ok 0 1 ∷ ok 1 0 ∷ ok 1 1 ∷ []

by_elements : table (may rows) ≡ true ∷ true ∷ false ∷ true ∷ []
unfolding table rows may bit
by_elements = refl

by_members : table (picks columns) ≡ true ∷ true ∷ false ∷ true ∷ []
unfolding table columns picks bit
by_members = refl
