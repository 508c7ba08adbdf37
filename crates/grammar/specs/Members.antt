-- The members of a template by their numbers, from 0 in the order they appear.
-- member_hits hits es m x == m is the number of a member of es, and that member matches x; hits e x says whether e matches x
-- Assumes nothing: these are definitions.
use Rattle.std.specs.Prelude.{Bool, false, List, [], ◌∷◌, ℕ, zero, suc}
use Rattle.grammar.specs.Element.{Elem}

unfoldable pub member_hits : {L X : Type 0} → (Elem L → X → Bool) → List (Elem L) → ℕ → X → Bool
member_hits hits [] m x = false
member_hits hits (e ∷ es) zero x = hits e x
member_hits hits (e ∷ es) (suc m) x = member_hits hits es m x
