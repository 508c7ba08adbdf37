-- Which member may take which element, as 32 masks.
-- may rows m e  == member m may take element e, where each element has a row: bit m of the row of e, "the set of members that match"
-- picks cols m e == the same, where each member has a row: bit e of the row of m, the set of elements that it matches
-- Assumes nothing: these are definitions.
use Rattle.std.specs.Prelude.{Bool, List, ℕ, get_or}
use Rattle.masks.specs.Masks.{bit}

unfoldable pub may : List ℕ → ℕ → ℕ → Bool
may rows m e = bit (get_or rows e 0) m

unfoldable pub picks : List ℕ → ℕ → ℕ → Bool
picks cols m e = bit (get_or cols m 0) e
