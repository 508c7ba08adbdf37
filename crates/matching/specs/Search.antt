-- The first witness (docs/RULES.md, "The witness": "it is the first one in byte order"), by trying all lists of bytes in byte order.
-- Maybe           == a list of bytes, or nothing
-- put b r         == r with the byte b in front, where there is one
-- or_else r s      == r where there is one, else s
-- try_each f bs    == the first of f b, for b in bs, where there is one
-- first_of n bs P  == the first, in byte order, of the lists of n bytes out of bs (ascending) of which P holds, or nothing
-- from m n        == m, m + 1, .. : n numbers, and 255 after them
-- bytes_of k       == the numbers of k members, and 255, ascending
-- members_count t == how many members t has
-- first_witness f t xs == the first witness in byte order that obeys, or nothing
-- Assumes nothing: these are definitions.
use Rattle.std.specs.Prelude.{Bool, cond, List, [], ◌∷◌, ℕ, zero, suc, length}
use Rattle.format.specs.declared.Family.{Family}
use Rattle.grammar.specs.Family.{LeafOf, ElementOf}
use Rattle.grammar.specs.Template.{Template, template, members_of}
use Rattle.matching.specs.Obeys.{spare, obeys}

pub data Maybe : Type 0 where
  nothing : Maybe
  just : List ℕ → Maybe

unfoldable pub put : ℕ → Maybe → Maybe
put b nothing = nothing
put b (just w) = just (b ∷ w)

unfoldable pub or_else : Maybe → Maybe → Maybe
or_else nothing s = s
or_else (just w) s = just w

unfoldable pub try_each : (ℕ → Maybe) → List ℕ → Maybe
try_each f [] = nothing
try_each f (b ∷ bs) = or_else (f b) (try_each f bs)

unfoldable pub first_of : ℕ → List ℕ → (List ℕ → Bool) → Maybe
first_of zero bs P = cond (P []) (just []) nothing
first_of (suc n) bs P = try_each (λ b. put b (first_of n bs (λ w. P (b ∷ w)))) bs

unfoldable pub from : ℕ → ℕ → List ℕ
from m zero = spare ∷ []
from m (suc n) = m ∷ from (suc m) n

abbrev pub bytes_of : ℕ → List ℕ
bytes_of k = from 0 k

unfoldable pub members_count : {L : Type 0} → Template L → ℕ
members_count (template h b) = length (members_of b)

unfoldable pub first_witness : (f : Family) → Template (LeafOf f) → List (ElementOf f) → Maybe
first_witness f t xs = first_of (length xs) (bytes_of (members_count t)) (obeys f t xs)
