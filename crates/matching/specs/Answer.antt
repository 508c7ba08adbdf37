-- What each entry point gives back (docs/RULES.md, "Numbers given back"), in the order of the table: 2, 11, 12 or 13, the scan, 10, 17, then 0 or 1.
-- Given              == a number, and every byte of the room afterwards
-- or_refused b r room g == the refusal r and the room as it was, where the test b says that its row holds, else g
-- written m room     == 0 and the witness in front of what it does not cover, or 1 and the room as it was
-- is_whole lo hi      == the type from lo to hi is all the 32-bit integers
-- element_outside f s xs == an element of the list xs is outside the element type of the template s; of all the 32-bit integers none is
-- match_read f o xs room == the answer for a template that was read as o
-- match_answer f t xs room == what `match_list`, or `match_floats`, gives for the template bytes t of the family f, the list xs and the room
-- judge_read f o xs w == the number for a template that was read as o
-- judge_answer f t xs w == the number that `judge`, or `judge_floats`, gives for the offered witness w
-- Taken t xs        <-> no row of the table before the scan holds: the template and the list are not too long
-- Assumes nothing: these are definitions.
use Rattle.std.specs.Prelude.{Bool, not, ◌&&◌, cond, List, ◌++◌, ℕ, ◌≤◌, ltb, eqb, length, drop, ℤ}
use Rattle.format.specs.declared.Family.{Family}
use Rattle.integers.specs.Integer.{least, greatest, eq_z}
use Rattle.grammar.specs.Family.{LeafOf, ElementOf, outside_of}
use Rattle.grammar.specs.Template.{Template, template}
use Rattle.grammar.specs.Read.{Read, refuse, got}
use Rattle.grammar.specs.Whole.{read_template}
use Rattle.matching.specs.Obeys.{obeys}
use Rattle.matching.specs.Search.{Maybe, nothing, just, first_witness}

pub data Given : Type 0 where
  given : ℕ → List ℕ → Given

abbrev pub or_refused : Bool → ℕ → List ℕ → Given → Given
or_refused b r room g = cond b (given r room) g

unfoldable pub written : Maybe → List ℕ → Given
written nothing room = given 1 room
written (just w) room = given 0 (w ++ drop (length w) room)

abbrev pub is_whole : ℤ → ℤ → Bool
is_whole lo hi = eq_z lo least && eq_z hi greatest

-- "17 for a list element outside it, after 10"
unfoldable pub element_outside : (f : Family) → Template (LeafOf f) → List (ElementOf f) → Bool
element_outside f (template h b) xs = not (is_whole h.lower h.upper) && outside_of f h.lower h.upper xs

unfoldable pub match_read : (f : Family) → Read (Template (LeafOf f)) → List (ElementOf f) → List ℕ → Given
match_read f (refuse r) xs room = given r room
match_read f (got t s) xs room = or_refused (element_outside f t xs) 17 room (written (first_witness f t xs) room)

unfoldable pub match_answer : (f : Family) → List ℕ → List (ElementOf f) → List ℕ → Given
match_answer f t xs room =
    or_refused (ltb 4096 (length t)) 2 room
    (or_refused (ltb 32 (length xs)) 11 room
    (or_refused (ltb (length room) (length xs)) 12 room
    (match_read f (read_template f t) xs room)))

unfoldable pub judge_read : (f : Family) → Read (Template (LeafOf f)) → List (ElementOf f) → List ℕ → ℕ
judge_read f (refuse r) xs w = r
judge_read f (got t s) xs w = cond (element_outside f t xs) 17 (cond (obeys f t xs w) 0 1)

unfoldable pub judge_answer : (f : Family) → List ℕ → List (ElementOf f) → List ℕ → ℕ
judge_answer f t xs w =
    cond (ltb 4096 (length t)) 2
    (cond (ltb 32 (length xs)) 11
    (cond (eqb (length w) (length xs))
    (judge_read f (read_template f t) xs w)
    13))

abbrev pub Taken : {X : Type 0} → List ℕ → List X → Type 0
Taken t xs = (length t ≤ 4096) × (length xs ≤ 32)
