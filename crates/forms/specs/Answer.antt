-- What the normaliser gives back (docs/RULES.md, "Numbers given back").
-- Answer          == a number, a length, and the room as it is afterwards
-- placed f room   == the form f written to the room: 12 where the room is shorter, else 0
-- read_under lo hi t == t as one element template by itself, with elements of the type from lo to hi, or its refusal: 2, then 6 for bounds that are reversed,
--                    then what the scan finds, and 10
-- answer_to lo hi o room == the answer to an input that reads as o, with elements of the type from lo to hi
-- normalised lo hi t room == the answer to the template bytes t, the bounds lo and hi of the type, and the room
-- Assumes nothing: these are definitions.
use Rattle.std.specs.Prelude.{ℕ, List, ◌++◌, cond, ltb, ℤ, length, drop}
use Rattle.std.specs.Int.Signed.{lt_z}
use Rattle.grammar.specs.Element.{Elem}
use Rattle.grammar.specs.Leaf.{Leaf, typed_head}
use Rattle.grammar.specs.Read.{Read, refuse, got, or_refuse, limited}
use Rattle.grammar.specs.Reading.{read_element}
use Rattle.forms.specs.Form.{normal_form}

pub data Answer : Type 0 where
  answer : ℕ → ℕ → List ℕ → Answer

-- "No number but 0 changes the room. With 0 .. the bytes of its form; the rest of the room stays."
unfoldable pub placed : List ℕ → List ℕ → Answer
placed f room =
    cond (ltb (length room) (length f)) (answer 12 0 room)
    (answer 0 (length f) (f ++ drop (length f) room))

-- "6 for reversed bounds, also in the normaliser, after 2": before the first byte is read
unfoldable pub read_under : ℤ → ℤ → List ℕ → Read (Elem Leaf)
read_under lo hi t = limited t (or_refuse (lt_z hi lo) 6 (read_element (typed_head lo hi) t))

-- "its 12 comes last, after 10"
unfoldable pub answer_to : ℤ → ℤ → Read (Elem Leaf) → List ℕ → Answer
answer_to lo hi (refuse r) room = answer r 0 room
answer_to lo hi (got e rest) room = placed (normal_form lo hi e) room

unfoldable pub normalised : ℤ → ℤ → List ℕ → List ℕ → Answer
normalised lo hi t room = answer_to lo hi (read_under lo hi t) room
