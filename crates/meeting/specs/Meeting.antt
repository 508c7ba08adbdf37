-- The meeting of two normal forms (docs/RULES.md, "Joining and negating rules"): "the normal form of what both match", under given type bounds.
-- both a b         == the element template complement(complement(a), complement(b)): it matches what a and b both match
-- is_form lo hi s e == the bytes s, which read as e, are a normal form: the one that the normaliser writes for them
-- met lo hi s a t b room == the answer to the inputs s and t, which read as a and b
-- meet_read lo hi s t o o' room == the answer to inputs that read as o and o'
-- meeting_of lo hi s t room == the answer to the inputs s and t, the bounds lo and hi of the type, and the room
-- Assumes nothing: these are definitions.
use Rattle.std.specs.Prelude.{ℕ, Bool, cond, ◌&&◌, List, ltb, ℤ}
use Rattle.facts.specs.SameLists.{same_bytes}
use Rattle.grammar.specs.Element.{Elem, none_of, none, more}
use Rattle.grammar.specs.Leaf.{Leaf}
use Rattle.grammar.specs.Read.{Read, refuse, got}
use Rattle.forms.specs.Matched.{ranges_of}
use Rattle.forms.specs.Form.{normal_form, form_leaves}
use Rattle.forms.specs.Answer.{Answer, answer, placed, read_under}

abbrev pub both : Elem Leaf → Elem Leaf → Elem Leaf
both a b = none_of (more (none_of (more a none)) (more (none_of (more b none)) none))

unfoldable pub is_form : ℤ → ℤ → List ℕ → Elem Leaf → Bool
is_form lo hi s e = same_bytes s (normal_form lo hi e)

-- "15 if either isn't a normal form; 8 if the result has over 64 leaves; 12 last"
unfoldable pub met : ℤ → ℤ → List ℕ → Elem Leaf → List ℕ → Elem Leaf → List ℕ → Answer
met lo hi s a t b room =
    cond (is_form lo hi s a && is_form lo hi t b)
    (cond (ltb 64 (form_leaves lo hi (ranges_of (both a b)))) (answer 8 0 room)
    (placed (normal_form lo hi (both a b)) room))
    (answer 15 0 room)

-- "the normaliser's but 12 for the first input, then the second"
unfoldable pub meet_read : ℤ → ℤ → List ℕ → List ℕ → Read (Elem Leaf) → Read (Elem Leaf) → List ℕ → Answer
meet_read lo hi s t (refuse r) o room = answer r 0 room
meet_read lo hi s t (got a u) (refuse r) room = answer r 0 room
meet_read lo hi s t (got a u) (got b v) room = met lo hi s a t b room

unfoldable pub meeting_of : ℤ → ℤ → List ℕ → List ℕ → List ℕ → Answer
meeting_of lo hi s t room = meet_read lo hi s t (read_under lo hi s) (read_under lo hi t) room
