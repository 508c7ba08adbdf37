-- Examples of normal forms, computed: those about the ends of the integers, and others of examples/judged.txt; the two that are marked P there
-- are rows of the table of judged examples. Assumes nothing.
use mathlib.Core.Path.{◌≡◌, refl}
use mathlib.Core.List.{List, [], ◌∷◌}
use Prim.Native.Nat.{ℕ}
use lib.IntN.{pos, negsuc}
use lib.ListN.{drop}
use Rattle.integers.specs.Integer.{least, greatest, signed, int_at, int_bytes}
use Rattle.grammar.specs.Element.{Elem, leaf, one_of, none_of, Elems, none, more}
use Rattle.grammar.specs.Leaf.{Leaf, single, range, any, single_head, range_head, leaf_head, reaches, of_type}
use Rattle.grammar.specs.Record.{count_fault, group_head, head}
use Rattle.grammar.specs.Read.{ended}
use Rattle.grammar.specs.Reading.{uncounted, put_first, then_more, many, closed, opened, elem, read_element}
use Rattle.ranges.specs.Spans.{join, join_all, gaps_from, gaps, cut_to}
use Rattle.forms.specs.Matched.{ranges_of}
use Rattle.forms.specs.Form.{record_of, records, matched_form, unmatched_form, form, normal_form}
use Rattle.forms.specs.Answer.{answer, placed, read_under, answer_to, normalised}

list : List (Elem Leaf) → Elems Leaf
list [] = none
list (e ∷ es) = more e (list es)

-- the greatest: nothing lies after it
the_greatest : normal_form least greatest (leaf (single (pos 2147483647))) ≡ 0x01 ∷ 0xFF ∷ 0xFF ∷ 0xFF ∷ 0x7F ∷ []
unfolding normal_form form matched_form record_of int_bytes ranges_of cut_to
the_greatest = refl

-- least..greatest
everything : normal_form least greatest (leaf (range (negsuc 2147483647) (pos 2147483647))) ≡ 0x03 ∷ []
unfolding normal_form form unmatched_form ranges_of gaps gaps_from cut_to
everything = refl

-- complement(?)
nothing : normal_form least greatest (none_of (list (leaf any ∷ []))) ≡ 0x05 ∷ 0x01 ∷ 0x03 ∷ []
unfolding list normal_form form matched_form ranges_of join_all join gaps gaps_from cut_to
nothing = refl

-- (1..2, 3..4) is one range: they touch
touching : normal_form least greatest (one_of (list (leaf (range (pos 1) (pos 2)) ∷ leaf (range (pos 3) (pos 4)) ∷ [])))
    ≡ 0x02 ∷ 0x01 ∷ 0x00 ∷ 0x00 ∷ 0x00 ∷ 0x04 ∷ 0x00 ∷ 0x00 ∷ 0x00 ∷ []
unfolding list normal_form form matched_form record_of int_bytes ranges_of join_all join cut_to
touching = refl

-- (5,3): two stand behind a 04
two_apart : normal_form least greatest (one_of (list (leaf (single (pos 5)) ∷ leaf (single (pos 3)) ∷ [])))
    ≡ 0x04 ∷ 0x02 ∷ 0x01 ∷ 0x03 ∷ 0x00 ∷ 0x00 ∷ 0x00 ∷ 0x01 ∷ 0x05 ∷ 0x00 ∷ 0x00 ∷ 0x00 ∷ []
unfolding list normal_form form matched_form records record_of int_bytes ranges_of join_all join cut_to
two_apart = refl

-- complement(complement(5))
turned_twice : normal_form least greatest (none_of (list (none_of (list (leaf (single (pos 5)) ∷ [])) ∷ []))) ≡ 0x01 ∷ 0x05 ∷ 0x00 ∷ 0x00 ∷ 0x00 ∷ []
unfolding list normal_form form matched_form record_of int_bytes ranges_of join_all join gaps gaps_from cut_to
turned_twice = refl

-- the whole answer: complement(?) in a room of 4 bytes, and of 2
in_a_room : normalised least greatest (0x05 ∷ 0x01 ∷ 0x03 ∷ []) (9 ∷ 8 ∷ 7 ∷ 6 ∷ []) ≡ answer 0 3 (0x05 ∷ 0x01 ∷ 0x03 ∷ 6 ∷ [])
unfolding normalised read_under answer_to placed read_element ended uncounted elem opened closed many then_more put_first head leaf_head of_type reaches group_head count_fault normal_form form matched_form ranges_of join_all join gaps gaps_from cut_to
in_a_room = refl

too_short : normalised least greatest (0x05 ∷ 0x01 ∷ 0x03 ∷ []) (9 ∷ 8 ∷ []) ≡ answer 12 0 (9 ∷ 8 ∷ [])
unfolding normalised read_under answer_to placed read_element ended uncounted elem opened closed many then_more put_first head leaf_head of_type reaches group_head count_fault normal_form form matched_form ranges_of join_all join gaps gaps_from cut_to
too_short = refl

bytes_left : normalised least greatest (0x03 ∷ 0x03 ∷ []) [] ≡ answer 10 0 []
unfolding normalised read_under answer_to read_element ended uncounted elem opened head leaf_head of_type reaches
bytes_left = refl

-- ---- elements of a type

room : List ℕ
room = 0 ∷ 0 ∷ 0 ∷ 0 ∷ 0 ∷ 0 ∷ 0 ∷ 0 ∷ 0 ∷ 0 ∷ 0 ∷ []

-- hours: 0..23 is everything; 0..11 is written by what it leaves out; complement(0..11) is 12..23; least..23 reaches outside; complement(?) is nothing
hours :
    (normalised (pos 0) (pos 23) (0x02 ∷ 0 ∷ 0 ∷ 0 ∷ 0 ∷ 23 ∷ 0 ∷ 0 ∷ 0 ∷ []) room ≡ answer 0 1 (0x03 ∷ drop 1 room))
    × (normalised (pos 0) (pos 23) (0x02 ∷ 0 ∷ 0 ∷ 0 ∷ 0 ∷ 11 ∷ 0 ∷ 0 ∷ 0 ∷ []) room ≡ answer 0 11 (0x05 ∷ 0x01 ∷ 0x02 ∷ 12 ∷ 0 ∷ 0 ∷ 0 ∷ 23 ∷ 0 ∷ 0 ∷ 0 ∷ []))
    × (normalised (pos 0) (pos 23) (0x05 ∷ 0x01 ∷ 0x02 ∷ 0 ∷ 0 ∷ 0 ∷ 0 ∷ 11 ∷ 0 ∷ 0 ∷ 0 ∷ []) room ≡ answer 0 9 (0x02 ∷ 12 ∷ 0 ∷ 0 ∷ 0 ∷ 23 ∷ 0 ∷ 0 ∷ 0 ∷ drop 9 room))
    × (normalised (pos 0) (pos 23) (0x02 ∷ 0 ∷ 0 ∷ 0 ∷ 128 ∷ 23 ∷ 0 ∷ 0 ∷ 0 ∷ []) room ≡ answer 16 0 room)
    × (normalised (pos 0) (pos 23) (0x05 ∷ 0x01 ∷ 0x03 ∷ []) room ≡ answer 0 3 (0x05 ∷ 0x01 ∷ 0x03 ∷ drop 3 room))
unfolding normalised read_under answer_to placed read_element ended uncounted elem opened closed many then_more put_first head leaf_head range_head of_type reaches group_head count_fault int_at signed normal_form form matched_form unmatched_form records record_of int_bytes ranges_of join_all join gaps gaps_from cut_to room
hours = (refl, refl, refl, refl, refl)

-- one integer: 7 is everything, and complement(7) is nothing
one-integer :
    (normalised (pos 7) (pos 7) (0x01 ∷ 7 ∷ 0 ∷ 0 ∷ 0 ∷ []) room ≡ answer 0 1 (0x03 ∷ drop 1 room))
    × (normalised (pos 7) (pos 7) (0x05 ∷ 0x01 ∷ 0x01 ∷ 7 ∷ 0 ∷ 0 ∷ 0 ∷ []) room ≡ answer 0 3 (0x05 ∷ 0x01 ∷ 0x03 ∷ drop 3 room))
unfolding normalised read_under answer_to placed read_element ended uncounted elem opened closed many then_more put_first head leaf_head single_head of_type reaches group_head count_fault int_at signed normal_form form matched_form unmatched_form records record_of int_bytes ranges_of join_all join gaps gaps_from cut_to room
one-integer = (refl, refl)

-- reversed bounds are found before the first byte is read; bounds in order leave the empty input its own fault
no_bytes : (normalised (pos 5) (pos 4) [] room ≡ answer 6 0 room) × (normalised (pos 4) (pos 5) [] room ≡ answer 3 0 room)
unfolding normalised read_under answer_to read_element ended uncounted elem opened head room
no_bytes = (refl, refl)
