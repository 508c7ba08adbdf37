-- Examples of meetings, computed of the definition: the order of its refusals, forms under a type, and what two forms both match. Assumes nothing.
use mathlib.Core.Path.{◌≡◌, refl}
use mathlib.Core.List.{List, [], ◌∷◌}
use Prim.Native.Nat.{ℕ}
use lib.IntN.{pos}
use lib.ListN.{drop}
use Rattle.facts.specs.SameLists.{same_bytes}
use Rattle.integers.specs.Integer.{least, greatest, signed, int_at, int_bytes}
use Rattle.grammar.specs.Leaf.{single_head, range_head, leaf_head, reaches, of_type}
use Rattle.grammar.specs.Record.{count_fault, group_head, head}
use Rattle.grammar.specs.Read.{ended}
use Rattle.grammar.specs.Reading.{uncounted, put_first, then_more, many, closed, opened, elem, read_element}
use Rattle.ranges.specs.Spans.{join, join_all, gaps_from, gaps, cut_to}
use Rattle.forms.specs.Matched.{ranges_of}
use Rattle.forms.specs.Form.{record_of, records, matched_form, unmatched_form, form, normal_form, side_ranges, form_leaves}
use Rattle.forms.specs.Answer.{answer, placed, read_under}
use Rattle.meeting.specs.Meeting.{is_form, met, meet_read, meeting_of}

room : List ℕ
room = 0 ∷ 0 ∷ 0 ∷ 0 ∷ 0 ∷ 0 ∷ 0 ∷ 0 ∷ 0 ∷ 0 ∷ 0 ∷ []

-- a list of any value is no normal form: what is at fault in the second comes first, then 15, and that before 12; reversed bounds come before both inputs
in_order_lem :
    (meeting_of least greatest (0x04 ∷ 0x01 ∷ 0x03 ∷ []) (0xFF ∷ []) [] ≡ answer 4 0 [])
    × (meeting_of least greatest (0x04 ∷ 0x01 ∷ 0x03 ∷ []) (0x03 ∷ []) [] ≡ answer 15 0 [])
    × (meeting_of least greatest (0x03 ∷ []) (0x04 ∷ 0x01 ∷ 0x03 ∷ []) [] ≡ answer 15 0 [])
    × (meeting_of least greatest (0x03 ∷ []) (0x03 ∷ []) [] ≡ answer 12 0 [])
    × (meeting_of (pos 5) (pos 4) (0xFF ∷ []) (0x03 ∷ []) room ≡ answer 6 0 room)
unfolding meeting_of meet_read met is_form same_bytes placed read_under read_element ended uncounted elem opened closed many then_more put_first head leaf_head of_type reaches group_head count_fault normal_form form form_leaves side_ranges unmatched_form ranges_of join_all join gaps gaps_from cut_to
in_order_lem = (refl, refl, refl, refl, refl)

-- hours: 0..23 is no normal form, since it is everything; complement(1) and everything meet in complement(1)
hours :
    (meeting_of (pos 0) (pos 23) (0x02 ∷ 0 ∷ 0 ∷ 0 ∷ 0 ∷ 23 ∷ 0 ∷ 0 ∷ 0 ∷ []) (0x03 ∷ []) room ≡ answer 15 0 room)
    × (meeting_of (pos 0) (pos 23) (0x05 ∷ 0x01 ∷ 0x01 ∷ 1 ∷ 0 ∷ 0 ∷ 0 ∷ []) (0x03 ∷ []) room ≡ answer 0 7 (0x05 ∷ 0x01 ∷ 0x01 ∷ 1 ∷ 0 ∷ 0 ∷ 0 ∷ drop 7 room))
unfolding meeting_of meet_read met is_form same_bytes placed read_under read_element ended uncounted elem opened closed many then_more put_first head leaf_head single_head range_head of_type reaches group_head count_fault int_at signed normal_form form form_leaves side_ranges matched_form unmatched_form records record_of int_bytes ranges_of join_all join gaps gaps_from cut_to room
hours = (refl, refl)

-- 5 and 6 have nothing in common; 1..3 and 2..4 have 2..3
apart-and-common :
    (meeting_of least greatest (0x01 ∷ 5 ∷ 0 ∷ 0 ∷ 0 ∷ []) (0x01 ∷ 6 ∷ 0 ∷ 0 ∷ 0 ∷ []) room ≡ answer 0 3 (0x05 ∷ 0x01 ∷ 0x03 ∷ drop 3 room))
    × (meeting_of least greatest (0x02 ∷ 1 ∷ 0 ∷ 0 ∷ 0 ∷ 3 ∷ 0 ∷ 0 ∷ 0 ∷ []) (0x02 ∷ 2 ∷ 0 ∷ 0 ∷ 0 ∷ 4 ∷ 0 ∷ 0 ∷ 0 ∷ []) room ≡ answer 0 9 (0x02 ∷ 2 ∷ 0 ∷ 0 ∷ 0 ∷ 3 ∷ 0 ∷ 0 ∷ 0 ∷ drop 9 room))
unfolding meeting_of meet_read met is_form same_bytes placed read_under read_element ended uncounted elem opened head leaf_head single_head range_head of_type reaches int_at signed normal_form form form_leaves side_ranges matched_form record_of int_bytes ranges_of join_all join gaps gaps_from cut_to room
apart-and-common = (refl, refl)
