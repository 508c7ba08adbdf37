-- Assignments that obey and that do not, and first witnesses, computed on the definitions. The judged examples are rows of the demands. Assumes nothing.
use mathlib.Core.Path.{◌≡◌, refl}
use mathlib.Core.Bool.{true, false}
use mathlib.Core.List.{List, [], ◌∷◌, ◌++◌}
use Prim.Native.Nat.{ℕ}
use lib.IntN.{pos}
use lib.Ieee.{Float, nan, binary64, of_bits, is_nan, le, eq}
use Rattle.format.specs.declared.Family.{Family}
use Rattle.integers.specs.Integer.{signed, int_at}
use Rattle.floats.specs.Bytes.{float_at}
use Rattle.floats.specs.Leaves.{one_fault, bounds_fault as float_bounds_fault, float_matches}
use Rattle.facts.specs.Counting.{between, cnt}
use Rattle.blocks.specs.Assignment.{all_once}
use Rattle.grammar.specs.Element.{Elem, leaf}
use Rattle.grammar.specs.Leaf.{Leaf, single_head, range_head, leaf_head, single, any, reaches, of_type}
use Rattle.grammar.specs.Family.{some_outside}
use Rattle.grammar.specs.FloatLeaf.{one_head, float_range_head, float_head}
use Rattle.grammar.specs.Matches.{matches_by, leaf_matches}
use Rattle.grammar.specs.Record.{count_fault, bounds_fault, sheet_fault, type_fault, group_head, head}
use Rattle.grammar.specs.Read.{ended, map_read, and_then}
use Rattle.grammar.specs.Reading.{uncounted, put_first, then_more, many, closed, opened, elem}
use Rattle.grammar.specs.Whole.{numbered, put_member, then_members, put_item, then_items, clashes, member, members, item, items, contents, body_here, sheet_here, length_here, type_here, rest_here, heads_here, template_here, read_template}
use Rattle.grammar.specs.Template.{no_star, star, grouped, spares, record_of, set_of, superset, subset, no_heads, Template, template, plainly, members_of_group, members_of_item, members_of_items, members_of}
use Rattle.grammar.specs.Members.{member_hits}
use Rattle.matching.specs.Obeys.{right_bytes, none_twice, all_spare, within_block, star_met, group_takes, item_takes, some_cut, cuts, body_met, length_met, obeys_by, obeys}
use Rattle.matching.specs.Search.{just, put, or_else, try_each, first_of, from, members_count, first_witness}
use Rattle.matching.specs.Answer.{given, written, element_outside, match_read, match_answer, judge_read, judge_answer}

any_value : Elem Leaf
any_value = leaf any

value : ℕ → Elem Leaf
value n = leaf (single (pos n))

-- a superset of one on two elements: the first may be spare or the second, and the first witness has the member first
superset_of_one : Template Leaf
superset_of_one = template no_heads (superset (any_value ∷ []))

superset_first : first_witness Family.Integers superset_of_one (pos 7 ∷ pos 7 ∷ []) ≡ just (0 ∷ 255 ∷ [])
unfolding superset_of_one any_value members_of between cnt all_once matches_by leaf_matches member_hits right_bytes none_twice body_met length_met plainly obeys_by put or_else try_each first_of from members_count first_witness
superset_first = refl

superset_second_obeys : obeys Family.Integers superset_of_one (pos 7 ∷ pos 7 ∷ []) (255 ∷ 0 ∷ []) ≡ true
unfolding superset_of_one any_value members_of between cnt all_once matches_by leaf_matches member_hits right_bytes none_twice body_met length_met plainly obeys_by
superset_second_obeys = refl

-- a subset gives no member twice
subset_of_two : Template Leaf
subset_of_two = template no_heads (subset (value 1 ∷ value 2 ∷ []))

subset_twice : obeys Family.Integers subset_of_two (pos 1 ∷ pos 1 ∷ []) (0 ∷ 0 ∷ []) ≡ false
unfolding subset_of_two value members_of between cnt all_once matches_by leaf_matches member_hits right_bytes none_twice body_met length_met plainly obeys_by
subset_twice = refl

-- ---- sheet 1: a subset may give a member many times, and is no 9; a superset gives each once
plain_subset : List ℕ
plain_subset = 0x32 ∷ 1 ∷ 0x30 ∷ 0 ∷ 0xff ∷ 0x13 ∷ 2 ∷ 0x03 ∷ 0x01 ∷ 1 ∷ 0 ∷ 0 ∷ 0 ∷ []

least_member_each : match_answer Family.Integers plain_subset (pos 1 ∷ pos 1 ∷ pos 2 ∷ []) (165 ∷ 165 ∷ 165 ∷ 165 ∷ []) ≡ given 0 (0 ∷ 0 ∷ 0 ∷ 165 ∷ [])
unfolding plain_subset signed int_at members_of_group count_fault bounds_fault sheet_fault head single_head leaf_head reaches of_type ended uncounted opened elem map_read and_then numbered put_member then_members clashes member members contents body_here sheet_here length_here type_here rest_here heads_here template_here read_template some_outside element_outside match_read match_answer leaf_matches members_of cnt matches_by member_hits right_bytes none_twice body_met length_met plainly obeys_by put or_else try_each first_of from members_count first_witness written
least_member_each = refl

any_member_passes : judge_answer Family.Integers plain_subset (pos 1 ∷ pos 1 ∷ []) (1 ∷ 1 ∷ []) ≡ 0
unfolding plain_subset signed int_at members_of_group count_fault bounds_fault sheet_fault head single_head leaf_head reaches of_type ended uncounted opened elem map_read and_then numbered put_member then_members clashes member members contents body_here sheet_here length_here type_here rest_here heads_here template_here read_template some_outside element_outside judge_read judge_answer leaf_matches members_of cnt matches_by member_hits right_bytes none_twice body_met length_met plainly obeys_by
any_member_passes = refl

no_spare_passes : judge_answer Family.Integers plain_subset (pos 1 ∷ []) (255 ∷ []) ≡ 1
unfolding plain_subset signed int_at members_of_group count_fault bounds_fault sheet_fault head single_head leaf_head reaches of_type ended uncounted opened elem map_read and_then numbered put_member then_members clashes member members contents body_here sheet_here length_here type_here rest_here heads_here template_here read_template some_outside element_outside judge_read judge_answer leaf_matches members_of cnt matches_by member_hits right_bytes none_twice body_met length_met plainly obeys_by
no_spare_passes = refl

superset_as_ever : judge_answer Family.Integers (0x32 ∷ 1 ∷ 0x12 ∷ 1 ∷ 0x03 ∷ []) (pos 5 ∷ pos 5 ∷ []) (0 ∷ 0 ∷ []) ≡ 1
unfolding members_of_group count_fault sheet_fault head leaf_head reaches of_type ended uncounted opened elem map_read and_then numbered put_member then_members clashes member members contents body_here sheet_here length_here type_here rest_here heads_here template_here read_template some_outside element_outside judge_read judge_answer all_once leaf_matches members_of cnt matches_by member_hits right_bytes none_twice body_met length_met plainly obeys_by
superset_as_ever = refl

-- without a 20 nothing in a permutation is spare, with one as many as it says
plain : Template Leaf
plain = template no_heads (set_of (grouped (value 1 ∷ []) no_star))

starred : Template Leaf
starred = template no_heads (set_of (grouped (value 1 ∷ []) (star 1 1)))

none_spare : obeys Family.Integers plain (pos 1 ∷ pos 2 ∷ []) (0 ∷ 255 ∷ []) ≡ false
unfolding plain value members_of_group members_of between cnt all_once matches_by leaf_matches member_hits right_bytes none_twice within_block star_met group_takes body_met length_met plainly obeys_by
none_spare = refl

one_spare : obeys Family.Integers starred (pos 1 ∷ pos 2 ∷ []) (0 ∷ 255 ∷ []) ≡ true
unfolding starred value members_of_group members_of between cnt all_once matches_by leaf_matches member_hits right_bytes none_twice within_block star_met group_takes body_met length_met plainly obeys_by
one_spare = refl

-- a record of may be cut at the end of the list
cut_at_the_end : obeys Family.Integers (template no_heads (record_of (spares 0 255 ∷ []))) (pos 1 ∷ []) (255 ∷ []) ≡ true
unfolding members_of_item members_of_items members_of between cnt all_once matches_by leaf_matches member_hits right_bytes none_twice all_spare item_takes some_cut cuts body_met length_met plainly obeys_by
cut_at_the_end = refl

-- ---- floats, from the bytes on: a record of one item, a list of one float, a room of one byte

abbrev record_of_one : List ℕ → List ℕ
record_of_one e = 0x10 ∷ 0x01 ∷ e

abbrev zero_bytes : List ℕ
zero_bytes = 0x00 ∷ 0x00 ∷ 0x00 ∷ 0x00 ∷ 0x00 ∷ 0x00 ∷ 0x00 ∷ 0x00 ∷ []

abbrev minus_zero_bytes : List ℕ
minus_zero_bytes = 0x00 ∷ 0x00 ∷ 0x00 ∷ 0x00 ∷ 0x00 ∷ 0x00 ∷ 0x00 ∷ 0x80 ∷ []

abbrev one_bytes : List ℕ
one_bytes = 0x00 ∷ 0x00 ∷ 0x00 ∷ 0x00 ∷ 0x00 ∷ 0x00 ∷ 0xf0 ∷ 0x3f ∷ []

abbrev infinity_bytes : List ℕ
infinity_bytes = 0x00 ∷ 0x00 ∷ 0x00 ∷ 0x00 ∷ 0x00 ∷ 0x00 ∷ 0xf0 ∷ 0x7f ∷ []

abbrev nan_bytes : List ℕ
nan_bytes = 0x00 ∷ 0x00 ∷ 0x00 ∷ 0x00 ∷ 0x00 ∷ 0x00 ∷ 0xf8 ∷ 0x7f ∷ []

abbrev minus_zero : Float
minus_zero = of_bits binary64 0x8000000000000000

abbrev infinity : Float
infinity = of_bits binary64 0x7ff0000000000000

nan_in_a_06 : match_answer Family.Floats (record_of_one (0x06 ∷ nan_bytes)) [] [] ≡ given 14 []
unfolding of_bits is_nan float_at one_fault one_head float_head count_fault head ended map_read numbered then_items clashes member item items contents body_here sheet_here length_here type_here rest_here heads_here and_then template_here read_template match_read match_answer
nan_in_a_06 = refl

any_matches_nan : match_answer Family.Floats (record_of_one (0x03 ∷ [])) (nan ∷ []) (0xee ∷ []) ≡ given 0 (0x00 ∷ [])
unfolding float_head members_of_item count_fault head ended map_read uncounted opened elem numbered put_item then_items clashes member item items contents body_here sheet_here length_here type_here rest_here heads_here and_then template_here read_template match_read match_answer float_matches members_of_items members_of cnt matches_by member_hits right_bytes none_twice item_takes some_cut cuts body_met length_met plainly obeys_by put or_else try_each first_of from members_count first_witness written element_outside
any_matches_nan = refl

infinity_is_itself : match_answer Family.Floats (record_of_one (0x06 ∷ infinity_bytes)) (infinity ∷ []) (0xee ∷ []) ≡ given 0 (0x00 ∷ [])
unfolding of_bits is_nan float_at one_fault one_head float_head members_of_item count_fault head ended map_read uncounted opened elem numbered put_item then_items clashes member item items contents body_here sheet_here length_here type_here rest_here heads_here and_then template_here read_template match_read match_answer eq float_matches members_of_items members_of cnt matches_by member_hits right_bytes none_twice item_takes some_cut cuts body_met length_met plainly obeys_by put or_else try_each first_of from members_count first_witness written element_outside
infinity_is_itself = refl

minus_zero_between_zeros : match_answer Family.Floats (record_of_one (0x07 ∷ zero_bytes ++ minus_zero_bytes)) (minus_zero ∷ []) (0xee ∷ []) ≡ given 0 (0x00 ∷ [])
unfolding of_bits is_nan float_at float_bounds_fault float_range_head float_head members_of_item count_fault head ended map_read uncounted opened elem numbered put_item then_items clashes member item items contents body_here sheet_here length_here type_here rest_here heads_here and_then template_here read_template match_read match_answer le float_matches members_of_items members_of cnt matches_by member_hits right_bytes none_twice item_takes some_cut cuts body_met length_met plainly obeys_by put or_else try_each first_of from members_count first_witness written element_outside
minus_zero_between_zeros = refl

nan_is_not_one : match_answer Family.Floats (record_of_one (0x06 ∷ one_bytes)) (nan ∷ []) (0xee ∷ []) ≡ given 1 (0xee ∷ [])
unfolding of_bits is_nan float_at one_fault one_head float_head members_of_item count_fault head ended map_read uncounted opened elem numbered put_item then_items clashes member item items contents body_here sheet_here length_here type_here rest_here heads_here and_then template_here read_template match_read match_answer eq float_matches members_of_items members_of cnt matches_by member_hits right_bytes none_twice item_takes some_cut cuts body_met plainly obeys_by put or_else try_each first_of from members_count first_witness written element_outside
nan_is_not_one = refl

nan_in_a_complement : match_answer Family.Floats (record_of_one (0x05 ∷ 0x01 ∷ 0x06 ∷ one_bytes)) (nan ∷ []) (0xee ∷ []) ≡ given 0 (0x00 ∷ [])
unfolding of_bits is_nan float_at one_fault one_head float_head members_of_item count_fault group_head head ended map_read uncounted put_first then_more many closed opened elem numbered put_item then_items clashes member item items contents body_here sheet_here length_here type_here rest_here heads_here and_then template_here read_template match_read match_answer eq float_matches members_of_items members_of cnt matches_by member_hits right_bytes none_twice item_takes some_cut cuts body_met length_met plainly obeys_by put or_else try_each first_of from members_count first_witness written element_outside
nan_in_a_complement = refl

-- each family has leaves of its own
no_01_of_floats : match_answer Family.Floats (record_of_one (0x01 ∷ 0x01 ∷ 0x00 ∷ 0x00 ∷ 0x00 ∷ [])) [] [] ≡ given 4 []
unfolding float_head count_fault head ended map_read numbered then_items clashes member item items contents body_here sheet_here length_here type_here rest_here heads_here and_then template_here read_template match_read match_answer
no_01_of_floats = refl

no_06_of_integers : match_answer Family.Integers (record_of_one (0x06 ∷ one_bytes)) [] [] ≡ given 4 []
unfolding count_fault head ended map_read numbered then_items clashes member item items contents body_here sheet_here length_here type_here rest_here heads_here and_then template_here read_template match_read match_answer leaf_head of_type
no_06_of_integers = refl

-- ---- hours 0 to 23, from the bytes on: a record of one item, all hours but 0 to 11

abbrev small : ℕ → List ℕ → List ℕ
small n s = n ∷ 0x00 ∷ 0x00 ∷ 0x00 ∷ s

abbrev after_noon : List ℕ
after_noon = 0x31 ∷ small 0 (small 23 (record_of_one (0x05 ∷ 0x01 ∷ 0x02 ∷ small 0 (small 11 []))))

abbrev five_after_noon : List ℕ
five_after_noon = 0x30 ∷ 0x05 ∷ 0x05 ∷ after_noon

noon_is_in : match_answer Family.Integers after_noon (pos 12 ∷ []) (0xee ∷ []) ≡ given 0 (0x00 ∷ [])
unfolding signed int_at count_fault type_fault group_head head range_head leaf_head reaches of_type ended uncounted put_first then_more many closed opened elem map_read and_then numbered put_item then_items clashes member item items contents body_here sheet_here length_here type_here rest_here heads_here template_here read_template members_of_item some_outside element_outside match_read match_answer leaf_matches members_of_items members_of cnt matches_by member_hits right_bytes none_twice item_takes some_cut cuts body_met length_met plainly obeys_by put or_else try_each first_of from members_count first_witness written
noon_is_in = refl

five_is_not : match_answer Family.Integers after_noon (pos 5 ∷ []) (0xee ∷ []) ≡ given 1 (0xee ∷ [])
unfolding signed int_at count_fault type_fault group_head head range_head leaf_head reaches of_type ended uncounted put_first then_more many closed opened elem map_read and_then numbered put_item then_items clashes member item items contents body_here sheet_here length_here type_here rest_here heads_here template_here read_template members_of_item some_outside element_outside match_read match_answer leaf_matches members_of_items members_of cnt matches_by member_hits right_bytes none_twice item_takes some_cut cuts body_met plainly obeys_by put or_else try_each first_of from members_count first_witness written
five_is_not = refl

no_hour : match_answer Family.Integers after_noon (pos 40 ∷ []) (0xee ∷ []) ≡ given 17 (0xee ∷ [])
unfolding signed int_at count_fault type_fault group_head head range_head leaf_head reaches of_type ended uncounted put_first then_more many closed opened elem map_read and_then numbered put_item then_items clashes member item items contents body_here sheet_here length_here type_here rest_here heads_here template_here read_template members_of_item some_outside element_outside match_read match_answer
no_hour = refl

-- before the length is asked
no_hour_and_too_few : match_answer Family.Integers five_after_noon (pos 40 ∷ []) (0xee ∷ []) ≡ given 17 (0xee ∷ [])
unfolding signed int_at count_fault bounds_fault type_fault group_head head range_head leaf_head reaches of_type ended uncounted put_first then_more many closed opened elem map_read and_then numbered put_item then_items clashes member item items contents body_here sheet_here length_here type_here rest_here heads_here template_here read_template members_of_item some_outside element_outside match_read match_answer
no_hour_and_too_few = refl

judge_noon : judge_answer Family.Integers after_noon (pos 12 ∷ []) (0x00 ∷ []) ≡ 0
unfolding signed int_at count_fault type_fault group_head head range_head leaf_head reaches of_type ended uncounted put_first then_more many closed opened elem map_read and_then numbered put_item then_items clashes member item items contents body_here sheet_here length_here type_here rest_here heads_here template_here read_template members_of_item some_outside element_outside judge_read judge_answer leaf_matches members_of_items members_of cnt matches_by member_hits right_bytes none_twice item_takes some_cut cuts body_met length_met plainly obeys_by
judge_noon = refl

judge_five : judge_answer Family.Integers after_noon (pos 5 ∷ []) (0x00 ∷ []) ≡ 1
unfolding signed int_at count_fault type_fault group_head head range_head leaf_head reaches of_type ended uncounted put_first then_more many closed opened elem map_read and_then numbered put_item then_items clashes member item items contents body_here sheet_here length_here type_here rest_here heads_here template_here read_template members_of_item some_outside element_outside judge_read judge_answer leaf_matches members_of_items members_of cnt matches_by member_hits right_bytes none_twice item_takes some_cut cuts body_met length_met plainly obeys_by
judge_five = refl

judge_no_hour : judge_answer Family.Integers after_noon (pos 40 ∷ []) (0x00 ∷ []) ≡ 17
unfolding signed int_at count_fault type_fault group_head head range_head leaf_head reaches of_type ended uncounted put_first then_more many closed opened elem map_read and_then numbered put_item then_items clashes member item items contents body_here sheet_here length_here type_here rest_here heads_here template_here read_template members_of_item some_outside element_outside judge_read judge_answer
judge_no_hour = refl

judge_no_hour_and_too_few : judge_answer Family.Integers five_after_noon (pos 40 ∷ []) (0x00 ∷ []) ≡ 17
unfolding signed int_at count_fault bounds_fault type_fault group_head head range_head leaf_head reaches of_type ended uncounted put_first then_more many closed opened elem map_read and_then numbered put_item then_items clashes member item items contents body_here sheet_here length_here type_here rest_here heads_here template_here read_template members_of_item some_outside element_outside judge_read judge_answer
judge_no_hour_and_too_few = refl
