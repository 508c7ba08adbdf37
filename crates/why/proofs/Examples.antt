-- What is asked of examples and which group is given, computed on the definitions by trying every group. Assumes nothing.
use mathlib.Core.Path.{◌≡◌, refl}
use mathlib.Core.List.{List, [], ◌∷◌, ◌++◌}
use mathlib.Core.Bool.{Bool, true, ◌&&◌, ◌||◌, not, cond}
use Prim.Native.Nat.{ℕ, zero, suc, ◌+◌, ◌^◌}
use lib.Dec.{eqb, leb, ltb}
use lib.ListN.{length, replicate}
use lib.IntN.{pos}
use lib.Ieee.{Float, nan, binary64, of_bits, is_nan, eq, lt, le}
use Rattle.format.specs.declared.Family.{Family}
use Rattle.integers.specs.Integer.{signed, int_at}
use Rattle.floats.specs.Bytes.{float_at}
use Rattle.floats.specs.Leaves.{one_fault, bounds_fault as float_bounds_fault, float_matches}
use Rattle.masks.specs.Masks.{bit}
use Rattle.facts.specs.Counting.{between, cnt, count, any_below}
use Rattle.blocks.specs.Assignment.{all_once, wanted}
use Rattle.grammar.specs.Template.{Template, plainly, members_of_group, members_of_item, members_of_items, members_of}
use Rattle.grammar.specs.Record.{count_fault, bounds_fault, sheet_fault, type_fault, group_head, head}
use Rattle.grammar.specs.Leaf.{single_head, range_head, leaf_head, reaches, of_type}
use Rattle.grammar.specs.FloatLeaf.{one_head, float_range_head, float_head}
use Rattle.grammar.specs.Family.{LeafOf, ElementOf, some_outside}
use Rattle.grammar.specs.Read.{Read, refuse, got, ended, map_read, and_then}
use Rattle.grammar.specs.Reading.{uncounted, put_first, then_more, many, closed, too_deep, opened, elem}
use Rattle.grammar.specs.Whole.{star_here, numbered, put_member, then_members, then_star, put_item, then_items, clashes, member, members, permutation_here, item, items, contents, body_here, sheet_here, length_here, type_here, rest_here, heads_here, template_here, read_template}
use Rattle.grammar.specs.Matches.{matches_by, leaf_matches}
use Rattle.grammar.specs.Members.{member_hits}
use Rattle.matching.specs.Obeys.{right_bytes, none_twice, all_spare, within_block, star_met, group_takes, item_takes, some_cut, cuts, body_met, length_met, obeys_by}
use Rattle.matching.specs.Search.{put, or_else, try_each, first_of, from, members_count, first_witness}
use Rattle.matching.specs.Answer.{written, element_outside, match_read, match_answer}
use Rattle.reasons.specs.Reason.{matched, size_of}
use Rattle.why.specs.Why.{pairs, Asked, of_nothing, of_groups, asked_by, asked_of, number_of}

every : ℕ → (ℕ → Bool) → Bool
every zero P = true
every (suc n) P = P n && every n P

-- the groups as masks below 2 ^ k
module _ (ok : ℕ → ℕ → Bool) (k n : ℕ) where
  is_most : ℕ → Bool
  is_most g = every (2 ^ k) (λ h. leb (size_of (bit h) + matched ok n (bit g)) (size_of (bit g) + matched ok n (bit h)))

  is_reason : ℕ → Bool
  is_reason g = is_most g && (ltb (matched ok n (bit g)) (size_of (bit g)) && every (2 ^ k) (λ h. not (is_most h) || every k (λ v. not (bit g v) || bit h v)))

is_group : Asked → ℕ → ℕ → Bool
is_group of_nothing r g = eqb g 0
is_group (of_groups ok k n) r g = cond (eqb r 1) (is_reason ok k n g) (eqb g 0)

is_read : (fam : Family) → Read (Template (LeafOf fam)) → List (ElementOf fam) → ℕ → ℕ → Bool
is_read fam (refuse q) xs r g = eqb g 0
is_read fam (got s rest) xs r g = is_group (asked_of fam s xs) r g

data Row (fam : Family) : Type 0 where
  row : List ℕ → List (ElementOf fam) → ℕ → ℕ → Row fam

right : (fam : Family) → List (Row fam) → Bool
right fam [] = true
right fam (row t xs r g ∷ rows) = eqb (number_of (match_answer fam t xs (replicate (length xs) 165))) r && (is_read fam (read_template fam t) xs r g && right fam rows)

examples : List (Row Family.Integers)
examples =
    row (18 ∷ 2 ∷ 1 ∷ 1 ∷ 0 ∷ 0 ∷ 0 ∷ 1 ∷ 1 ∷ 0 ∷ 0 ∷ 0 ∷ []) (pos 1 ∷ []) 1 3 ∷  -- superset(1, 1) on 1: both members have one element
    row (18 ∷ 3 ∷ 1 ∷ 9 ∷ 0 ∷ 0 ∷ 0 ∷ 1 ∷ 1 ∷ 0 ∷ 0 ∷ 0 ∷ 3 ∷ []) (pos 1 ∷ pos 3 ∷ []) 1 1 ∷  -- superset(9, 1, ?) on 1, 3: nothing is 9
    row (18 ∷ 3 ∷ 1 ∷ 9 ∷ 0 ∷ 0 ∷ 0 ∷ 1 ∷ 1 ∷ 0 ∷ 0 ∷ 0 ∷ 3 ∷ []) (pos 1 ∷ []) 1 7 ∷  -- the same on 1
    row (18 ∷ 1 ∷ 3 ∷ []) ([]) 1 1 ∷  -- superset(?) on the empty list
    row (18 ∷ 1 ∷ 3 ∷ []) (pos 5 ∷ []) 0 0 ∷  -- superset(?) on 5 matches
    row (19 ∷ 1 ∷ 1 ∷ 5 ∷ 0 ∷ 0 ∷ 0 ∷ []) (pos 5 ∷ pos 5 ∷ []) 1 3 ∷  -- subset(5) on 5, 5: both elements have one member
    row (19 ∷ 1 ∷ 1 ∷ 5 ∷ 0 ∷ 0 ∷ 0 ∷ []) (pos 5 ∷ pos 6 ∷ []) 1 2 ∷  -- subset(5) on 5, 6: nobody is 6
    row (50 ∷ 2 ∷ 19 ∷ 1 ∷ 1 ∷ 5 ∷ 0 ∷ 0 ∷ 0 ∷ []) (pos 6 ∷ []) 1 1 ∷  -- subset(5) under sheet 2 on 6
    row (50 ∷ 1 ∷ 19 ∷ 1 ∷ 1 ∷ 5 ∷ 0 ∷ 0 ∷ 0 ∷ []) (pos 6 ∷ []) 1 0 ∷  -- the same under sheet 1: no group
    row (50 ∷ 1 ∷ 18 ∷ 1 ∷ 3 ∷ []) ([]) 1 1 ∷  -- superset(?) under sheet 1 on the empty list
    row (16 ∷ 1 ∷ 1 ∷ 5 ∷ 0 ∷ 0 ∷ 0 ∷ []) (pos 6 ∷ []) 1 0 ∷  -- record of 5 on 6: no group
    row (17 ∷ 2 ∷ 1 ∷ 1 ∷ 0 ∷ 0 ∷ 0 ∷ 32 ∷ 0 ∷ 255 ∷ []) (pos 2 ∷ []) 1 0 ∷  -- set of (1, *) on 2: no group, though superset(1) has the same block
    row (48 ∷ 1 ∷ 1 ∷ 18 ∷ 1 ∷ 3 ∷ []) ([]) 1 0 ∷  -- superset(?) length(1) on the empty list: the length is not met
    row (48 ∷ 0 ∷ 255 ∷ 18 ∷ 1 ∷ 3 ∷ []) ([]) 9 0 ∷  -- refused
    row (18 ∷ 4 ∷ 1 ∷ 9 ∷ 0 ∷ 0 ∷ 0 ∷ 1 ∷ 8 ∷ 0 ∷ 0 ∷ 0 ∷ 1 ∷ 1 ∷ 0 ∷ 0 ∷ 0 ∷ 3 ∷ []) (pos 1 ∷ []) 1 15 ∷  -- superset(9, 8, 1, ?) on 1: {0} lacks 1, {0, 1} lack 2, all four lack 3
    row (18 ∷ 3 ∷ 1 ∷ 9 ∷ 0 ∷ 0 ∷ 0 ∷ 1 ∷ 8 ∷ 0 ∷ 0 ∷ 0 ∷ 1 ∷ 1 ∷ 0 ∷ 0 ∷ 0 ∷ []) (pos 1 ∷ []) 1 3 ∷  -- superset(9, 8, 1) on 1
    row (49 ∷ 0 ∷ 0 ∷ 0 ∷ 0 ∷ 23 ∷ 0 ∷ 0 ∷ 0 ∷ 18 ∷ 1 ∷ 1 ∷ 5 ∷ 0 ∷ 0 ∷ 0 ∷ []) (pos 6 ∷ []) 1 1 ∷  -- superset(5) of hours 0 to 23 on 6
    row (49 ∷ 0 ∷ 0 ∷ 0 ∷ 0 ∷ 23 ∷ 0 ∷ 0 ∷ 0 ∷ 18 ∷ 1 ∷ 1 ∷ 5 ∷ 0 ∷ 0 ∷ 0 ∷ []) (pos 40 ∷ []) 17 0 ∷  -- the same on 40, which is no hour: no group
    []

examples_right : right Family.Integers examples ≡ true
unfolding some_outside right is_read is_group is_reason is_most every examples bit count any_below wanted pairs asked_by asked_of signed int_at between cnt all_once members_of_group members_of_item members_of_items members_of count_fault bounds_fault sheet_fault type_fault group_head head single_head range_head leaf_head reaches of_type ended uncounted put_first then_more many closed too_deep opened elem map_read star_here numbered put_member then_members then_star put_item then_items clashes member members permutation_here item items contents body_here sheet_here length_here type_here rest_here heads_here and_then template_here read_template matches_by leaf_matches member_hits right_bytes none_twice all_spare within_block star_met group_takes item_takes some_cut cuts body_met length_met plainly obeys_by put or_else try_each first_of from members_count first_witness written element_outside match_read match_answer
examples_right = refl

-- ---- floats
abbrev minus_zero : Float
minus_zero = of_bits binary64 0x8000000000000000

abbrev one : Float
one = of_bits binary64 0x3ff0000000000000

abbrev zero_bytes : List ℕ
zero_bytes = 0x00 ∷ 0x00 ∷ 0x00 ∷ 0x00 ∷ 0x00 ∷ 0x00 ∷ 0x00 ∷ 0x00 ∷ []

abbrev one_bytes : List ℕ
one_bytes = 0x00 ∷ 0x00 ∷ 0x00 ∷ 0x00 ∷ 0x00 ∷ 0x00 ∷ 0xf0 ∷ 0x3f ∷ []

abbrev nan_bytes : List ℕ
nan_bytes = 0x00 ∷ 0x00 ∷ 0x00 ∷ 0x00 ∷ 0x00 ∷ 0x00 ∷ 0xf8 ∷ 0x7f ∷ []

float_examples : List (Row Family.Floats)
float_examples =
    row (18 ∷ 2 ∷ 6 ∷ zero_bytes ++ (6 ∷ zero_bytes)) (minus_zero ∷ []) 1 3 ∷  -- superset(0.0, 0.0) on -0.0: both members have one element
    row (18 ∷ 2 ∷ 6 ∷ one_bytes ++ (3 ∷ [])) (nan ∷ minus_zero ∷ []) 1 1 ∷  -- superset(1.0, ?) on NaN, -0.0: nothing is 1.0
    row (18 ∷ 1 ∷ 3 ∷ []) (nan ∷ []) 0 0 ∷  -- superset(?) on NaN matches
    row (18 ∷ 1 ∷ 7 ∷ zero_bytes ++ one_bytes) (minus_zero ∷ []) 0 0 ∷  -- superset(0.0 .. 1.0) on -0.0 matches
    row (19 ∷ 1 ∷ 7 ∷ zero_bytes ++ one_bytes) (one ∷ nan ∷ []) 1 2 ∷  -- subset(0.0 .. 1.0) on 1.0, NaN: nobody is a NaN
    row (18 ∷ 1 ∷ 6 ∷ nan_bytes) ([]) 14 0 ∷  -- a NaN in a template is refused
    row (18 ∷ 1 ∷ 1 ∷ 1 ∷ 0 ∷ 0 ∷ 0 ∷ []) ([]) 4 0 ∷  -- and so is a leaf of integers
    []

float_examples_right : right Family.Floats float_examples ≡ true
unfolding of_bits is_nan eq lt le float_at one_fault float_bounds_fault float_matches one_head float_range_head float_head float_examples right is_read is_group is_reason is_most every bit count any_below wanted pairs asked_by asked_of between cnt all_once members_of_group members_of_item members_of_items members_of count_fault bounds_fault group_head head ended uncounted put_first then_more many closed too_deep opened elem map_read star_here numbered put_member then_members then_star put_item then_items clashes member members permutation_here item items contents body_here sheet_here length_here type_here rest_here heads_here and_then template_here read_template matches_by member_hits right_bytes none_twice all_spare within_block star_met group_takes item_takes some_cut cuts body_met length_met plainly obeys_by put or_else try_each first_of from members_count first_witness written element_outside match_read match_answer
float_examples_right = refl
