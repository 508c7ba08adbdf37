-- Every refusal row of docs/RULES.md, "Numbers given back", and every open point about reading, as rows computed on the definitions; and elements that match and that do not.
-- Assumes nothing.
-- Row        == a number and the bytes for which it is given; 0: accepted
-- templates, elements == the rows of whole templates, and of element templates by themselves
-- of_floats   == rows of whole templates of floats
-- typed      == rows of whole templates with a type; hours == rows of element templates among the hours 0 to 23
use mathlib.Core.Path.{◌≡◌, refl}
use mathlib.Core.List.{List, [], ◌∷◌, ◌++◌}
use mathlib.Core.Bool.{Bool, true, false, ◌&&◌}
use Prim.Native.Nat.{ℕ, zero, suc}
use lib.Dec.{eqb}
use lib.IntN.{pos}
use lib.Ieee.{of_bits, is_nan, lt}
use Rattle.format.specs.declared.Family.{Family}
use Rattle.integers.specs.Integer.{signed, int_at}
use Rattle.floats.specs.Bytes.{float_at}
use Rattle.floats.specs.Leaves.{one_fault, bounds_fault as range_fault}
use Rattle.grammar.specs.Element.{Elem, leaf, one_of, none_of, none, more}
use Rattle.grammar.specs.Template.{Body, superset, subset, any_length, sheet1, plainly, members_of_group, members_of_item}
use Rattle.grammar.specs.Record.{count_fault, bounds_fault, sheet_fault, type_fault, group_head, head}
use Rattle.grammar.specs.Leaf.{Leaf, single_head, range_head, leaf_head, single, range, reaches, of_type, typed_head}
use Rattle.grammar.specs.FloatLeaf.{one_head, float_range_head, float_head}
use Rattle.grammar.specs.Read.{verdict, ended, map_read, and_then}
use Rattle.grammar.specs.Reading.{uncounted, put_first, then_more, many, closed, too_deep, opened, elem, read_element}
use Rattle.grammar.specs.Whole.{star_here, numbered, put_member, then_members, then_star, put_item, then_items, clashes, member, members, permutation_here, item, items, contents, body_here, sheet_here, length_here, type_here, rest_here, heads_here, template_here, read_template}
use Rattle.grammar.specs.Matches.{matches_by, leaf_matches, matches}

data Row : Type 0 where
  row : ℕ → List ℕ → Row

repeat : ℕ → List ℕ → List ℕ → List ℕ
repeat zero bs s = s
repeat (suc n) bs s = bs ++ repeat n bs s

right : (List ℕ → ℕ) → List Row → Bool
right number [] = true
right number (row n s ∷ rows) = eqb (number s) n && right number rows

templates : List Row
templates =
    row 0 (0x10 ∷ 0x00 ∷ []) ∷  -- {}
    row 0 (0x10 ∷ 0x02 ∷ (0x01 ∷ 0x01 ∷ 0x00 ∷ 0x00 ∷ 0x00 ∷ (0x03 ∷ []))) ∷
    row 3 ([]) ∷  -- empty template
    row 3 (0x10 ∷ []) ∷  -- short body
    row 3 (0x10 ∷ 0x01 ∷ []) ∷
    row 3 (0x10 ∷ 0x01 ∷ 0x01 ∷ 0x00 ∷ 0x00 ∷ 0x00 ∷ []) ∷
    row 3 (0x30 ∷ []) ∷
    row 3 (0x30 ∷ 0x00 ∷ []) ∷
    row 3 (0x30 ∷ 0x00 ∷ 0x07 ∷ []) ∷
    row 3 (0x30 ∷ 0x21 ∷ []) ∷  -- a short body before its ranges
    row 3 (0x10 ∷ 0x01 ∷ 0x20 ∷ 0x21 ∷ []) ∷
    row 4 (0x06 ∷ []) ∷  -- kind
    row 4 (0x30 ∷ 0x00 ∷ 0xff ∷ 0x30 ∷ 0x00 ∷ 0xff ∷ 0x10 ∷ 0x00 ∷ []) ∷  -- a second 30
    row 4 (0x01 ∷ []) ∷
    row 4 (0x10 ∷ 0x01 ∷ 0x06 ∷ []) ∷
    row 4 (0x11 ∷ 0x01 ∷ 0x21 ∷ []) ∷  -- not allowed before its body
    row 4 (0x12 ∷ 0x01 ∷ 0x20 ∷ []) ∷
    row 4 (0x13 ∷ 0x01 ∷ 0x20 ∷ []) ∷
    row 4 (0x10 ∷ 0x01 ∷ 0x21 ∷ 0x01 ∷ 0x21 ∷ []) ∷
    row 4 (0x10 ∷ 0x01 ∷ 0x10 ∷ []) ∷
    row 5 (0x10 ∷ 0x21 ∷ []) ∷
    row 5 (0x11 ∷ 0x21 ∷ []) ∷
    row 5 (0x12 ∷ 0x00 ∷ []) ∷
    row 5 (0x13 ∷ 0x00 ∷ []) ∷
    row 5 (0x12 ∷ 0x21 ∷ []) ∷
    row 5 (0x10 ∷ 0x01 ∷ 0x21 ∷ 0x00 ∷ []) ∷
    row 5 (0x10 ∷ 0x01 ∷ 0x21 ∷ 0x21 ∷ []) ∷
    row 5 (0x10 ∷ 0x01 ∷ 0x04 ∷ 0x00 ∷ []) ∷
    row 5 (0x10 ∷ 0x01 ∷ 0x04 ∷ 0x41 ∷ []) ∷  -- n = 65 is 5, not 8
    row 5 (0x10 ∷ 0x01 ∷ 0x05 ∷ 0x41 ∷ []) ∷
    row 6 (0x30 ∷ 0x21 ∷ 0x00 ∷ 0x10 ∷ []) ∷
    row 6 (0x30 ∷ 0x00 ∷ 0x21 ∷ []) ∷
    row 6 (0x30 ∷ 0x00 ∷ 0xfe ∷ []) ∷
    row 6 (0x30 ∷ 0x05 ∷ 0x04 ∷ []) ∷
    row 6 (0x30 ∷ 0xff ∷ 0xff ∷ []) ∷  -- min 255
    row 6 (0x10 ∷ 0x01 ∷ 0x20 ∷ 0x05 ∷ 0x04 ∷ []) ∷
    row 6 (0x10 ∷ 0x01 ∷ 0x20 ∷ 0x00 ∷ 0x21 ∷ []) ∷
    row 6 (0x10 ∷ 0x01 ∷ 0x02 ∷ (0x02 ∷ 0x00 ∷ 0x00 ∷ 0x00 ∷ 0x01 ∷ 0x00 ∷ 0x00 ∷ 0x00 ∷ [])) ∷
    row 0 (0x30 ∷ 0x00 ∷ 0xff ∷ 0x10 ∷ 0x00 ∷ []) ∷
    row 0 (0x30 ∷ 0x20 ∷ 0x20 ∷ 0x11 ∷ (0x00 ∷ [])) ∷
    row 9 (0x30 ∷ 0x02 ∷ 0x07 ∷ 0x12 ∷ 0x03 ∷ []) ∷  -- row 9 at the 12 or 13 record
    row 9 (0x30 ∷ 0x02 ∷ 0x07 ∷ 0x12 ∷ 0x03 ∷ 0x06 ∷ []) ∷
    row 5 (0x30 ∷ 0x00 ∷ 0xff ∷ 0x12 ∷ 0x21 ∷ []) ∷
    row 9 (0x30 ∷ 0x00 ∷ 0x04 ∷ 0x13 ∷ 0x03 ∷ []) ∷
    row 9 (0x30 ∷ 0x00 ∷ 0xff ∷ 0x12 ∷ 0x01 ∷ []) ∷
    row 9 (0x30 ∷ 0x00 ∷ 0xff ∷ 0x13 ∷ 0x01 ∷ []) ∷
    row 0 (0x30 ∷ 0x00 ∷ 0x03 ∷ 0x13 ∷ 0x03 ∷ (repeat 3 (0x03 ∷ []) ([]))) ∷
    row 0 (0x30 ∷ 0x03 ∷ 0x07 ∷ 0x12 ∷ 0x03 ∷ (repeat 3 (0x03 ∷ []) ([]))) ∷
    row 5 (0x10 ∷ 0x02 ∷ 0x21 ∷ 0x20 ∷ (repeat 32 (0x03 ∷ []) (0x04 ∷ 0x00 ∷ []))) ∷  -- a 33rd member
    row 8 (0x10 ∷ 0x02 ∷ 0x21 ∷ 0x20 ∷ (repeat 32 (0x03 ∷ []) (0x04 ∷ 0x01 ∷ []))) ∷
    row 6 (0x10 ∷ 0x02 ∷ 0x21 ∷ 0x20 ∷ (repeat 32 (0x03 ∷ []) (0x02 ∷ 0x02 ∷ 0x00 ∷ 0x00 ∷ 0x00 ∷ 0x01 ∷ 0x00 ∷ 0x00 ∷ 0x00 ∷ []))) ∷
    row 3 (0x10 ∷ 0x02 ∷ 0x21 ∷ 0x20 ∷ (repeat 32 (0x03 ∷ []) (0x21 ∷ 0x03 ∷ []))) ∷
    row 0 (0x10 ∷ 0x02 ∷ 0x21 ∷ 0x20 ∷ (repeat 32 (0x03 ∷ []) (0x20 ∷ 0x00 ∷ 0xff ∷ []))) ∷
    row 8 (0x10 ∷ 0x02 ∷ 0x21 ∷ 0x20 ∷ (repeat 32 (0x03 ∷ []) (0x03 ∷ []))) ∷
    row 10 (0x11 ∷ 0x20 ∷ (repeat 32 (0x03 ∷ []) (0x03 ∷ []))) ∷
    row 0 (0x11 ∷ 0x20 ∷ (repeat 32 (0x03 ∷ []) ([]))) ∷
    row 0 (0x12 ∷ 0x20 ∷ (repeat 32 (0x03 ∷ []) ([]))) ∷
    row 0 (0x10 ∷ 0x02 ∷ (repeat 2 (0x03 ∷ []) ([]))) ∷
    row 0 (0x10 ∷ 0x02 ∷ (0x04 ∷ 0x40 ∷ (repeat 64 (0x03 ∷ []) (0x04 ∷ 0x40 ∷ (repeat 64 (0x03 ∷ []) ([])))))) ∷  -- two items of 64 leaves each
    row 8 (0x10 ∷ 0x01 ∷ (0x04 ∷ 0x02 ∷ 0x04 ∷ 0x40 ∷ (repeat 64 (0x03 ∷ []) (0x03 ∷ [])))) ∷  -- a 65th leaf
    row 3 (0x10 ∷ 0x01 ∷ (0x04 ∷ 0x02 ∷ 0x04 ∷ 0x40 ∷ (repeat 64 (0x03 ∷ []) (0x04 ∷ 0x01 ∷ [])))) ∷
    row 6 (0x10 ∷ 0x01 ∷ (0x04 ∷ 0x02 ∷ 0x04 ∷ 0x40 ∷ (repeat 64 (0x03 ∷ []) (0x02 ∷ 0x02 ∷ 0x00 ∷ 0x00 ∷ 0x00 ∷ 0x01 ∷ 0x00 ∷ 0x00 ∷ 0x00 ∷ [])))) ∷
    row 0 (0x10 ∷ 0x01 ∷ 0x21 ∷ 0x01 ∷ 0x20 ∷ 0x01 ∷ 0x02 ∷ []) ∷  -- a permutation whose only item is a 20
    row 0 (0x11 ∷ 0x00 ∷ []) ∷
    row 6 (0x11 ∷ 0x02 ∷ 0x20 ∷ 0x00 ∷ 0xff ∷ 0x20 ∷ 0x01 ∷ 0x00 ∷ []) ∷  -- a second 20
    row 8 (0x11 ∷ 0x03 ∷ 0x20 ∷ 0x00 ∷ 0xff ∷ 0x20 ∷ 0x00 ∷ 0xff ∷ 0x06 ∷ []) ∷
    row 0 (0x10 ∷ 0x02 ∷ 0x21 ∷ 0x01 ∷ 0x20 ∷ 0x00 ∷ 0xff ∷ 0x21 ∷ 0x01 ∷ 0x20 ∷ 0x00 ∷ 0xff ∷ []) ∷
    row 8 (0x10 ∷ 0x01 ∷ 0x21 ∷ 0x02 ∷ 0x20 ∷ 0x00 ∷ 0xff ∷ 0x20 ∷ 0x00 ∷ 0xff ∷ []) ∷
    row 0 (0x10 ∷ 0x02 ∷ 0x20 ∷ 0x00 ∷ 0xff ∷ 0x20 ∷ 0x00 ∷ 0xff ∷ []) ∷
    row 10 (0x10 ∷ 0x00 ∷ 0x03 ∷ []) ∷  -- bytes left after the template
    row 10 (0x10 ∷ 0x00 ∷ 0x10 ∷ 0x00 ∷ []) ∷
    row 7 (0x10 ∷ 0x01 ∷ (repeat 8 (0x04 ∷ 0x01 ∷ []) (0x03 ∷ []))) ∷  -- depth 9
    row 0 (0x10 ∷ 0x01 ∷ (repeat 7 (0x04 ∷ 0x01 ∷ []) (0x03 ∷ []))) ∷
    row 0 (0x10 ∷ 0x01 ∷ 0x21 ∷ 0x01 ∷ (repeat 7 (0x04 ∷ 0x01 ∷ []) (0x03 ∷ []))) ∷  -- a permutation adds no depth
    row 7 (0x10 ∷ 0x01 ∷ 0x21 ∷ 0x01 ∷ (repeat 8 (0x04 ∷ 0x01 ∷ []) (0x03 ∷ []))) ∷
    row 2 (repeat 4097 (0x03 ∷ []) ([])) ∷  -- over 4,096 bytes
    []

elements : List Row
elements =
    row 3 ([]) ∷
    row 0 (0x03 ∷ []) ∷
    row 4 (0x06 ∷ []) ∷
    row 4 (0x20 ∷ []) ∷
    row 3 (0x01 ∷ 0x00 ∷ 0x00 ∷ 0x00 ∷ []) ∷
    row 3 (0x02 ∷ 0x00 ∷ 0x00 ∷ 0x00 ∷ 0x00 ∷ 0x00 ∷ 0x00 ∷ 0x00 ∷ []) ∷
    row 5 (0x04 ∷ 0x00 ∷ []) ∷
    row 5 (0x05 ∷ 0x41 ∷ []) ∷
    row 6 (0x02 ∷ 0x02 ∷ 0x00 ∷ 0x00 ∷ 0x00 ∷ 0x01 ∷ 0x00 ∷ 0x00 ∷ 0x00 ∷ []) ∷
    row 0 (0x02 ∷ 0x01 ∷ 0x00 ∷ 0x00 ∷ 0x00 ∷ 0x01 ∷ 0x00 ∷ 0x00 ∷ 0x00 ∷ []) ∷
    row 10 (0x03 ∷ 0x03 ∷ []) ∷
    row 3 (repeat 8 (0x04 ∷ 0x01 ∷ []) ([])) ∷  -- depth
    row 4 (repeat 8 (0x04 ∷ 0x01 ∷ []) (0x20 ∷ [])) ∷
    row 3 (repeat 8 (0x04 ∷ 0x01 ∷ []) (0x01 ∷ 0x00 ∷ [])) ∷
    row 5 (repeat 8 (0x04 ∷ 0x01 ∷ []) (0x04 ∷ 0x00 ∷ [])) ∷
    row 7 (repeat 8 (0x04 ∷ 0x01 ∷ []) (0x03 ∷ [])) ∷
    row 7 (repeat 8 (0x04 ∷ 0x01 ∷ []) (0x04 ∷ 0x01 ∷ [])) ∷
    row 6 (repeat 8 (0x04 ∷ 0x01 ∷ []) (0x02 ∷ 0x02 ∷ 0x00 ∷ 0x00 ∷ 0x00 ∷ 0x01 ∷ 0x00 ∷ 0x00 ∷ 0x00 ∷ [])) ∷
    row 0 (repeat 7 (0x04 ∷ 0x01 ∷ []) (0x03 ∷ [])) ∷
    row 8 (0x04 ∷ 0x02 ∷ 0x04 ∷ 0x40 ∷ (repeat 64 (0x03 ∷ []) (0x03 ∷ []))) ∷
    row 3 (0x04 ∷ 0x02 ∷ 0x04 ∷ 0x40 ∷ (repeat 64 (0x03 ∷ []) (0x04 ∷ 0x01 ∷ []))) ∷
    row 0 (0x04 ∷ 0x40 ∷ (repeat 64 (0x03 ∷ []) ([]))) ∷
    row 0 (0x04 ∷ 0x02 ∷ 0x04 ∷ 0x20 ∷ (repeat 32 (0x03 ∷ []) (0x04 ∷ 0x20 ∷ (repeat 32 (0x03 ∷ []) ([]))))) ∷  -- 32 + 32 leaves
    row 8 (0x04 ∷ 0x02 ∷ 0x04 ∷ 0x20 ∷ (repeat 32 (0x03 ∷ []) (0x04 ∷ 0x21 ∷ (repeat 33 (0x03 ∷ []) ([]))))) ∷  -- 32 + 33 leaves
    row 2 (repeat 4097 (0x03 ∷ []) ([])) ∷
    []

templates_right : right (λ s. verdict (read_template Family.Integers s)) templates ≡ true
unfolding right repeat templates signed int_at members_of_group members_of_item count_fault bounds_fault group_head head single_head range_head leaf_head verdict ended uncounted put_first then_more many closed too_deep opened elem map_read star_here numbered put_member then_members then_star put_item then_items clashes member members permutation_here item items contents body_here sheet_here length_here type_here type_fault rest_here heads_here and_then reaches of_type template_here read_template
templates_right = refl

elements_right : right (λ s. verdict (read_element leaf_head s)) elements ≡ true
unfolding right repeat elements signed int_at count_fault group_head head single_head range_head leaf_head verdict ended uncounted put_first then_more many closed too_deep opened elem read_element
elements_right = refl

-- ---- types

bytes_of : ℕ → List ℕ → List ℕ
bytes_of n s = n ∷ 0x00 ∷ 0x00 ∷ 0x00 ∷ s

-- the hours of a day
day : List ℕ → List ℕ
day s = 0x31 ∷ bytes_of 0x00 (bytes_of 0x17 s)

typed : List Row
typed =
    row 0 (day (0x10 ∷ 0x01 ∷ 0x01 ∷ bytes_of 0x17 [])) ∷
    row 0 (day (0x10 ∷ 0x01 ∷ 0x02 ∷ bytes_of 0x00 (bytes_of 0x17 []))) ∷
    row 0 (day (0x10 ∷ 0x01 ∷ 0x03 ∷ [])) ∷
    row 0 (0x30 ∷ 0x00 ∷ 0xff ∷ day (0x10 ∷ 0x00 ∷ [])) ∷
    row 0 (0x31 ∷ bytes_of 0x07 (bytes_of 0x07 (0x10 ∷ 0x00 ∷ []))) ∷  -- a type of one integer
    row 3 (0x31 ∷ []) ∷
    row 3 (0x31 ∷ bytes_of 0x05 (0x04 ∷ 0x00 ∷ 0x00 ∷ [])) ∷
    row 3 (day []) ∷
    row 4 (day (day (0x10 ∷ 0x00 ∷ []))) ∷  -- twice
    row 4 (day (0x30 ∷ 0x00 ∷ 0xff ∷ 0x10 ∷ 0x00 ∷ [])) ∷  -- a 30 that comes too late
    row 6 (0x31 ∷ bytes_of 0x05 (bytes_of 0x03 (0x30 ∷ 0x00 ∷ 0xff ∷ 0x10 ∷ 0x00 ∷ []))) ∷  -- the earlier head's own fault comes first
    row 6 (0x30 ∷ 0x05 ∷ 0x04 ∷ 0x31 ∷ []) ∷
    row 6 (day (0x10 ∷ 0x01 ∷ 0x02 ∷ bytes_of 0x18 (bytes_of 0x00 []))) ∷  -- 6 before 16
    row 16 (day (0x10 ∷ 0x01 ∷ 0x02 ∷ 0x00 ∷ 0x00 ∷ 0x00 ∷ 0x80 ∷ bytes_of 0x05 [])) ∷  -- the least is not cut to the type
    row 16 (day (0x10 ∷ 0x01 ∷ 0x02 ∷ bytes_of 0x05 (0xff ∷ 0xff ∷ 0xff ∷ 0x7f ∷ []))) ∷
    row 16 (day (0x10 ∷ 0x02 ∷ 0x01 ∷ bytes_of 0x18 (0xff ∷ []))) ∷
    row 16 (day (0x10 ∷ 0x01 ∷ 0x05 ∷ 0x01 ∷ 0x01 ∷ bytes_of 0x18 [])) ∷
    row 16 (day (0x10 ∷ 0x01 ∷ repeat 8 (0x04 ∷ 0x01 ∷ []) (0x01 ∷ bytes_of 0x18 []))) ∷  -- 16 before 7
    row 3 (day (0x10 ∷ 0x01 ∷ repeat 8 (0x04 ∷ 0x01 ∷ []) (0x01 ∷ 0x18 ∷ 0x00 ∷ 0x00 ∷ []))) ∷
    row 9 (0x30 ∷ 0x02 ∷ 0x07 ∷ day (0x12 ∷ 0x03 ∷ 0x01 ∷ bytes_of 0x18 [])) ∷
    row 10 (day (0x10 ∷ 0x01 ∷ 0x03 ∷ 0x00 ∷ [])) ∷
    []

typed_right : right (λ s. verdict (read_template Family.Integers s)) typed ≡ true
unfolding right repeat bytes_of day typed signed int_at members_of_group members_of_item count_fault bounds_fault type_fault group_head head single_head range_head leaf_head reaches of_type verdict ended uncounted put_first then_more many closed too_deep opened elem map_read and_then star_here numbered put_member then_members then_star put_item then_items clashes member members permutation_here item items contents body_here sheet_here length_here type_here rest_here heads_here template_here read_template
typed_right = refl

-- ---- sheets

sheets : List Row
sheets =
    row 0 (0x32 ∷ 0x01 ∷ 0x13 ∷ 0x01 ∷ 0x03 ∷ []) ∷
    row 0 (0x32 ∷ 0x02 ∷ 0x10 ∷ 0x00 ∷ []) ∷
    row 0 (0x32 ∷ 0x01 ∷ 0x30 ∷ 0x00 ∷ 0xff ∷ day (0x13 ∷ 0x01 ∷ 0x03 ∷ [])) ∷  -- before a 30 and a 31, and no 9 for a subset
    row 9 (0x32 ∷ 0x02 ∷ 0x30 ∷ 0x00 ∷ 0x02 ∷ 0x13 ∷ 0x01 ∷ 0x03 ∷ []) ∷
    row 9 (0x30 ∷ 0x00 ∷ 0xff ∷ 0x13 ∷ 0x01 ∷ 0x03 ∷ []) ∷
    row 9 (0x32 ∷ 0x01 ∷ 0x30 ∷ 0x00 ∷ 0xff ∷ 0x12 ∷ 0x01 ∷ 0x03 ∷ []) ∷  -- a superset under either sheet
    row 3 (0x32 ∷ []) ∷
    row 20 (0x32 ∷ 0x00 ∷ []) ∷
    row 20 (0x32 ∷ 0x03 ∷ 0xff ∷ []) ∷  -- at its own record, before what follows
    row 3 (0x32 ∷ 0x01 ∷ []) ∷
    row 4 (0x32 ∷ 0x01 ∷ 0x32 ∷ 0x01 ∷ 0x10 ∷ 0x00 ∷ []) ∷  -- twice
    row 4 (0x30 ∷ 0x00 ∷ 0xff ∷ 0x32 ∷ 0x05 ∷ []) ∷  -- too late: its value is not looked at
    row 4 (day (0x32 ∷ 0x01 ∷ 0x10 ∷ 0x00 ∷ [])) ∷
    row 10 (0x10 ∷ 0x00 ∷ 0x32 ∷ 0x01 ∷ []) ∷
    []

sheets_right : right (λ s. verdict (read_template Family.Integers s)) sheets ≡ true
unfolding right bytes_of day sheets signed int_at members_of_group count_fault bounds_fault sheet_fault type_fault head leaf_head reaches of_type verdict ended uncounted opened elem map_read and_then numbered put_member then_members clashes member members items contents body_here sheet_here length_here type_here rest_here heads_here template_here read_template
sheets_right = refl

hours : List Row
hours =
    row 0 (0x03 ∷ []) ∷
    row 0 (0x01 ∷ bytes_of 0x17 []) ∷
    row 16 (0x01 ∷ bytes_of 0x18 []) ∷
    row 16 (0x02 ∷ bytes_of 0x00 (bytes_of 0x18 [])) ∷
    row 6 (0x02 ∷ bytes_of 0x18 (bytes_of 0x00 [])) ∷
    row 4 (day []) ∷
    []

hours_right : right (λ s. verdict (read_element (typed_head (pos 0) (pos 23)) s)) hours ≡ true
unfolding right bytes_of day hours signed int_at count_fault group_head head single_head range_head leaf_head reaches of_type verdict ended uncounted put_first then_more many closed too_deep opened elem read_element
hours_right = refl

-- sheet 1 changes subset only
under_sheet_1 : Body Leaf → Bool
under_sheet_1 b = plainly (record { sheet = sheet1; length = any_length; lower = pos 0; upper = pos 23 }) b

subset_plainly : under_sheet_1 (subset []) ≡ true
unfolding under_sheet_1 plainly
subset_plainly = refl

superset_not_plainly : under_sheet_1 (superset []) ≡ false
unfolding under_sheet_1 plainly
superset_not_plainly = refl

-- ---- floats
float_of : ℕ → ℕ → List ℕ → List ℕ
float_of low high s = 0x00 ∷ 0x00 ∷ 0x00 ∷ 0x00 ∷ 0x00 ∷ 0x00 ∷ low ∷ high ∷ s

zero_then : List ℕ → List ℕ
zero_then = float_of 0x00 0x00

one_then : List ℕ → List ℕ
one_then = float_of 0xf0 0x3f

infinity_then : List ℕ → List ℕ
infinity_then = float_of 0xf0 0x7f

nan_then : List ℕ → List ℕ
nan_then = float_of 0xf8 0x7f

of_floats : List Row
of_floats =
    row 0 (0x10 ∷ 0x02 ∷ 0x06 ∷ one_then (0x07 ∷ one_then (infinity_then []))) ∷
    row 0 (0x10 ∷ 0x01 ∷ 0x06 ∷ infinity_then []) ∷
    row 0 (0x10 ∷ 0x01 ∷ 0x07 ∷ zero_then (float_of 0x00 0x80 [])) ∷  -- 0 to minus 0
    row 3 (0x10 ∷ 0x01 ∷ 0x06 ∷ repeat 7 (0x00 ∷ []) []) ∷
    row 3 (0x10 ∷ 0x01 ∷ 0x07 ∷ repeat 15 (0x00 ∷ []) []) ∷
    row 4 (0x10 ∷ 0x01 ∷ 0x01 ∷ repeat 4 (0x00 ∷ []) []) ∷
    row 4 (day (0x10 ∷ 0x00 ∷ [])) ∷  -- no 31
    row 4 (0x31 ∷ []) ∷
    row 4 (0x10 ∷ 0x01 ∷ 0x02 ∷ repeat 8 (0x00 ∷ []) []) ∷
    row 6 (0x10 ∷ 0x01 ∷ 0x07 ∷ infinity_then (one_then [])) ∷
    row 14 (0x10 ∷ 0x01 ∷ 0x06 ∷ nan_then []) ∷
    row 14 (0x10 ∷ 0x01 ∷ 0x07 ∷ nan_then (one_then [])) ∷
    row 14 (0x10 ∷ 0x01 ∷ 0x07 ∷ one_then (nan_then [])) ∷
    row 14 (0x10 ∷ 0x01 ∷ repeat 8 (0x04 ∷ 0x01 ∷ []) (0x06 ∷ nan_then [])) ∷  -- at depth 9: 14 comes before 7
    row 7 (0x10 ∷ 0x01 ∷ repeat 8 (0x04 ∷ 0x01 ∷ []) (0x06 ∷ one_then [])) ∷
    row 10 (0x10 ∷ 0x01 ∷ 0x06 ∷ one_then (0x03 ∷ [])) ∷
    []

of_floats_right : right (λ s. verdict (read_template Family.Floats s)) of_floats ≡ true
unfolding right repeat bytes_of day float_of zero_then one_then infinity_then nan_then of_floats of_bits is_nan lt float_at one_fault range_fault one_head float_range_head float_head members_of_item count_fault group_head head verdict ended uncounted put_first then_more many closed too_deep opened elem map_read numbered put_item then_items clashes member item items contents body_here sheet_here length_here type_here rest_here heads_here and_then template_here read_template
of_floats_right = refl

-- ---- when an element matches
five : Elem Leaf
five = leaf (single (pos 5))

in_a_list : matches (one_of (more (leaf (range (pos 1) (pos 3))) (more five none))) (pos 5) ≡ true
unfolding five matches_by leaf_matches
in_a_list = refl

not_five : matches (none_of (more five none)) (pos 5) ≡ false
unfolding five matches_by leaf_matches
not_five = refl

list_in_a_complement : matches (none_of (more (one_of (more five none)) none)) (pos 5) ≡ false
unfolding five matches_by leaf_matches
list_in_a_complement = refl

ends_included : (matches (leaf (range (pos 1) (pos 3))) (pos 1) && matches (leaf (range (pos 1) (pos 3))) (pos 3)) ≡ true
unfolding matches_by leaf_matches
ends_included = refl
