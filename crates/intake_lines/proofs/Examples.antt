-- The examples of the program (docs/RULES.md, "The program", and its corners), computed on the definition of the output. Assumes nothing.
use mathlib.Core.Path.{◌≡◌, refl}
use mathlib.Core.List.{List, [], ◌∷◌}
use mathlib.Core.Bool.{Bool, true, false, ◌&&◌}
use Prim.Native.Nat.{ℕ}
use lib.Dec.{eqb}
use Rattle.integers.specs.Integer.{signed, int_at}
use Rattle.facts.specs.Counting.{between, cnt}
use Rattle.blocks.specs.Assignment.{all_once}
use Rattle.grammar.specs.Template.{plainly, members_of_group, members_of_item, members_of_items, members_of}
use Rattle.grammar.specs.Record.{count_fault, bounds_fault, type_fault, group_head, head}
use Rattle.grammar.specs.Family.{some_outside}
use Rattle.grammar.specs.Leaf.{single_head, range_head, leaf_head, reaches, of_type}
use Rattle.grammar.specs.Read.{verdict, ended, map_read, and_then}
use Rattle.grammar.specs.Reading.{uncounted, put_first, then_more, many, closed, too_deep, opened, elem}
use Rattle.grammar.specs.Whole.{star_here, numbered, put_member, then_members, then_star, put_item, then_items, clashes, member, members, permutation_here, item, items, contents, body_here, sheet_here, length_here, type_here, rest_here, heads_here, template_here, read_template}
use Rattle.grammar.specs.Matches.{matches_by, leaf_matches}
use Rattle.grammar.specs.Members.{member_hits}
use Rattle.matching.specs.Obeys.{right_bytes, none_twice, all_spare, within_block, star_met, group_takes, item_takes, some_cut, cuts, body_met, length_met, obeys_by}
use Rattle.matching.specs.Search.{put, or_else, try_each, first_of, from, members_count, first_witness}
use Rattle.matching.specs.Answer.{written, element_outside, match_read, match_answer}
use Rattle.lines.specs.Line.{digits_by, decimal, space_then, spaced, line}
use Rattle.stream.specs.Input.{record_fault, put_integer, integers, list_fault, list_here, reached}
use Rattle.intake_lines.specs.Output.{answered, list_line, turned, turn, follow, lines_by, lines_from, started, output}

data Row : Type 0 where
  row : List ℕ → List ℕ → Row

same_bytes : List ℕ → List ℕ → Bool
same_bytes [] [] = true
same_bytes [] (b ∷ w) = false
same_bytes (a ∷ v) [] = false
same_bytes (a ∷ v) (b ∷ w) = eqb a b && same_bytes v w

right : List Row → Bool
right [] = true
right (row s l ∷ rows) = same_bytes (output s) l && right rows

examples : List Row
examples =
    row (80 ∷ 8 ∷ 0 ∷ 16 ∷ 2 ∷ 1 ∷ 1 ∷ 0 ∷ 0 ∷ 0 ∷ 3 ∷ 64 ∷ 2 ∷ 1 ∷ 1 ∷ 0 ∷ 0 ∷ 0 ∷ 1 ∷ 7 ∷ 0 ∷ 0 ∷ 0 ∷ 64 ∷ 1 ∷ 1 ∷ 1 ∷ 0 ∷ 0 ∷ 0 ∷ []) (49 ∷ 32 ∷ 48 ∷ 32 ∷ 50 ∷ 32 ∷ 48 ∷ 32 ∷ 49 ∷ 10 ∷ 50 ∷ 32 ∷ 49 ∷ 32 ∷ 49 ∷ 10 ∷ []) ∷  -- the first two lists of the example in docs/RULES.md, "The program"
    row ([]) (48 ∷ 32 ∷ 51 ∷ 32 ∷ 48 ∷ 10 ∷ []) ∷  -- no bytes
    row (81 ∷ []) (48 ∷ 32 ∷ 52 ∷ 32 ∷ 48 ∷ 10 ∷ []) ∷  -- another first kind
    row (80 ∷ 5 ∷ 0 ∷ 255 ∷ []) (48 ∷ 32 ∷ 51 ∷ 32 ∷ 48 ∷ 10 ∷ []) ∷  -- missing bytes win over a fault in the bytes that are there
    row (80 ∷ 2 ∷ 0 ∷ []) (48 ∷ 32 ∷ 51 ∷ 32 ∷ 48 ∷ 10 ∷ []) ∷  -- the template is missing
    row (80 ∷ 0 ∷ 0 ∷ 64 ∷ []) (48 ∷ 32 ∷ 51 ∷ 32 ∷ 48 ∷ 10 ∷ []) ∷  -- an empty template, before the list is read
    row (80 ∷ 3 ∷ 0 ∷ 16 ∷ 0 ∷ 255 ∷ []) (48 ∷ 32 ∷ 49 ∷ 48 ∷ 32 ∷ 48 ∷ 10 ∷ []) ∷  -- the template's own refusal
    row (80 ∷ 2 ∷ 0 ∷ 16 ∷ 0 ∷ 64 ∷ []) (49 ∷ 32 ∷ 51 ∷ 32 ∷ 48 ∷ 10 ∷ []) ∷  -- the byte n is missing
    row (80 ∷ 2 ∷ 0 ∷ 16 ∷ 0 ∷ 64 ∷ 33 ∷ []) (49 ∷ 32 ∷ 49 ∷ 49 ∷ 32 ∷ 48 ∷ 10 ∷ []) ∷  -- n over 32 is decided at the byte n
    row (80 ∷ 2 ∷ 0 ∷ 16 ∷ 0 ∷ []) ([]) ∷  -- no lists, no lines
    row (80 ∷ 2 ∷ 0 ∷ 16 ∷ 0 ∷ 64 ∷ 0 ∷ 0 ∷ []) (49 ∷ 32 ∷ 48 ∷ 32 ∷ 48 ∷ 10 ∷ 50 ∷ 32 ∷ 52 ∷ 32 ∷ 48 ∷ 10 ∷ []) ∷  -- a stray byte after a list is the next list's kind
    row (80 ∷ 2 ∷ 0 ∷ 16 ∷ 0 ∷ 64 ∷ 1 ∷ 2 ∷ []) (49 ∷ 32 ∷ 52 ∷ 32 ∷ 48 ∷ 10 ∷ []) ∷  -- a wrong kind in a list
    row (80 ∷ 2 ∷ 0 ∷ 16 ∷ 0 ∷ 64 ∷ 1 ∷ 1 ∷ 0 ∷ 0 ∷ []) (49 ∷ 32 ∷ 51 ∷ 32 ∷ 48 ∷ 10 ∷ []) ∷  -- missing bytes in a list
    row (80 ∷ 12 ∷ 0 ∷ 49 ∷ 0 ∷ 0 ∷ 0 ∷ 0 ∷ 23 ∷ 0 ∷ 0 ∷ 0 ∷ 16 ∷ 1 ∷ 3 ∷ 64 ∷ 1 ∷ 1 ∷ 40 ∷ 0 ∷ 0 ∷ 0 ∷ 64 ∷ 1 ∷ 1 ∷ 12 ∷ 0 ∷ 0 ∷ 0 ∷ []) (49 ∷ 32 ∷ 49 ∷ 55 ∷ 32 ∷ 49 ∷ 10 ∷ 50 ∷ 32 ∷ 48 ∷ 32 ∷ 49 ∷ 32 ∷ 48 ∷ 10 ∷ []) ∷  -- a list with a 40 among hours 0 to 23 is refused, and the next one is read
    []

examples_right : right examples ≡ true
unfolding right same_bytes examples signed int_at between cnt all_once members_of_group members_of_item members_of_items members_of count_fault bounds_fault type_fault group_head head single_head range_head leaf_head reaches of_type verdict ended uncounted put_first then_more many closed too_deep opened elem map_read star_here numbered put_member then_members then_star put_item then_items clashes member members permutation_here item items contents body_here sheet_here length_here type_here rest_here heads_here and_then template_here read_template matches_by leaf_matches member_hits right_bytes none_twice all_spare within_block star_met group_takes item_takes some_cut cuts body_met length_met plainly obeys_by put or_else try_each first_of from members_count first_witness written some_outside element_outside match_read match_answer digits_by decimal space_then spaced line record_fault put_integer integers list_fault list_here reached answered list_line turned turn follow lines_by lines_from started output
examples_right = refl
