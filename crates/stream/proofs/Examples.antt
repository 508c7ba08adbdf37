-- What is reached in an input, and its lists, computed on the definitions. Assumes nothing.
use mathlib.Core.Path.{◌≡◌, refl}
use mathlib.Core.List.{[], ◌∷◌}
use lib.IntN.{pos, negsuc}
use Rattle.integers.specs.Integer.{signed, int_at}
use Rattle.grammar.specs.Record.{count_fault, bounds_fault, group_head, head}
use Rattle.grammar.specs.Leaf.{single_head, range_head, leaf_head}
use Rattle.grammar.specs.Read.{refuse, got, verdict, ended, map_read, and_then}
use Rattle.grammar.specs.Reading.{uncounted, put_first, then_more, many, closed, too_deep, opened, elem}
use Rattle.grammar.specs.Whole.{star_here, numbered, put_member, then_members, then_star, put_item, then_items, clashes, member, members, permutation_here, item, items, contents, body_here, sheet_here, length_here, type_here, rest_here, heads_here, template_here, read_template}
use Rattle.stream.specs.Input.{record_fault, put_integer, integers, list_fault, list_here, reached}

-- a list of two integers, and a byte after it
list_read : list_here (64 ∷ 2 ∷ 1 ∷ 7 ∷ 0 ∷ 0 ∷ 0 ∷ 1 ∷ 255 ∷ 255 ∷ 255 ∷ 255 ∷ 9 ∷ []) ≡ got (pos 7 ∷ negsuc 0 ∷ []) (9 ∷ [])
unfolding signed int_at record_fault put_integer integers list_fault list_here
list_read = refl

-- where the bytes have ended they are missing, and of no wrong kind
nothing_is_missing : list_here [] ≡ refuse 3
unfolding record_fault put_integer integers list_fault list_here
nothing_is_missing = refl

-- the byte n decides: no record of the list is there
count_decides : list_here (64 ∷ 33 ∷ []) ≡ refuse 11
unfolding record_fault put_integer integers list_fault list_here
count_decides = refl

-- a template that is accepted, and a list after it
template_reached : reached (80 ∷ 2 ∷ 0 ∷ 16 ∷ 0 ∷ 64 ∷ 0 ∷ []) ≡ got (16 ∷ 0 ∷ []) (64 ∷ 0 ∷ [])
unfolding signed int_at count_fault bounds_fault group_head head single_head range_head leaf_head verdict ended uncounted put_first then_more many closed too_deep opened elem map_read star_here numbered put_member then_members then_star put_item then_items clashes member members permutation_here item items contents body_here sheet_here length_here type_here rest_here heads_here and_then template_here read_template record_fault reached
template_reached = refl

-- the template's own refusal, before the list is looked at
template_refused : reached (80 ∷ 3 ∷ 0 ∷ 16 ∷ 0 ∷ 255 ∷ 64 ∷ 0 ∷ []) ≡ refuse 10
unfolding signed int_at count_fault bounds_fault group_head head single_head range_head leaf_head verdict ended uncounted put_first then_more many closed too_deep opened elem map_read star_here numbered put_member then_members then_star put_item then_items clashes member members permutation_here item items contents body_here sheet_here length_here type_here rest_here heads_here and_then template_here read_template record_fault reached
template_refused = refl
