-- The definitions on small examples: a length attribute, hours 0 to 23 and a set of {?, 1}, and bytes that are refused. Assumes nothing.
use mathlib.Core.Path.{refl}
use mathlib.Core.List.{List, [], ◌∷◌}
use Prim.Native.Nat.{ℕ}
use native.Mathlib.Omega.{arith}
use lib.ListN.{length, replicate}
use Rattle.integers.specs.Integer.{signed, int_at}
use Rattle.blocks.specs.Numbers.{number_of, block_in, numbers_of, blocks_in}
use Rattle.format.specs.declared.Family.{Family}
use Rattle.grammar.specs.Element.{leaf}
use Rattle.grammar.specs.Leaf.{single, any, single_head, leaf_head, reaches, of_type}
use Rattle.grammar.specs.Record.{count_fault, bounds_fault, type_fault, group_head, head}
use Rattle.grammar.specs.Read.{ended, map_read, and_then}
use Rattle.grammar.specs.Reading.{uncounted, opened, elem}
use Rattle.grammar.specs.Template.{no_star, grouped, set_of, between, sheet2, plainly, members_of_group, members_of}
use Rattle.grammar.specs.Whole.{clashes, numbered, put_member, then_members, member, members, contents, body_here, sheet_here, length_here, type_here, rest_here, heads_here, template_here, read_template}
use Rattle.grammar.specs.Blocks.{block_of_group, blocks_of, body_kind, kind_read, Standing}
use Rattle.plans.specs.Plans.{PlanOf, refused_plan, a_plan}
use Rattle.plans.specs.declared.Plan.{Plan}

bytes : List ℕ
bytes = 0x30 ∷ 1 ∷ 3 ∷ 0x31 ∷ 0 ∷ 0 ∷ 0 ∷ 0 ∷ 23 ∷ 0 ∷ 0 ∷ 0 ∷ 0x11 ∷ 2 ∷ 0x03 ∷ 0x01 ∷ 1 ∷ 0 ∷ 0 ∷ 0 ∷ []

plan : Plan
plan = record { number = 0; low = 1; high = 3; sort = record { word = 23 }; kind = 0x11; count = 1; members = 2; blocks = 512 ∷ replicate 31 0; places = 14 ∷ 15 ∷ replicate 30 0 }

set_planned : PlanOf Family.Integers bytes plan
unfolding bytes plan read_template template_here heads_here sheet_here length_here type_here rest_here type_fault and_then of_type reaches body_here contents members member numbered then_members put_member elem opened head group_head leaf_head single_head bounds_fault count_fault clashes uncounted ended map_read int_at signed blocks_of block_of_group body_kind kind_read plainly members_of members_of_group number_of block_in numbers_of blocks_in Standing
set_planned =
    a_plan (record { sheet = sheet2; length = between 1 3; lower = lib.IntN.pos 0; upper = lib.IntN.pos 23 }) (set_of (grouped (leaf any ∷ leaf (single (lib.IntN.pos 1)) ∷ []) no_star)) refl refl
    (record {
      lower = refl;
      upper = refl;
      sort = refl;
      kind = refl;
      few_blocks = omega arith;
      count = refl;
      cut = refl;
      numbers = refl;
      few_members = omega arith;
      size = refl;
      stands = (record { inside = omega arith; leaves = 1; rest = 0x01 ∷ 1 ∷ 0 ∷ 0 ∷ 0 ∷ []; reads = refl }, (record { inside = omega arith; leaves = 1; rest = []; reads = refl }, tt));
    })

-- the empty template is refused with 3, and all else in its plan is 0
plan_of_none : Plan
plan_of_none = record { number = 3; low = 0; high = 0; sort = record { word = 0 }; kind = 0; count = 0; members = 0; blocks = replicate 32 0; places = replicate 32 0 }

none_planned : (fam : Family) → PlanOf fam [] plan_of_none
unfolding plan_of_none read_template template_here heads_here sheet_here length_here type_here rest_here and_then body_here ended
none_planned Family.Integers = refused_plan 3 refl (omega arith) refl
none_planned Family.Floats = refused_plan 3 refl (omega arith) refl
