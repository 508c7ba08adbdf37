-- What a plan says of the bytes of a template.
-- no_plan number   == the plan of bytes that are refused with this number: all else is 0
-- Planned f t h b p <-> the plan p says of the template of the family f with the heads h and the body b, whose bytes are t: its length bounds, the family
--                    and the type of its leaves, its kind as its sheet reads it, how many blocks it has and which (after them stands 0), how many members it has, and where they stand
-- PlanOf f t p   <-> p is the plan of the bytes t: no_plan of the refusal's number; or 0 and what Planned says
-- Which places a plan has is all that these leave open: an element template that stands twice in the bytes may be named by either place.
-- Assumes nothing: these are definitions.
use Rattle.std.specs.Prelude.{◌≡◌, List, [], ◌++◌, ℕ, ◌-◌, ◌≤◌, ◌<◌, length, take, replicate}
use Rattle.blocks.specs.Numbers.{numbers_of, blocks_in}
use Rattle.grammar.specs.Template.{Body, Heads, template, members_of}
use Rattle.format.specs.declared.Family.{Family}
use Rattle.grammar.specs.Family.{LeafOf}
use Rattle.grammar.specs.Read.{refuse, got}
use Rattle.grammar.specs.Whole.{read_template}
use Rattle.grammar.specs.Blocks.{blocks_of, kind_read, low_of, high_of, Standing}
use Rattle.sorts.specs.Sorts.{word_of}
use Rattle.plans.specs.declared.Plan.{Plan}

abbrev pub no_plan : ℕ → Plan
no_plan number = record { number = number; low = 0; high = 0; sort = record { word = 0 }; kind = 0; count = 0; members = 0; blocks = replicate 32 0; places = replicate 32 0 }

pub record Planned (f : Family) (t : List ℕ) (h : Heads) (b : Body (LeafOf f)) (p : Plan) : Type 0 where
  pub lower : p.low ≡ low_of h.length
  pub upper : p.high ≡ high_of h.length
  pub sort : p.sort.word ≡ word_of f h.lower h.upper
  pub kind : p.kind ≡ kind_read h b
  pub few_blocks : p.count ≤ 32
  pub count : p.count ≡ length (blocks_of b)
  pub cut : blocks_in (take p.count p.blocks) ≡ blocks_of b
  pub numbers : p.blocks ≡ numbers_of (blocks_of b) ++ replicate (32 - p.count) 0
  pub few_members : p.members ≤ 32
  pub size : p.members ≡ length (members_of b)
  pub stands : Standing f t (members_of b) (take p.members p.places)

pub data PlanOf (f : Family) (t : List ℕ) (p : Plan) : Type 0 where
  refused_plan : (number : ℕ) → read_template f t ≡ refuse number → 0 < number → p ≡ no_plan number → PlanOf f t p
  a_plan : (h : Heads) (b : Body (LeafOf f)) → read_template f t ≡ got (template h b) [] → p.number ≡ 0 → Planned f t h b p → PlanOf f t p
