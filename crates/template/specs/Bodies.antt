-- What a scan notes of the items of a body.
-- block_count kind n  == how many blocks a body of this kind with n items has: one for each item of a record of, else one
-- group_body kind g   == the set of, superset or subset of this kind with the items g
-- BodyNotes f t kind n members numbers places b <-> of the body b: its kind, how many blocks it has and which (after them stands 0), how many members
--                       it has, and where they stand
-- RecordNotes f t n members numbers places is <-> this of the record of with the items is; SetNotes f t kind n members numbers places g <-> of group_body kind g
-- Assumes nothing: these are definitions.
use Rattle.std.specs.Prelude.{◌≡◌, cond, List, ◌++◌, ℕ, ◌-◌, eqb, length, take, replicate}
use Rattle.blocks.specs.Numbers.{numbers_of, blocks_in}
use Rattle.grammar.specs.Template.{Group, Item, Body, record_of, set_of, superset, subset, members_of_group, members_of}
use Rattle.format.specs.declared.Family.{Family}
use Rattle.grammar.specs.Family.{LeafOf}
use Rattle.grammar.specs.Blocks.{blocks_of, body_kind, Standing}

abbrev pub block_count : ℕ → ℕ → ℕ
block_count kind n = cond (eqb kind 0x10) n 1

unfoldable pub group_body : {L : Type 0} → ℕ → Group L → Body L
group_body kind g = cond (eqb kind 0x11) (set_of g) (cond (eqb kind 0x12) (superset (members_of_group g)) (subset (members_of_group g)))

pub record BodyNotes (f : Family) (t : List ℕ) (kind n members : ℕ) (numbers places : List ℕ) (b : Body (LeafOf f)) : Type 0 where
  pub named : kind ≡ body_kind b
  pub count : block_count kind n ≡ length (blocks_of b)
  pub cut : blocks_in (take (block_count kind n) numbers) ≡ blocks_of b
  pub stored : numbers ≡ numbers_of (blocks_of b) ++ replicate (32 - block_count kind n) 0
  pub size : members ≡ length (members_of b)
  pub stands : Standing f t (members_of b) (take members places)

abbrev pub RecordNotes : (f : Family) → List ℕ → ℕ → ℕ → List ℕ → List ℕ → List (Item (LeafOf f)) → Type 0
RecordNotes f t n members numbers places is = BodyNotes f t 0x10 n members numbers places (record_of is)

abbrev pub SetNotes : (f : Family) → List ℕ → ℕ → ℕ → ℕ → List ℕ → List ℕ → Group (LeafOf f) → Type 0
SetNotes f t kind n members numbers places g = BodyNotes f t kind n members numbers places (group_body kind g)
