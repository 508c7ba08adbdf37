-- What a scan notes of the items it reads. `before` and `after` are the places of the members, by their numbers, as they are before a
-- scan and after it.
-- Placed f t m before es count after <-> es, with m members before them, make `count` members; `after` has the places of all of them
--                      where `before` has those of the m
-- MemberNotes f t m before after e <-> this of one member
-- StarNotes t at r st <-> st is the 20 that stands at `at`, and r the place after it
-- star_of g           == the 20 of g, if it has one
-- group_block t m count at == the block of the members from m on up to `count`, and of the 20 whose min and max stand at `at`, or of none where that is 0
-- Says number b     <-> the number is that of the block b, and b can be read back of it
-- GroupNotes f t m before number after g <-> the members of g are placed, and the number is that of its block
-- ItemNotes f t m before number after i <-> this of the item i
-- Assumes nothing: these are definitions.
use Rattle.std.specs.Prelude.{◌≡◌, cond, List, [], ◌∷◌, ◌++◌, ℕ, ◌+◌, ◌-◌, eqb, length, get_or, take}
use Rattle.grammar.specs.Element.{Elem}
use Rattle.grammar.specs.Template.{Star, star, Group, grouped, Item, members_of_group, members_of_item}
use Rattle.format.specs.declared.Family.{Family}
use Rattle.grammar.specs.Family.{LeafOf}
use Rattle.grammar.specs.Blocks.{block_of_group, block_of_item, Standing}
use Rattle.blocks.specs.Numbers.{block, number_of, block_in}
use Rattle.blocks.specs.declared.Block.{Block}

pub record Placed (f : Family) (t : List ℕ) (m : ℕ) (before : List ℕ) (es : List (Elem (LeafOf f))) (count : ℕ) (after : List ℕ) : Type 0 where
  pub counts : m + length es ≡ count
  pub stands : (es₀ : List (Elem (LeafOf f))) → Standing f t es₀ (take m before) → Standing f t (es₀ ++ es) (take count after)

abbrev pub MemberNotes : (f : Family) → List ℕ → ℕ → List ℕ → List ℕ → Elem (LeafOf f) → Type 0
MemberNotes f t m before after e = Placed f t m before (e ∷ []) (m + 1) after

pub record StarNotes (t : List ℕ) (at r : ℕ) (st : Star) : Type 0 where
  pub what : st ≡ star (get_or t (at + 1) 0) (get_or t (at + 2) 0)
  pub size : r ≡ at + 3

abbrev pub star_of : {L : Type 0} → Group L → Star
star_of (grouped es st) = st

abbrev pub group_block : List ℕ → ℕ → ℕ → ℕ → Block
group_block t m count at = cond (eqb at 0) (block m (count - m) 0 0) (block m (count - m) (get_or t at 0) (get_or t (at + 1) 0))

abbrev pub Says : ℕ → Block → Type 0
Says number b = (number ≡ number_of b) × (block_in number ≡ b)

pub record GroupNotes (f : Family) (t : List ℕ) (m : ℕ) (before : List ℕ) (number : ℕ) (after : List ℕ) (g : Group (LeafOf f)) : Type 0 where
  pub placed : Placed f t m before (members_of_group g) (m + length (members_of_group g)) after
  pub says : Says number (block_of_group m g)

pub record ItemNotes (f : Family) (t : List ℕ) (m : ℕ) (before : List ℕ) (number : ℕ) (after : List ℕ) (i : Item (LeafOf f)) : Type 0 where
  pub placed : Placed f t m before (members_of_item i) (m + length (members_of_item i)) after
  pub says : Says number (block_of_item m i)
