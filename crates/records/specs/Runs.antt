-- Runs of 20s as one 20.
-- joinable a b <-> two blocks, one after the other, take what one block with no members takes: both have no members, and the min of each is no more than its max
-- in_one a b == that block; a list has 32 elements at most, and so 33 stands for any number above
-- SameCuts bs cs <-> the blocks bs and cs cut the same lists of 32 elements at most
-- RunsJoined k count vs r joined <-> the first r blocks of `joined` cut what the first `count` blocks of vs do, and have members below k where these have
-- Assumes nothing: these are definitions.
use Rattle.std.specs.Prelude.{Bool, ◌&&◌, List, ℕ, ◌+◌, ◌≤◌, min, eqb, leb, take}
use Rattle.blocks.specs.declared.Block.{Block}
use Rattle.blocks.specs.Numbers.{block, blocks_in}
use Rattle.blocks.specs.Pieces.{Cuts}
use Rattle.records.specs.Records.{Below}

unfoldable pub joinable : Block → Block → Bool
joinable a b = (eqb a.k 0 && eqb b.k 0) && (leb a.min a.max && leb b.min b.max)

abbrev pub in_one : Block → Block → Block
in_one a b = block a.first 0 (min (a.min + b.min) 33) (min (a.max + b.max) 33)

pub record SameCuts (bs cs : List Block) : Type 0 where
  pub there : (may : ℕ → ℕ → Bool) (from to : ℕ) (w : List ℕ) → to ≤ 32 → Cuts may bs from to w → Cuts may cs from to w
  pub back : (may : ℕ → ℕ → Bool) (from to : ℕ) (w : List ℕ) → to ≤ 32 → Cuts may cs from to w → Cuts may bs from to w

pub record RunsJoined (k count : ℕ) (vs : List ℕ) (r : ℕ) (joined : List ℕ) : Type 0 where
  pub few : r ≤ 32
  pub below : Below k (blocks_in (take r joined))
  pub same : SameCuts (blocks_in (take count vs)) (blocks_in (take r joined))
