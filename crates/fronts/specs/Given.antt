-- What the first cut is made of. `rows` says which member may take which element, for the members of groups only; `ends` has for each block the places from which the blocks after it
-- can go on to the end. Blocks are read of lent numbers, `lent count vs`.
-- Ready may rows b ends Q n <-> b leads from each of the places Q to one of the ends, which are at most n; and `may` says of b's members what the rows say, where b is not one member
-- ReadyFor rows b ends Q <-> the same for some relation, and some n up to 32
-- Told may rows count vs n <-> the rows say of the members of each block that is not one member what `may` says
-- Known may rows count vs ends n <-> the rows tell of the groups, and the ends are the places from which the blocks after each go on
-- KnownFor rows count vs ends n <-> the same for some relation
-- Prepares may rows count vs ends n <-> the same, and the blocks have a cut
-- Prepared rows count vs ends n <-> the same for some relation
-- Halfway may rows count vs ends n j Q l w <-> the rows tell of the groups, the ends are those places, and the blocks before j are settled (`Underway`)
-- HalfwayFor rows count vs ends n j Q l w <-> the same for some relation
-- is_group b == b has members, and is not one member alone
-- Assumes nothing: these are definitions.
use Rattle.std.specs.Prelude.{◌≡◌, Bool, false, not, ◌&&◌, List, ℕ, suc, ◌≤◌, ◌<◌, eqb, get_or, drop}
use Rattle.rows.specs.Rows.{may as may_rows}
use Rattle.blocks.specs.declared.Block.{Block}
use Rattle.blocks.specs.Numbers.{block_in}
use Rattle.blocks.proofs.LentBlocks.{lent}
use Rattle.places.specs.Ways.{Way, Ways, Low, Agrees}
use Rattle.blocks.specs.Pieces.{is_one}
use Rattle.fronts.specs.Fronts.{Leading, Underway}

pub record Ready (may : ℕ → ℕ → Bool) (rows : List ℕ) (b : Block) (ends Q n : ℕ) : Type 0 where
  pub leading : Leading may b ends Q
  pub told : is_one b ≡ false → Agrees (may_rows rows) may b n
  pub low : Low ends n

pub record ReadyFor (rows : List ℕ) (b : Block) (ends Q : ℕ) : Type 0 where
  pub may : ℕ → ℕ → Bool
  pub n : ℕ
  pub high : n ≤ 32
  pub ready : Ready may rows b ends Q n

pub record Told (may : ℕ → ℕ → Bool) (rows : List ℕ) (count : ℕ) (vs : List ℕ) (n : ℕ) : Type 0 where
  pub at : (j : ℕ) → j < count → is_one (block_in (get_or vs j 0)) ≡ false → Agrees (may_rows rows) may (block_in (get_or vs j 0)) n

pub record Known (may : ℕ → ℕ → Bool) (rows : List ℕ) (count : ℕ) (vs ends : List ℕ) (n : ℕ) : Type 0 where
  pub told : Told may rows count vs n
  pub ways : (j : ℕ) → j < count → Ways may (drop (suc j) (lent count vs)) n (get_or ends j 0)

pub record KnownFor (rows : List ℕ) (count : ℕ) (vs ends : List ℕ) (n : ℕ) : Type 0 where
  pub may : ℕ → ℕ → Bool
  pub known : Known may rows count vs ends n

pub record Prepares (may : ℕ → ℕ → Bool) (rows : List ℕ) (count : ℕ) (vs ends : List ℕ) (n : ℕ) : Type 0 where
  pub known : Known may rows count vs ends n
  pub start : Way may (lent count vs) 0 n

pub record Prepared (rows : List ℕ) (count : ℕ) (vs ends : List ℕ) (n : ℕ) : Type 0 where
  pub may : ℕ → ℕ → Bool
  pub prepares : Prepares may rows count vs ends n

pub record Halfway (may : ℕ → ℕ → Bool) (rows : List ℕ) (count : ℕ) (vs ends : List ℕ) (n j Q l : ℕ) (w : List ℕ) : Type 0 where
  pub known : Known may rows count vs ends n
  pub underway : Underway may (lent count vs) (drop j (lent count vs)) n Q l w

pub record HalfwayFor (rows : List ℕ) (count : ℕ) (vs ends : List ℕ) (n j Q l : ℕ) (w : List ℕ) : Type 0 where
  pub may : ℕ → ℕ → Bool
  pub halfway : Halfway may rows count vs ends n j Q l w

unfoldable pub is_group : Block → Bool
is_group b = not (eqb b.k 0) && not (is_one b)
