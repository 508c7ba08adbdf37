-- Pieces at their places in 32 bytes, with 255 around.
-- Lone from to w <-> w has 32 bytes, and those outside from .. to - 1 are 255
-- Held may b from to w <-> the block b takes the piece from .. to - 1 of w, and all else is 255
-- AfterLast w from to r <-> of the places from .. to - 1, r is the one after the last that is not 255, or `from` where there is none
-- Assumes nothing: these are definitions.
use Rattle.std.specs.Prelude.{◌≡◌, Bool, false, List, ℕ, ◌-◌, ◌≤◌, ◌<◌, length, get_or}
use Rattle.std.proofs.Math.Seq.{slice}
use Rattle.facts.specs.Counting.{between}
use Rattle.blocks.specs.declared.Block.{Block}
use Rattle.blocks.specs.Pieces.{Takes}

pub record Lone (from to : ℕ) (w : List ℕ) : Type 0 where
  pub size : length w ≡ 32
  pub outside : (i : ℕ) → i < 32 → between from to i ≡ false → get_or w i 0 ≡ 255

pub record Held (may : ℕ → ℕ → Bool) (b : Block) (from to : ℕ) (w : List ℕ) : Type 0 where
  pub lone : Lone from to w
  pub order : from ≤ to
  pub high : to ≤ 32
  pub taken : Takes may b from to (slice from to w)

pub record AfterLast (w : List ℕ) (from to r : ℕ) : Type 0 where
  pub low : from ≤ r
  pub high : r ≤ to
  pub blank : (i : ℕ) → r ≤ i → i < to → get_or w i 0 ≡ 255
  pub last : from < r → get_or w (r - 1) 0 ≡ 255 → ⊥
