-- What `first_assignment` gives.
-- Answer may first k from to found w <-> where there is an assignment, the first in byte order, at its elements' places in w; where there is
--   none, a group that shows why; every other byte of w is 255
-- Assumes nothing: these are definitions.
use Rattle.std.specs.Prelude.{◌≡◌, Bool, true, false, List, ℕ, ◌<◌, length, get_or, replicate}
use Rattle.std.proofs.Math.Seq.{slice}
use Rattle.facts.specs.Counting.{between}
use Rattle.byte_order.specs.ByteOrder.{First}
use Rattle.blocks.specs.Assignment.{Assigns, Short}

pub record Answer (may : ℕ → ℕ → Bool) (first k from to : ℕ) (found : Bool) (w : List ℕ) : Type 0 where
  pub best : found ≡ true → First (Assigns may first k from to) (slice from to w)
  pub none : found ≡ false → (a : List ℕ) → Assigns may first k from to a → ⊥
  pub short : found ≡ false → Short may first k from to
  pub size : length w ≡ 32
  pub outside : (i : ℕ) → i < 32 → between from to i ≡ false → get_or w i 0 ≡ 255
  pub blank : found ≡ false → w ≡ replicate 32 255
