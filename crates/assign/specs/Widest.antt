-- As many members as can be: what the contracts of `widest_assignment` and of src/widest.rt cite.
-- Closed may first k from to w D <-> D is a set of members of the block, and every element of the piece that one of them may take is held by one of them
-- Widest may first k from to w U <-> w is an assignment of the piece by the members of the block that are not in U, and those of U, who wait, lie in a
--   closed set: so no list serves more members
-- Assumes nothing.
use Rattle.std.specs.Prelude.{◌≡◌, Bool, true, List, ℕ, ◌+◌}
use Rattle.facts.specs.Counting.{between}
use Rattle.chains.specs.Chain.{Owned}
use Rattle.refining.specs.AsBytes.{Partly}

pub record Closed (may : ℕ → ℕ → Bool) (first k from to : ℕ) (w : List ℕ) (D : ℕ → Bool) : Type 0 where
  pub inside : (v : ℕ) → D v ≡ true → between first (first + k) v ≡ true
  pub owned : (v e : ℕ) → D v ≡ true → between from to e ≡ true → may v e ≡ true → Owned D w e

pub record Widest (may : ℕ → ℕ → Bool) (first k from to : ℕ) (w : List ℕ) (U : ℕ → Bool) : Type 0 where
  pub partly : Partly may first k from to w U
  pub dead : ℕ → Bool
  pub around : (v : ℕ) → U v ≡ true → dead v ≡ true
  pub closed : Closed may first k from to w dead
