-- The least free member for each element in turn: what the contract of src/quick.rt cites.
-- Greedy may first k from to w U e <-> w is an assignment by the members of the block that are not in U, and every assignment is as w before e, or
--   comes later for a place before e
-- Assumes nothing.
use Rattle.std.specs.Prelude.{◌⊎◌, Bool, List, ℕ}
use Rattle.refining.specs.AsBytes.{Partly, Dealt}
use Rattle.refining.specs.Refine.{Agrees, Sooner}

pub record Greedy (may : ℕ → ℕ → Bool) (first k from to : ℕ) (w : List ℕ) (U : ℕ → Bool) (e : ℕ) : Type 0 where
  pub partly : Partly may first k from to w U
  pub leads : (a : List ℕ) → Dealt may first k from to a → Agrees a w e ⊎ Sooner w a e
