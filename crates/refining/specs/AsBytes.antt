-- Assignments as 32 bytes.
-- fits may first k from to m e <-> m is in the block, e in the piece, and m may take e (a test)
-- Partly may first k from to w U <-> w is an assignment of the piece by the members of the block that are not in U, with 255 at all other places; those of U,
--   who are of the block, stand nowhere
-- Dealt may first k from to w  <-> w is an assignment of the piece with 255 at all other places
-- Assumes nothing: these are definitions.
use Rattle.std.specs.Prelude.{◌≡◌, ◌⊎◌, Bool, true, false, ◌&&◌, List, ℕ, ◌+◌, ◌≤◌, ◌<◌, length, get_or}
use Rattle.facts.specs.Counting.{between, cnt}
use Rattle.chains.specs.Chain.{within}

unfoldable pub fits : (ℕ → ℕ → Bool) → ℕ → ℕ → ℕ → ℕ → ℕ → ℕ → Bool
fits may first k from to m e = between first (first + k) m && within may from to m e

pub record Partly (may : ℕ → ℕ → Bool) (first k from to : ℕ) (w : List ℕ) (U : ℕ → Bool) : Type 0 where
  pub size : length w ≡ 32
  pub right : (e : ℕ) → e < 32 → (get_or w e 0 ≡ 255) ⊎ (fits may first k from to (get_or w e 0) e ≡ true)
  pub once : (m : ℕ) → between first (first + k) m ≡ true → U m ≡ false → cnt m w ≡ 1
  pub waits : (m : ℕ) → U m ≡ true → (between first (first + k) m ≡ true) × (cnt m w ≡ 0)

pub record Dealt (may : ℕ → ℕ → Bool) (first k from to : ℕ) (w : List ℕ) : Type 0 where
  pub size : length w ≡ 32
  pub right : (e : ℕ) → e < 32 → (get_or w e 0 ≡ 255) ⊎ (fits may first k from to (get_or w e 0) e ≡ true)
  pub once : (m : ℕ) → first ≤ m → m < first + k → cnt m w ≡ 1
