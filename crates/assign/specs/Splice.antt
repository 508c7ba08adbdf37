-- The bytes of two lists put together.
-- Spliced a b from to r <-> r is b with the bytes from .. to - 1 of a
-- Assumes nothing: these are definitions.
use Rattle.std.specs.Prelude.{◌≡◌, List, ℕ, ◌≤◌, ◌<◌, length, get_or}

pub record Spliced (a b : List ℕ) (from to : ℕ) (r : List ℕ) : Type 0 where
  pub size : length r ≡ 32
  pub inside : (i : ℕ) → from ≤ i → i < to → get_or r i 0 ≡ get_or a i 0
  pub before : (i : ℕ) → i < from → get_or r i 0 ≡ get_or b i 0
  pub after : (i : ℕ) → to ≤ i → get_or r i 0 ≡ get_or b i 0
