-- Elements that every member may take: what the functions behind `first_filling` give.
-- Padded may n k padded <-> padded is may for the elements below n; the elements from n on may be taken by every member below k, and by no other
-- Assumes nothing: these are definitions.
use Rattle.std.specs.Prelude.{◌≡◌, Bool, ℕ, ◌≤◌, ◌<◌}
use Rattle.facts.specs.Counting.{between}

pub record Padded (may : ℕ → ℕ → Bool) (n k : ℕ) (padded : ℕ → ℕ → Bool) : Type 0 where
  pub own : (m e : ℕ) → e < n → padded m e ≡ may m e
  pub full : (m e : ℕ) → n ≤ e → e < 32 → padded m e ≡ between 0 k m
