-- Sets of the places of a list as masks. A set in a contract is a test on numbers, `bit mask`.
-- Ahead places least most p  <-> one of the places lies least to most elements after p
-- Behind places least most e <-> one of the places lies least to most elements before e
-- Before places least most r <-> r has exactly the places p with `Ahead places least most p`
-- After places least most r  <-> r has exactly the places e below 64 with `Behind places least most e`
-- Assumes nothing: these are definitions.
use Rattle.std.specs.Prelude.{◌≡◌, true, ℕ, ◌+◌, ◌≤◌, ◌<◌}
use Rattle.masks.specs.Masks.{bit}

pub record Ahead (places least most p : ℕ) : Type 0 where
  pub place : ℕ
  pub here : bit places place ≡ true
  pub near : p + least ≤ place
  pub far : place ≤ p + most

pub record Behind (places least most e : ℕ) : Type 0 where
  pub place : ℕ
  pub here : bit places place ≡ true
  pub near : place + least ≤ e
  pub far : e ≤ place + most

pub record Before (places least most r : ℕ) : Type 0 where
  pub some : (p : ℕ) → bit r p ≡ true → Ahead places least most p
  pub all : (p : ℕ) → Ahead places least most p → bit r p ≡ true

pub record After (places least most r : ℕ) : Type 0 where
  pub some : (e : ℕ) → bit r e ≡ true → Behind places least most e
  pub all : (e : ℕ) → e < 64 → Behind places least most e → bit r e ≡ true
  pub low : (e : ℕ) → bit r e ≡ true → e < 64
