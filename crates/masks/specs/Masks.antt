-- Sets of numbers as masks. A set in a contract is a test on numbers, `bit mask`.
-- bit n k       == bit k of the mask n
-- Plus P m S   <-> the set S is P with m in it
-- Flipped P k S <-> the set S is P but for k, which is in just one of them
-- Lowest w n e  <-> e is the least number in the mask n, of w bits
-- Highest w n e <-> e is the greatest number in the mask n, of w bits
-- Meets a b r  <-> r says whether the masks a and b have a number in common
-- Assumes nothing: these are definitions.
use Rattle.std.specs.Prelude.{◌≡◌, Bool, true, false, not, ℕ, ◌/◌, ◌%◌, ◌^◌, ◌<◌, eqb}

unfoldable pub bit : ℕ → ℕ → Bool
bit n k = eqb (n / 2 ^ k % 2) 1

pub record Plus (P : ℕ → Bool) (m : ℕ) (S : ℕ → Bool) : Type 0 where
  pub self : S m ≡ true
  pub other : (v : ℕ) → (v ≡ m → ⊥) → S v ≡ P v

pub record Flipped (P : ℕ → Bool) (k : ℕ) (S : ℕ → Bool) : Type 0 where
  pub self : S k ≡ not (P k)
  pub other : (v : ℕ) → (v ≡ k → ⊥) → S v ≡ P v

pub record Lowest (w n e : ℕ) : Type 0 where
  pub low : e < w
  pub inside : bit n e ≡ true
  pub least : (j : ℕ) → j < e → bit n j ≡ false

pub record Highest (w n e : ℕ) : Type 0 where
  pub low : e < w
  pub inside : bit n e ≡ true
  pub greatest : (j : ℕ) → e < j → bit n j ≡ false

pub record Meets (a b : ℕ) (r : Bool) : Type 0 where
  pub some : r ≡ true → (v : ℕ) × (bit a v ≡ true) × (bit b v ≡ true)
  pub none : r ≡ false → (v : ℕ) → bit a v ≡ true → bit b v ≡ true → ⊥
