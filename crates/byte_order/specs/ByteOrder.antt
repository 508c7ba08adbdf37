-- Byte order on lists of bytes, and the first list of a kind.
-- earlier a b  == a comes before b: the smaller byte at the first place where the two differ; a list that ends there comes first
-- First P w   <-> P holds of w, and of no list that comes before w
-- Joins P Q w <-> w is a list with P, followed by a list with Q
-- Assumes nothing.
use Rattle.std.specs.Prelude.{◌≡◌, Bool, true, false, ◌&&◌, ◌||◌, List, [], ◌∷◌, ◌++◌, ℕ, eqb, ltb}

unfoldable pub earlier : List ℕ → List ℕ → Bool
earlier [] [] = false
earlier [] (y ∷ ys) = true
earlier (x ∷ xs) [] = false
earlier (x ∷ xs) (y ∷ ys) = ltb x y || (eqb x y && earlier xs ys)

pub record First (P : List ℕ → Type 0) (w : List ℕ) : Type 0 where
  pub holds : P w
  pub least : (v : List ℕ) → P v → earlier v w ≡ false

pub record Joins (P Q : List ℕ → Type 0) (w : List ℕ) : Type 0 where
  pub left : List ℕ
  pub right : List ℕ
  pub whole : w ≡ left ++ right
  pub on_left : P left
  pub on_right : Q right
