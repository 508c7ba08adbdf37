-- Numbers of a span, and counting: in lists, and in sets of numbers, which are tests.
-- between a b i == i is one of a .. b - 1
-- one_if t       == 1 where t holds, else 0
-- cnt v w       == how many places of the list w hold v
-- count P n     == how many numbers below n are in the set P
-- total f n     == f 0 + .. + f (n - 1)
-- only_if t k    == k where t holds, else 0
-- each S n w    == the counts in w of the members of S below n, together
-- places S n w  == how many places of w hold a member of S below n
-- any_below P n  == a number below n is in the set P
-- Stands v w n <-> a place below n of the list w holds v
-- Assumes nothing: these are definitions.
use Rattle.std.specs.Prelude.{◌≡◌, Bool, true, false, ◌&&◌, ◌||◌, List, [], ◌∷◌, ℕ, zero, suc, ◌+◌, ◌<◌, eqb, leb, ltb, get_or}

unfoldable pub between : ℕ → ℕ → ℕ → Bool
between a b i = leb a i && ltb i b

abbrev pub one_if : Bool → ℕ
one_if true = 1
one_if false = 0

unfoldable pub cnt : ℕ → List ℕ → ℕ
cnt v [] = 0
cnt v (x ∷ xs) = one_if (eqb x v) + cnt v xs

unfoldable pub count : (ℕ → Bool) → ℕ → ℕ
count P zero = 0
count P (suc n) = one_if (P n) + count P n

unfoldable pub total : (ℕ → ℕ) → ℕ → ℕ
total f zero = 0
total f (suc n) = f n + total f n

unfoldable pub only_if : Bool → ℕ → ℕ
only_if true k = k
only_if false k = 0

abbrev pub each : (ℕ → Bool) → ℕ → List ℕ → ℕ
each S n w = total (λ v. only_if (S v) (cnt v w)) n

unfoldable pub places : (ℕ → Bool) → ℕ → List ℕ → ℕ
places S n [] = 0
places S n (x ∷ xs) = one_if (ltb x n && S x) + places S n xs

unfoldable pub any_below : (ℕ → Bool) → ℕ → Bool
any_below P zero = false
any_below P (suc n) = P n || any_below P n

pub record Stands (v : ℕ) (w : List ℕ) (n : ℕ) : Type 0 where
  pub place : ℕ
  pub early : place < n
  pub here : get_or w place 0 ≡ v
