-- Records of element templates only.
-- Plain count vs <-> the first `count` blocks whose numbers are vs are one member each and no spare element, and their members are 0, 1 and so on
-- up_from m k == the k numbers from m on
-- Assumes nothing: these are definitions.
use Rattle.std.specs.Prelude.{◌≡◌, List, [], ◌∷◌, ℕ, zero, suc, ◌<◌, get_or}
use Rattle.blocks.specs.Numbers.{block, block_in}

pub record Plain (count : ℕ) (vs : List ℕ) : Type 0 where
  pub at : (j : ℕ) → j < count → block_in (get_or vs j 0) ≡ block j 1 0 0

unfoldable pub up_from : ℕ → ℕ → List ℕ
up_from m zero = []
up_from m (suc k) = m ∷ up_from (suc m) k
