-- What is known of the blocks so far, from the last one on. `ok m e` says that member m matches element e of n.
-- Below k bs       <-> the members of each block are below k
-- Sound ok n rows  <-> whoever stands in the row of an element matches it
-- Joined ok n b before after <-> where the rows `before` are sound the rows `after` are too; they have whom `before` has, and of a block that is not one member all members
-- Before ok n b good before after r <-> b is joined to the rows, and where the rows `before` are sound the mask r has the places from which b leads to one of `good`
-- left_out b == how many blocks, of which b is the first, the way back leaves out: b, where it is a group
-- Assumes nothing: these are definitions.
use Rattle.std.specs.Prelude.{◌≡◌, Bool, true, false, cond, List, [], ◌∷◌, ℕ, ◌+◌, ◌≤◌, ◌<◌, length}
use Rattle.facts.specs.Counting.{between}
use Rattle.rows.specs.Rows.{may}
use Rattle.blocks.specs.declared.Block.{Block}
use Rattle.places.specs.Ways.{Back}
use Rattle.blocks.specs.Pieces.{is_one}
use Rattle.fronts.specs.Given.{is_group}

unfoldable pub Below : ℕ → List Block → Type 0
Below k [] = Unit {0}
Below k (b ∷ bs) = (b.first + b.k ≤ k) × Below k bs

pub record Sound (ok : ℕ → ℕ → Bool) (n : ℕ) (rows : List ℕ) : Type 0 where
  pub right : (m e : ℕ) → e < n → may rows m e ≡ true → ok m e ≡ true

pub record Joined (ok : ℕ → ℕ → Bool) (n : ℕ) (b : Block) (before after : List ℕ) : Type 0 where
  pub size : length after ≡ 32
  pub kept : (m e : ℕ) → e < n → may before m e ≡ true → may after m e ≡ true
  pub sound : Sound ok n before → Sound ok n after
  pub group : is_one b ≡ false → (m e : ℕ) → between b.first (b.first + b.k) m ≡ true → e < n → ok m e ≡ true → may after m e ≡ true

pub record Before (ok : ℕ → ℕ → Bool) (n : ℕ) (b : Block) (good : ℕ) (before after : List ℕ) (r : ℕ) : Type 0 where
  pub rows : Joined ok n b before after
  pub back : Sound ok n before → Back ok b good r

unfoldable pub left_out : Block → ℕ
left_out b = cond (is_group b) 1 0
