-- Why there is no assignment (document 02, "Say why not"). `ok v e` says that member v matches element e; there are k members and n elements.
-- With members and elements exchanged, `λ e v. ok v e`, n and k, the same definitions are those of a subset.
-- size_of G        == how many members the group G has
-- matched ok n G  == "the number of elements that at least one of a group of members matches"
-- Group k G      <-> G has members only
-- NoLess ok n G H <-> the shortfall of G, "size less that number", is at least that of H
-- Most ok k n G  <-> G is one "of the groups whose shortfall is greatest"
-- ShortGroup ok k n G <-> G is a group such that "the number of elements .. is below the group's size"
-- Reason ok k n G <-> of the groups whose shortfall is greatest, G is the one that "lies inside all the others"
-- Given ok k n r  <-> the mask r is the reason, which is short; or 0 where no group is
-- Chosen ok k n f <-> f gives each member an element that it matches, and no element to two: what an assignment is to a group
-- Assumes nothing: these are definitions.
use Rattle.std.specs.Prelude.{◌≡◌, Bool, true, ℕ, ◌+◌, ◌≤◌, ◌<◌}
use Rattle.masks.specs.Masks.{bit}
use Rattle.facts.specs.Counting.{count}
use Rattle.blocks.specs.Assignment.{joined}

abbrev pub size_of : (ℕ → Bool) → ℕ
size_of G = count G 32

abbrev pub matched : (ℕ → ℕ → Bool) → ℕ → (ℕ → Bool) → ℕ
matched ok n G = joined ok G 0 n

abbrev pub Group : ℕ → (ℕ → Bool) → Type 0
Group k G = (v : ℕ) → G v ≡ true → v < k

-- sums are compared, so that no difference is cut off at 0
abbrev pub NoLess : (ℕ → ℕ → Bool) → ℕ → (ℕ → Bool) → (ℕ → Bool) → Type 0
NoLess ok n G H = size_of H + matched ok n G ≤ size_of G + matched ok n H

pub record Most (ok : ℕ → ℕ → Bool) (k n : ℕ) (G : ℕ → Bool) : Type 0 where
  pub inside : Group k G
  pub most : (H : ℕ → Bool) → Group k H → NoLess ok n G H

pub record ShortGroup (ok : ℕ → ℕ → Bool) (k n : ℕ) (G : ℕ → Bool) : Type 0 where
  pub inside : Group k G
  pub few : matched ok n G < size_of G

pub record Reason (ok : ℕ → ℕ → Bool) (k n : ℕ) (G : ℕ → Bool) : Type 0 where
  pub most : Most ok k n G
  pub least : (H : ℕ → Bool) → Most ok k n H → (v : ℕ) → G v ≡ true → H v ≡ true

pub data Given (ok : ℕ → ℕ → Bool) (k n r : ℕ) : Type 0 where
  a_reason : Reason ok k n (bit r) → ShortGroup ok k n (bit r) → Given ok k n r
  no_reason : r ≡ 0 → ((G : ℕ → Bool) → ShortGroup ok k n G → ⊥) → Given ok k n r

pub record Chosen (ok : ℕ → ℕ → Bool) (k n : ℕ) (f : ℕ → ℕ) : Type 0 where
  pub low : (v : ℕ) → v < k → f v < n
  pub right : (v : ℕ) → v < k → ok v (f v) ≡ true
  pub apart : (u v : ℕ) → u < k → v < k → f u ≡ f v → u ≡ v
