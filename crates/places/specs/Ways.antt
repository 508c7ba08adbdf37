-- The places of a list from which blocks can go on to its end, as masks. `may m e` says that member m may take element e, however it is held.
-- Way may bs p n     <-> the blocks bs take the elements p .. n - 1
-- Ways may bs n mask <-> the mask has exactly the places from which bs take the elements up to n
-- Low places n       <-> the places are at most n
-- Leads may b good p <-> the block b takes the elements from p to one of the places `good`
-- Back may b good r  <-> the mask r has exactly the places from which b leads to one of `good`
-- Agrees may may' b n <-> the two say the same of each member of b and each element below n
-- Led may b good p r <-> from each place of r the block b leads to one of `good`, and p is in r where it leads there from p
-- Sought may b good todo r <-> from each place of r the block b leads to one of `good`; each place from which it does is in r or still to do, and what is to do
--   has such a place within the block's lengths
-- Assumes nothing: these are definitions.
use Rattle.std.specs.Prelude.{◌≡◌, ◌⊎◌, Bool, true, List, ℕ, ◌+◌, ◌≤◌, ◌<◌}
use Rattle.masks.specs.Masks.{bit}
use Rattle.facts.specs.Counting.{between}
use Rattle.place_masks.specs.Places.{Ahead}
use Rattle.blocks.specs.declared.Block.{Block}
use Rattle.blocks.specs.Pieces.{Takes, Cuts}

pub record Way (may : ℕ → ℕ → Bool) (bs : List Block) (p n : ℕ) : Type 0 where
  pub list : List ℕ
  pub cut : Cuts may bs p n list

pub record Ways (may : ℕ → ℕ → Bool) (bs : List Block) (n mask : ℕ) : Type 0 where
  pub some : (p : ℕ) → bit mask p ≡ true → Way may bs p n
  pub all : (p : ℕ) → Way may bs p n → bit mask p ≡ true

abbrev pub Low : ℕ → ℕ → Type 0
Low places n = (e : ℕ) → bit places e ≡ true → e ≤ n

pub record Leads (may : ℕ → ℕ → Bool) (b : Block) (good p : ℕ) : Type 0 where
  pub place : ℕ
  pub here : bit good place ≡ true
  pub after : p ≤ place
  pub piece : List ℕ
  pub taken : Takes may b p place piece

pub record Back (may : ℕ → ℕ → Bool) (b : Block) (good r : ℕ) : Type 0 where
  pub some : (p : ℕ) → bit r p ≡ true → Leads may b good p
  pub all : (p : ℕ) → Leads may b good p → bit r p ≡ true

pub record Agrees (may may' : ℕ → ℕ → Bool) (b : Block) (n : ℕ) : Type 0 where
  pub same : (m e : ℕ) → between b.first (b.first + b.k) m ≡ true → e < n → may m e ≡ may' m e

pub record Led (may : ℕ → ℕ → Bool) (b : Block) (good p r : ℕ) : Type 0 where
  pub some : (e : ℕ) → bit r e ≡ true → Leads may b good e
  pub here : Leads may b good p → bit r p ≡ true

pub record Sought (may : ℕ → ℕ → Bool) (b : Block) (good todo r : ℕ) : Type 0 where
  pub some : (p : ℕ) → bit r p ≡ true → Leads may b good p
  pub all : (p : ℕ) → Leads may b good p → (bit r p ≡ true) ⊎ (bit todo p ≡ true)
  pub near : (p : ℕ) → bit todo p ≡ true → Ahead good (b.k + b.min) (b.k + b.max) p
