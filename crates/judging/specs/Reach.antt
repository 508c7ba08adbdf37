-- The places that the blocks so far reach in an offered list: what the functions behind `cut_passes` give.
-- any_pair m e             == true: any member may take any element
-- SparesOf w n spares     <-> the mask has the elements of w before n that are spare
-- Reached may bs w reach  <-> the mask `reach` has each place p of w for which the blocks bs cut the first p bytes of w, and no other
-- Fresh may b members e x <-> x is a member of the block b that may take the element e, and is not among the members
-- Good may b from to w members <-> the bytes from .. to - 1 of w are right for b, no member stands twice, and those that stand there are the members
-- Group b all <-> the mask `all` has the members of b, and no other
-- Whole b all members from to <-> the members are all of them, and the elements from .. to - 1 are no fewer than b asks
-- Marked P ends to r <-> the mask r is `ends`, with the place `to` too where P holds
-- Ends may b from stop w ends r <-> r is `ends`, with each place before `stop` too at which a piece of b ends that begins at `from`
-- IsOne m b <-> the block b is the member m, and no spare element
-- OneOn places spares r <-> the mask r has the places that lie one spare element after one of these
-- Blank w s p <-> the elements s .. p - 1 of w are spare
-- Spared w reach least most p <-> p lies least to most spare elements after a reached place
-- Along w reach least most r <-> the mask r has the places that lie least to most spare elements after a reached one
-- Begun may b reach w p <-> a piece of b that begins at a reached place ends at p
-- Extended may b reach w r <-> the mask r has the places at which such a piece ends
-- Assumes nothing: these are definitions.
use Rattle.std.specs.Prelude.{◌≡◌, Bool, true, false, List, ℕ, ◌+◌, ◌-◌, ◌≤◌, ◌<◌, length, get_or, take}
use Rattle.std.proofs.Math.Seq.{slice}
use Rattle.masks.specs.Masks.{bit, Plus}
use Rattle.facts.specs.Counting.{between, one_if, cnt}
use Rattle.blocks.specs.Assignment.{takes}
use Rattle.blocks.specs.declared.Block.{Block}
use Rattle.blocks.specs.Pieces.{Takes, Cuts, Passing, is_one}

abbrev pub any_pair : ℕ → ℕ → Bool
any_pair m e = true

pub record SparesOf (w : List ℕ) (n spares : ℕ) : Type 0 where
  pub only : (e : ℕ) → bit spares e ≡ true → (e < n) × (get_or w e 0 ≡ 255)
  pub all : (e : ℕ) → e < n → get_or w e 0 ≡ 255 → bit spares e ≡ true

pub record Reached (may : ℕ → ℕ → Bool) (bs : List Block) (w : List ℕ) (reach : ℕ) : Type 0 where
  pub at : (p : ℕ) → p ≤ length w → Passing (Cuts may bs 0 p (take p w)) (bit reach p)
  pub outside : (p : ℕ) → length w < p → bit reach p ≡ false

pub record Fresh (may : ℕ → ℕ → Bool) (b : Block) (members e x : ℕ) : Type 0 where
  pub inside : between b.first (b.first + b.k) x ≡ true
  pub right : may x e ≡ true
  pub new : bit members x ≡ false

pub record Good (may : ℕ → ℕ → Bool) (b : Block) (from to : ℕ) (w : List ℕ) (members : ℕ) : Type 0 where
  pub right : (i : ℕ) → i < to - from → takes may b.first b.k (from + i) (get_or w (from + i) 0) ≡ true
  pub counted : (m : ℕ) → m < 255 → cnt m (slice from to w) ≡ one_if (bit members m)
  pub inside : (m : ℕ) → bit members m ≡ true → between b.first (b.first + b.k) m ≡ true

pub record Group (b : Block) (all : ℕ) : Type 0 where
  pub at : (m : ℕ) → bit all m ≡ between b.first (b.first + b.k) m

pub record Whole (b : Block) (all members from to : ℕ) : Type 0 where
  pub complete : members ≡ all
  pub enough : b.k + b.min ≤ to - from

pub data Marked (P : Type 0) (ends to r : ℕ) : Type 0 where
  marked : P → Plus (bit ends) to (bit r) → Marked P ends to r
  unmarked : (P → ⊥) → r ≡ ends → Marked P ends to r

pub record Ends (may : ℕ → ℕ → Bool) (b : Block) (from stop : ℕ) (w : List ℕ) (ends r : ℕ) : Type 0 where
  pub kept : (p : ℕ) → bit ends p ≡ true → bit r p ≡ true
  pub found : (p : ℕ) → from ≤ p → p < stop → Takes may b from p (slice from p w) → bit r p ≡ true
  pub only : (p : ℕ) → bit r p ≡ true → bit ends p ≡ false → (from ≤ p) × (p < stop) × Takes may b from p (slice from p w)

pub record IsOne (m : ℕ) (b : Block) : Type 0 where
  pub one : is_one b ≡ true
  pub first : b.first ≡ m

pub record OneOn (places spares r : ℕ) : Type 0 where
  pub some : (p : ℕ) → bit r p ≡ true → (1 ≤ p) × (bit places (p - 1) ≡ true) × (bit spares (p - 1) ≡ true)
  pub all : (p : ℕ) → p < 63 → bit places p ≡ true → bit spares p ≡ true → bit r (p + 1) ≡ true

abbrev pub Blank : List ℕ → ℕ → ℕ → Type 0
Blank w s p = (i : ℕ) → s ≤ i → i < p → get_or w i 0 ≡ 255

pub record Spared (w : List ℕ) (reach least most p : ℕ) : Type 0 where
  pub start : ℕ
  pub reached : bit reach start ≡ true
  pub near : start + least ≤ p
  pub far : p ≤ start + most
  pub blank : Blank w start p

pub record Along (w : List ℕ) (reach least most r : ℕ) : Type 0 where
  pub some : (p : ℕ) → bit r p ≡ true → Spared w reach least most p
  pub all : (p : ℕ) → Spared w reach least most p → bit r p ≡ true

pub record Begun (may : ℕ → ℕ → Bool) (b : Block) (reach : ℕ) (w : List ℕ) (p : ℕ) : Type 0 where
  pub start : ℕ
  pub reached : bit reach start ≡ true
  pub inside : start ≤ p
  pub end : p ≤ length w
  pub taken : Takes may b start p (slice start p w)

pub record Extended (may : ℕ → ℕ → Bool) (b : Block) (reach : ℕ) (w : List ℕ) (r : ℕ) : Type 0 where
  pub found : (p : ℕ) → Begun may b reach w p → bit r p ≡ true
  pub only : (p : ℕ) → bit r p ≡ true → Begun may b reach w p
