-- Runs of elements cut into consecutive pieces, one for each block in order; and assignments in which every element has a member.
-- A block takes a piece in which each of its k members, first .. first + k - 1, is assigned once and the spare elements number min to max.
-- `may m e` says that member m may take element e, however it is held.
-- Takes may b from to p <-> p is an assignment of the elements from .. to - 1 by the block b, with as many spare elements as b allows
-- CutAt may b rest from to w <-> w is a piece that the block b takes, up to some place, and after it a list of the kind `rest` from that place on
-- Cuts may bs from to w <-> w assigns the elements from .. to - 1, cut into consecutive pieces, one for each of bs in order
-- Contains may k n w <-> w gives each of the elements 0 .. n - 1 a member below k that may take it, a member as often as wanted
-- Fills may k n w <-> w gives each of the elements 0 .. n - 1 a member below k that may take it, and no member twice
-- is_one b == b is one member and no spare element
-- Inside bs <-> the members of each block are below 32
-- bytes_of r == the bytes that were found; where there are none, 255 for each of 32 elements
-- Best P n found w <-> the first n bytes of w are the first list of P in byte order, where P has one; every other byte of w is 255
-- Cutting may bs n found w <-> the first cut in byte order, where there is one; every other byte of w is 255
-- Containing may k n found w <-> the same of `first_containment`
-- Filling may k n found w <-> the same of `first_filling`
-- Passing P r <-> r says whether P holds
-- Assumes nothing: these are definitions.
use Rattle.std.specs.Prelude.{◌≡◌, Bool, true, false, ◌&&◌, List, [], ◌∷◌, ℕ, ◌+◌, ◌-◌, ◌≤◌, ◌<◌, eqb, length, get_or, take, replicate, Option, unwrap_or}
use Rattle.byte_order.specs.ByteOrder.{First, Joins}
use Rattle.facts.specs.Counting.{cnt}
use Rattle.blocks.specs.Assignment.{Assigns}
use Rattle.blocks.specs.declared.Block.{Block}

pub record Takes (may : ℕ → ℕ → Bool) (b : Block) (from to : ℕ) (p : List ℕ) : Type 0 where
  pub assigned : Assigns may b.first b.k from to p
  pub enough : b.k + b.min ≤ to - from
  pub few : to - from ≤ b.k + b.max

pub record CutAt (may : ℕ → ℕ → Bool) (b : Block) (rest : ℕ → List ℕ → Type 0) (from to : ℕ) (w : List ℕ) : Type 0 where
  pub mid : ℕ
  pub after : from ≤ mid
  pub inside : mid ≤ to
  pub parts : Joins (Takes may b from mid) (rest mid) w

unfoldable pub Cuts : (ℕ → ℕ → Bool) → List Block → ℕ → ℕ → List ℕ → Type 0
Cuts may [] from to w = (from ≡ to) × (w ≡ [])
Cuts may (b ∷ bs) from to w = CutAt may b (λ mid v. Cuts may bs mid to v) from to w

pub record Contains (may : ℕ → ℕ → Bool) (k n : ℕ) (w : List ℕ) : Type 0 where
  pub size : length w ≡ n
  pub member : (e : ℕ) → e < n → get_or w e 0 < k
  pub right : (e : ℕ) → e < n → may (get_or w e 0) e ≡ true

pub record Fills (may : ℕ → ℕ → Bool) (k n : ℕ) (w : List ℕ) : Type 0 where
  pub size : length w ≡ n
  pub member : (e : ℕ) → e < n → get_or w e 0 < k
  pub right : (e : ℕ) → e < n → may (get_or w e 0) e ≡ true
  pub once : (m : ℕ) → m < k → cnt m w ≤ 1

unfoldable pub is_one : Block → Bool
is_one b = eqb b.k 1 && (eqb b.min 0 && eqb b.max 0)

unfoldable pub Inside : List Block → Type 0
Inside [] = Unit {0}
Inside (b ∷ bs) = (b.first + b.k ≤ 32) × Inside bs

abbrev pub bytes_of : Option (List ℕ) → List ℕ
bytes_of r = unwrap_or r (replicate 32 255)

pub record Best (P : List ℕ → Type 0) (n : ℕ) (found : Bool) (w : List ℕ) : Type 0 where
  pub best : found ≡ true → First P (take n w)
  pub none : found ≡ false → (v : List ℕ) → P v → ⊥
  pub size : length w ≡ 32
  pub outside : (i : ℕ) → n ≤ i → i < 32 → get_or w i 0 ≡ 255
  pub blank : found ≡ false → w ≡ replicate 32 255

abbrev pub Cutting : (ℕ → ℕ → Bool) → List Block → ℕ → Bool → List ℕ → Type 0
Cutting may bs n found w = Best (Cuts may bs 0 n) n found w

abbrev pub Containing : (ℕ → ℕ → Bool) → ℕ → ℕ → Bool → List ℕ → Type 0
Containing may k n found w = Best (Contains may k n) n found w

abbrev pub Filling : (ℕ → ℕ → Bool) → ℕ → ℕ → Bool → List ℕ → Type 0
Filling may k n found w = Best (Fills may k n) n found w

pub record Passing (P : Type 0) (r : Bool) : Type 0 where
  pub passed : r ≡ true → P
  pub failed : r ≡ false → P → ⊥
