-- The first of the lists that a group takes from one of several places, as 32 bytes with 255 around.
-- FirstMember w from to r <-> of the places from .. to - 1, r is the first that is not 255, or `to` where there is none
-- Chosen may b ends Q g   <-> b takes g from one of the places Q to one of the ends
-- Picking may b ends Q g to rest <-> g is chosen, from a window that ends at `to` or before; no list that b takes from a place of Q comes before it, but for those that begin at a
--   place of `rest` and end after `to`
-- Tried may b ends Q g to rest <-> the same (`Picking`), where `to` is not 0, and the places of `rest` come after one of Q; else b leads from one of the places Q to none of the ends
-- Assumes nothing: these are definitions.
use Rattle.std.specs.Prelude.{◌≡◌, ◌⊎◌, Bool, true, false, List, ℕ, ◌≤◌, ◌<◌, get_or}
use Rattle.masks.specs.Masks.{bit}
use Rattle.byte_order.specs.ByteOrder.{earlier}
use Rattle.blocks.specs.declared.Block.{Block}
use Rattle.places.specs.Ways.{Leads}
use Rattle.places.specs.Bytes.{Held}

pub record FirstMember (w : List ℕ) (from to r : ℕ) : Type 0 where
  pub low : from ≤ r
  pub high : r ≤ to
  pub blank : (i : ℕ) → from ≤ i → i < r → get_or w i 0 ≡ 255
  pub first : r < to → get_or w r 0 ≡ 255 → ⊥

pub record Chosen (may : ℕ → ℕ → Bool) (b : Block) (ends Q : ℕ) (g : List ℕ) : Type 0 where
  pub from : ℕ
  pub to : ℕ
  pub here : bit Q from ≡ true
  pub end : bit ends to ≡ true
  pub held : Held may b from to g

pub record Picking (may : ℕ → ℕ → Bool) (b : Block) (ends Q : ℕ) (g : List ℕ) (to rest : ℕ) : Type 0 where
  pub chosen : Chosen may b ends Q g
  pub window : chosen.to ≤ to
  pub high : to ≤ 32
  pub inside : (q : ℕ) → bit rest q ≡ true → bit Q q ≡ true
  pub least : (q e : ℕ) (x : List ℕ) → bit Q q ≡ true → bit ends e ≡ true → Held may b q e x → (earlier x g ≡ false) ⊎ ((bit rest q ≡ true) × (to < e))

pub record Tried (may : ℕ → ℕ → Bool) (b : Block) (ends Q : ℕ) (g : List ℕ) (to rest : ℕ) : Type 0 where
  pub some : 0 < to → Picking may b ends Q g to rest
  pub later : (q : ℕ) → bit rest q ≡ true → (p : ℕ) × (bit Q p ≡ true) × (p < q)
  pub none : to ≡ 0 → (q : ℕ) × (bit Q q ≡ true) × (Leads may b ends q → ⊥)
