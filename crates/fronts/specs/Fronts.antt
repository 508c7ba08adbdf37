-- How far the first cut is settled: the bytes before the place l are, and the next block begins at one of the places Q, with spare elements from l up to there.
-- `may m e` says that member m may take element e, however it is held. `ends` are places at which the next block may end.
-- Onward may bs n Q l y <-> y is spare elements from l to one of the places Q, and then a cut by bs up to n
-- Later g x             <-> at the first place where the two differ, which both have, the byte of x is greater
-- Pieced may b Q l e x  <-> x is spare elements from l to one of the places Q, and then a piece of b up to e
-- Reached g next l e x   <-> x is g and spare elements from l up to e, one of the places `next`
-- Step may b ends Q l g next l' <-> of the lists of the kind `Pieced` to one of the ends, each comes later than g or is g and spare elements up to one of the places `next`; each
--   of these is reached so, and there is one; g ends at l'
-- Leading may b ends Q  <-> b leads from each of the places Q to one of the ends, and there is one
-- Standing Q l w        <-> the bytes of w from l on are 255, and no place of Q is before l
-- Moved may b ends Q l w next l' w' <-> b is settled up to l' as `Step` says: w' is w up to l, then what b adds up to l', then 255
-- Underway may all rest n Q l w <-> the bytes of w before l begin the first cut by the blocks `all`: the blocks `rest` are to come, can go on from each of the places Q, of which there is one,
--   and the first of what they add (`Onward`) makes it whole
-- Assumes nothing: these are definitions.
use Rattle.std.specs.Prelude.{◌≡◌, ◌⊎◌, Bool, true, List, ◌++◌, ℕ, ◌-◌, ◌≤◌, ◌<◌, length, get_or, take, replicate}
use Rattle.masks.specs.Masks.{bit}
use Rattle.blocks.specs.declared.Block.{Block}
use Rattle.blocks.specs.Pieces.{Takes, Cuts}
use Rattle.byte_order.specs.ByteOrder.{First}
use Rattle.places.specs.Ways.{Leads, Way}

pub record Onward (may : ℕ → ℕ → Bool) (bs : List Block) (n Q l : ℕ) (y : List ℕ) : Type 0 where
  pub place : ℕ
  pub here : bit Q place ≡ true
  pub rest : List ℕ
  pub cut : Cuts may bs place n rest
  pub whole : y ≡ replicate (place - l) 255 ++ rest

pub record Later (g x : List ℕ) : Type 0 where
  pub at : ℕ
  pub left : at < length g
  pub right : at < length x
  pub same : (i : ℕ) → i < at → get_or g i 0 ≡ get_or x i 0
  pub less : get_or g at 0 < get_or x at 0

pub record Pieced (may : ℕ → ℕ → Bool) (b : Block) (Q l e : ℕ) (x : List ℕ) : Type 0 where
  pub place : ℕ
  pub here : bit Q place ≡ true
  pub inside : place ≤ e
  pub piece : List ℕ
  pub taken : Takes may b place e piece
  pub whole : x ≡ replicate (place - l) 255 ++ piece

pub record Reached (g : List ℕ) (next l e : ℕ) (x : List ℕ) : Type 0 where
  pub after : l ≤ e
  pub here : bit next e ≡ true
  pub same : x ≡ g ++ replicate (e - l) 255

pub record Step (may : ℕ → ℕ → Bool) (b : Block) (ends Q l : ℕ) (g : List ℕ) (next l' : ℕ) : Type 0 where
  pub size : length g ≡ l' - l
  pub order : l ≤ l'
  pub one : ℕ
  pub here : bit next one ≡ true
  pub after : (e : ℕ) → bit next e ≡ true → l' ≤ e
  pub good : (e : ℕ) → bit next e ≡ true → bit ends e ≡ true
  pub made : (e : ℕ) → bit next e ≡ true → Pieced may b Q l e (g ++ replicate (e - l') 255)
  pub least : (e : ℕ) (x : List ℕ) → bit ends e ≡ true → Pieced may b Q l e x → Later g x ⊎ Reached g next l' e x

pub record Leading (may : ℕ → ℕ → Bool) (b : Block) (ends Q : ℕ) : Type 0 where
  pub one : ℕ
  pub here : bit Q one ≡ true
  pub each : (q : ℕ) → bit Q q ≡ true → Leads may b ends q

pub record Standing (Q l : ℕ) (w : List ℕ) : Type 0 where
  pub size : length w ≡ 32
  pub blank : (i : ℕ) → l ≤ i → i < 32 → get_or w i 0 ≡ 255
  pub after : (q : ℕ) → bit Q q ≡ true → l ≤ q

pub record Moved (may : ℕ → ℕ → Bool) (b : Block) (ends Q l : ℕ) (w : List ℕ) (next l' : ℕ) (w' : List ℕ) : Type 0 where
  pub added : List ℕ
  pub step : Step may b ends Q l added next l'
  pub standing : Standing next l' w'
  pub whole : take l' w' ≡ take l w ++ added

pub record Underway (may : ℕ → ℕ → Bool) (all rest : List Block) (n Q l : ℕ) (w : List ℕ) : Type 0 where
  pub standing : Standing Q l w
  pub one : ℕ
  pub here : bit Q one ≡ true
  pub each : (q : ℕ) → bit Q q ≡ true → Way may rest q n
  pub first : (y : List ℕ) → First (Onward may rest n Q l) y → First (Cuts may all 0 n) (take l w ++ y)
