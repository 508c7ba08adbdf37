-- The alternating chain: what the contracts of src/lib.rt cite. Sets of members and of places are tests; `may v e` says that
-- member v may be given element e; a list w has at each place a member, or a byte from 32 on (the place is spare).
-- Spares w from to F      <-> F has the spare places of the piece, and no other
-- reach may F H v e        == v may take e, which is in F or H
-- within may from to v e   == v may take e, which is in the piece
-- Ready F H w m           <-> what a search asks: m is a member, w has 32 bytes, F has spare places only, and H held ones
-- Served ok w m x         <-> x is w with one place more for m and as many as before for each other member; what changed is allowed
-- Filled F w x t          <-> of the spare places only t, which is in F, was given away
-- Shut may F G v          <-> v may take no place of F and none of G
-- Stuck may F H G w m     <-> no chain for m: the places to be tried fell from H to G; neither m nor who holds a place that was tried may take one of
--   F or G
-- Settled                 <-> what `settle` gives: r is the spare place at the chain's end, or 255 where there is none
-- Spread may F T w m Q    <-> Q has what m may take of F and T, and what the holder of a place of T in Q may take of them
-- Explored                <-> what `explore` gives: T are the held places that were tried; each such Q has them all, and where a spare place was found,
--   one; else there is no chain
-- Holders w T S           <-> S are the members that hold a place of T
-- Owned S w e             <-> a member of S holds the place e
-- Blocked ok w m          <-> a group with m in it, whose members may only be given what members of the group hold
-- Assumes nothing.
use Rattle.std.specs.Prelude.{◌≡◌, ◌⊎◌, Bool, true, false, not, ◌&&◌, ◌||◌, List, ℕ, ◌+◌, ◌≤◌, ◌<◌, length, get_or}
use Rattle.facts.specs.Counting.{between, cnt}

pub record Spares (w : List ℕ) (from to : ℕ) (F : ℕ → Bool) : Type 0 where
  pub free : (e : ℕ) → F e ≡ true → (between from to e ≡ true) × (32 ≤ get_or w e 0)
  pub held : (e : ℕ) → between from to e ≡ true → F e ≡ false → get_or w e 0 < 32

unfoldable pub reach : (ℕ → ℕ → Bool) → (ℕ → Bool) → (ℕ → Bool) → ℕ → ℕ → Bool
reach may F H v e = may v e && (F e || H e)

unfoldable pub within : (ℕ → ℕ → Bool) → ℕ → ℕ → ℕ → ℕ → Bool
within may from to v e = may v e && between from to e

pub record Ready (F H : ℕ → Bool) (w : List ℕ) (m : ℕ) : Type 0 where
  pub member : m < 32
  pub size : length w ≡ 32
  pub free : (e : ℕ) → F e ≡ true → 32 ≤ get_or w e 0
  pub held : (e : ℕ) → H e ≡ true → get_or w e 0 < 32

pub record Served (ok : ℕ → ℕ → Bool) (w : List ℕ) (m : ℕ) (x : List ℕ) : Type 0 where
  pub size : length x ≡ length w
  pub more : cnt m x ≡ cnt m w + 1
  pub others : (v : ℕ) → v < 32 → (v ≡ m → ⊥) → cnt v x ≡ cnt v w
  pub moved : (e : ℕ) → (get_or x e 0 ≡ get_or w e 0) ⊎ (ok (get_or x e 0) e ≡ true)
  pub spare : (e : ℕ) → 32 ≤ get_or x e 0 → get_or x e 0 ≡ get_or w e 0

pub record Filled (F : ℕ → Bool) (w x : List ℕ) (t : ℕ) : Type 0 where
  pub inside : F t ≡ true
  pub here : get_or x t 0 < 32
  pub others : (i : ℕ) → (i ≡ t → ⊥) → 32 ≤ get_or w i 0 → 32 ≤ get_or x i 0

abbrev pub Shut : (ℕ → ℕ → Bool) → (ℕ → Bool) → (ℕ → Bool) → ℕ → Type 0
Shut may F G v = (e : ℕ) → may v e ≡ true → (F e ≡ false) × (G e ≡ false)

pub record Stuck (may : ℕ → ℕ → Bool) (F H G : ℕ → Bool) (w : List ℕ) (m : ℕ) : Type 0 where
  pub fell : (e : ℕ) → G e ≡ true → H e ≡ true
  pub self : Shut may F G m
  pub tried : (e : ℕ) → H e ≡ true → G e ≡ false → Shut may F G (get_or w e 0)

pub record Settled (may : ℕ → ℕ → Bool) (F H : ℕ → Bool) (w : List ℕ) (m r : ℕ) (G : ℕ → Bool) (x : List ℕ) : Type 0 where
  pub served : r < 32 → Served (reach may F H) w m x
  pub filled : r < 32 → Filled F w x r
  pub stuck : 32 ≤ r → Stuck may F H G w m
  pub same : 32 ≤ r → x ≡ w
  pub none : 32 ≤ r → r ≡ 255

pub record Spread (may : ℕ → ℕ → Bool) (F T : ℕ → Bool) (w : List ℕ) (m : ℕ) (Q : ℕ → Bool) : Type 0 where
  pub begins : (e : ℕ) → reach may F T m e ≡ true → Q e ≡ true
  pub goes : (i : ℕ) → T i ≡ true → Q i ≡ true → (e : ℕ) → reach may F T (get_or w i 0) e ≡ true → Q e ≡ true

pub record Explored (may : ℕ → ℕ → Bool) (F H : ℕ → Bool) (w : List ℕ) (m : ℕ) (found : Bool) (T : ℕ → Bool) : Type 0 where
  pub inside : (e : ℕ) → T e ≡ true → H e ≡ true
  pub all : (Q : ℕ → Bool) → Spread may F T w m Q → (e : ℕ) → T e ≡ true → Q e ≡ true
  pub spare : found ≡ true → (Q : ℕ → Bool) → Spread may F T w m Q → (e : ℕ) × (F e ≡ true) × (Q e ≡ true)
  pub stuck : found ≡ false → Stuck may F H (λ e. H e && not (T e)) w m

pub record Holders (w : List ℕ) (T S : ℕ → Bool) : Type 0 where
  pub found : (v : ℕ) → S v ≡ true → (e : ℕ) × (e < 32) × (T e ≡ true) × (get_or w e 0 ≡ v)
  pub all : (e : ℕ) → e < 32 → T e ≡ true → S (get_or w e 0) ≡ true

pub record Owned (S : ℕ → Bool) (w : List ℕ) (e : ℕ) : Type 0 where
  pub low : get_or w e 0 < 32
  pub seen : S (get_or w e 0) ≡ true

pub record Blocked (ok : ℕ → ℕ → Bool) (w : List ℕ) (m : ℕ) : Type 0 where
  pub group : ℕ → Bool
  pub self : group m ≡ true
  pub holders : (v : ℕ) → group v ≡ true → (v ≡ m) ⊎ ((v < 32) × (1 ≤ cnt v w))
  pub closed : (v : ℕ) → group v ≡ true → (e : ℕ) → e < 32 → ok v e ≡ true → Owned group w e
