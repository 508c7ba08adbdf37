-- From an assignment to the first: what the contracts of src/lib.rt cite.
-- Later w m e to            <-> m holds a place after e and before `to`
-- Next w m e p              <-> p is the first place after e that holds m
-- Rival may w e to m        <-> m holds a place after e and before `to`, may take e, and is below the byte of e
-- Standing may to F w e R   <-> what `improve` asks: nobody stands twice in the 32 bytes of w, F has its spare places after e and before `to`, R has rivals only
-- Agrees a w e              <-> the lists are the same before place e
-- Tries .. w e m a          <-> a is an assignment that is as w before e, and gives e to m
-- Around may from to w c Q  <-> Q has what c may take of the piece, and what the holder of a place in Q may take of it
-- Moves may from to w c m   <-> each such Q has a spare place, or one that m holds: where m gives up its place, a chain leads from c to a spare one
-- Candidates may to w e R C <-> C has rivals only, whose place would do for the holder of e, and no rival outside it can be given e
-- Exchanges may to F w e m  <-> what `exchange` asks: the same of m alone
-- Exchanged may to w e m E x <-> x is an assignment that gives e to m and is as w before e; E has its spare places after e
-- Going .. w e C            <-> an assignment that is as w before e and has a smaller byte at e has one of C there
-- Improved .. w e x         <-> x is an assignment that is as w before e, and no such assignment has a smaller byte at e
-- Improves may to w e R E x <-> what `improve` gives: where R are all rivals, x is improved; E has its spare places after e
-- Open first k w e O        <-> O are the members of the block that stand nowhere before e
-- Sooner w a e              <-> the lists differ first at a place before e, where w has the smaller byte
-- Leads .. w e              <-> w is an assignment, and every assignment is as w before e, or comes later for a place before e
-- Assumes nothing.
use Rattle.std.specs.Prelude.{◌≡◌, ◌⊎◌, Bool, true, false, List, ℕ, ◌+◌, ◌≤◌, ◌<◌, length, get_or}
use Rattle.facts.specs.Counting.{between, cnt}
use Rattle.chains.specs.Chain.{within, Spares}
use Rattle.refining.specs.AsBytes.{Dealt}

pub record Later (w : List ℕ) (m e to : ℕ) : Type 0 where
  pub place : ℕ
  pub after : e < place
  pub early : place < to
  pub here : get_or w place 0 ≡ m

pub record Next (w : List ℕ) (m e p : ℕ) : Type 0 where
  pub after : e < p
  pub here : get_or w p 0 ≡ m
  pub first : (i : ℕ) → e < i → get_or w i 0 ≡ m → p ≤ i

pub record Rival (may : ℕ → ℕ → Bool) (w : List ℕ) (e to m : ℕ) : Type 0 where
  pub low : m < 32
  pub below : m < get_or w e 0
  pub may_take : may m e ≡ true
  pub later : Later w m e to

pub record Standing (may : ℕ → ℕ → Bool) (to : ℕ) (F : ℕ → Bool) (w : List ℕ) (e : ℕ) (R : ℕ → Bool) : Type 0 where
  pub size : length w ≡ 32
  pub early : e < to
  pub end : to ≤ 32
  pub once : (v : ℕ) → v < 32 → cnt v w ≤ 1
  pub spares : Spares w (e + 1) to F
  pub rivals : (m : ℕ) → R m ≡ true → Rival may w e to m

abbrev pub Agrees : List ℕ → List ℕ → ℕ → Type 0
Agrees a w e = (i : ℕ) → i < e → get_or a i 0 ≡ get_or w i 0

pub record Tries (may : ℕ → ℕ → Bool) (first k from to : ℕ) (w : List ℕ) (e m : ℕ) (a : List ℕ) : Type 0 where
  pub dealt : Dealt may first k from to a
  pub agrees : Agrees a w e
  pub takes : get_or a e 0 ≡ m

pub record Around (may : ℕ → ℕ → Bool) (from to : ℕ) (w : List ℕ) (c : ℕ) (Q : ℕ → Bool) : Type 0 where
  pub begins : (e : ℕ) → within may from to c e ≡ true → Q e ≡ true
  pub goes : (i : ℕ) → between from to i ≡ true → get_or w i 0 < 32 → Q i ≡ true → (e : ℕ) → within may from to (get_or w i 0) e ≡ true → Q e ≡ true

abbrev pub Moves : (ℕ → ℕ → Bool) → ℕ → ℕ → List ℕ → ℕ → ℕ → Type 0
Moves may from to w c m = (Q : ℕ → Bool) → Around may from to w c Q → (i : ℕ) × (Q i ≡ true) × (between from to i ≡ true) × ((32 ≤ get_or w i 0) ⊎ (get_or w i 0 ≡ m))

pub record Candidates (may : ℕ → ℕ → Bool) (to : ℕ) (w : List ℕ) (e : ℕ) (R C : ℕ → Bool) : Type 0 where
  pub sound : (m : ℕ) → C m ≡ true → R m ≡ true
  pub moves : (m : ℕ) → C m ≡ true → get_or w e 0 < 32 → Moves may (e + 1) to w (get_or w e 0) m
  pub rest : (first k from : ℕ) → first + k ≤ 32 → from ≤ e → Dealt may first k from to w → (m : ℕ) → R m ≡ true → C m ≡ false
      → (a : List ℕ) → Tries may first k from to w e m a → ⊥

pub record Exchanges (may : ℕ → ℕ → Bool) (to : ℕ) (F : ℕ → Bool) (w : List ℕ) (e m : ℕ) : Type 0 where
  pub size : length w ≡ 32
  pub end : to ≤ 32
  pub once : cnt m w ≤ 1
  pub spares : Spares w (e + 1) to F
  pub rival : Rival may w e to m
  pub moves : get_or w e 0 < 32 → Moves may (e + 1) to w (get_or w e 0) m

pub record Exchanged (may : ℕ → ℕ → Bool) (to : ℕ) (w : List ℕ) (e m : ℕ) (E : ℕ → Bool) (x : List ℕ) : Type 0 where
  pub spares : Spares x (e + 1) to E
  pub works : (first k from : ℕ) → first + k ≤ 32 → from ≤ e → Dealt may first k from to w → Tries may first k from to w e m x

pub record Going (may : ℕ → ℕ → Bool) (first k from to : ℕ) (w : List ℕ) (e : ℕ) (C : ℕ → Bool) : Type 0 where
  pub going : (a : List ℕ) → Dealt may first k from to a → Agrees a w e → get_or a e 0 < get_or w e 0 → C (get_or a e 0) ≡ true

pub record Improved (may : ℕ → ℕ → Bool) (first k from to : ℕ) (w : List ℕ) (e : ℕ) (x : List ℕ) : Type 0 where
  pub dealt : Dealt may first k from to x
  pub agrees : Agrees x w e
  pub least : (a : List ℕ) → Dealt may first k from to a → Agrees a w e → get_or x e 0 ≤ get_or a e 0

pub record Improves (may : ℕ → ℕ → Bool) (to : ℕ) (w : List ℕ) (e : ℕ) (R E : ℕ → Bool) (x : List ℕ) : Type 0 where
  pub spares : Spares x (e + 1) to E
  pub works : (first k from : ℕ) → first + k ≤ 32 → from ≤ e → Dealt may first k from to w → Going may first k from to w e R → Improved may first k from to w e x

pub record Open (first k : ℕ) (w : List ℕ) (e : ℕ) (O : ℕ → Bool) : Type 0 where
  pub sound : (m : ℕ) → O m ≡ true → (between first (first + k) m ≡ true) × ((i : ℕ) → i < e → get_or w i 0 ≡ m → ⊥)
  pub complete : (m : ℕ) → between first (first + k) m ≡ true → ((i : ℕ) → i < e → get_or w i 0 ≡ m → ⊥) → O m ≡ true

pub record Sooner (w a : List ℕ) (e : ℕ) : Type 0 where
  pub place : ℕ
  pub early : place < e
  pub agrees : Agrees a w place
  pub smaller : get_or w place 0 < get_or a place 0

pub record Leads (may : ℕ → ℕ → Bool) (first k from to : ℕ) (w : List ℕ) (e : ℕ) : Type 0 where
  pub dealt : Dealt may first k from to w
  pub leads : (a : List ℕ) → Dealt may first k from to a → Agrees a w e ⊎ Sooner w a e
