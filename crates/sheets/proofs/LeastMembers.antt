-- A member for each element in turn, and why the least ones make the first list. Assumes nothing.
-- given_start, given_more, given_contains: members given to the elements before e, and to all.
-- least_start, least_step, least_none, least_best: the least member of each element before e; an element with no member; all.
use mathlib.Core.Path.{◌≡◌, refl, sym, ◌∙◌, subst}
use mathlib.Core.Logic.{⊎_elim}
use mathlib.Core.Bool.{Bool, true}
use mathlib.Core.List.{List}
use Prim.Native.Nat.{ℕ, ◌+◌, ◌≤◌, ◌<◌}
use native.Mathlib.Omega.{arith}
use lib.Bits.{bit_and}
use lib.ListN.{length, get_or, set, take, replicate, length-take, length-set, length-replicate, get_or-replicate}
use lib.Seq.{get_or-take, get_or-set_same, get_or-set_other}
use Rattle.facts.specs.Counting.{between}
use Rattle.facts.proofs.Cases.{same?, clash, both}
use Rattle.facts.proofs.Spans.{between_in, between_to}
use Rattle.byte_order.proofs.ByteOrder.{not_earlier}
use Rattle.masks.specs.Masks.{bit, Lowest}
use Rattle.masks.proofs.Masks.{bit_and_lem, and_bits, and_none, lowest_first}
use Rattle.rows.specs.Rows.{may}
use Rattle.rows.proofs.Rows.{row_may}
use Rattle.blocks.specs.Pieces.{Contains, Containing}

-- ---- each element before e has a member that may take it
pub record Given (may : ℕ → ℕ → Bool) (k : ℕ) (w : List ℕ) (e : ℕ) : Type 0 where
  pub member : (i : ℕ) → i < e → get_or w i 0 < k
  pub right : (i : ℕ) → i < e → may (get_or w i 0) i ≡ true

pub given_start : {may : ℕ → ℕ → Bool} {k : ℕ} {w : List ℕ} → Given may k w 0
given_start = record { member = λ i l. absurd (omega arith); right = λ i l. absurd (omega arith) }

pub given_more : {may : ℕ → ℕ → Bool} {k : ℕ} {w : List ℕ} {e : ℕ} → Given may k w e → get_or w e 0 < k → may (get_or w e 0) e ≡ true → Given may k w (e + 1)
given_more {may} {k} {w} {e} g low h = record {
  member = λ i l. ⊎_elim (λ (z : i ≡ e). rw z low) (λ (z : i ≡ e → ⊥). g.member i (omega arith)) (same? i e);
  right = λ i l. ⊎_elim (λ (z : i ≡ e). rw z h) (λ (z : i ≡ e → ⊥). g.right i (omega arith)) (same? i e);
}

pub given_contains : {may : ℕ → ℕ → Bool} {k n : ℕ} {w : List ℕ} → length w ≡ n → Given may k w n → Contains may k n w
given_contains size g = record { size = size; member = g.member; right = g.right }

-- ---- that member is the least one, and no element from e on has one yet
pub record LeastTo (may : ℕ → ℕ → Bool) (k : ℕ) (w : List ℕ) (e : ℕ) : Type 0 where
  pub size : length w ≡ 32
  pub given : Given may k w e
  pub least : (i m : ℕ) → i < e → m < k → may m i ≡ true → get_or w i 0 ≤ m
  pub blank : (i : ℕ) → e ≤ i → i < 32 → get_or w i 0 ≡ 255

pub least_start : {may : ℕ → ℕ → Bool} {k : ℕ} → LeastTo may k (replicate 32 255) 0
least_start = record {
  size = length-replicate {A = ℕ} 32 255;
  given = given_start;
  least = λ i m l. absurd (omega arith);
  blank = λ i _ l. get_or-replicate {A = ℕ} 32 i 255 0 l;
}

-- one element more, with the member m
least_more : {may : ℕ → ℕ → Bool} {k : ℕ} {w : List ℕ} {e m : ℕ} → LeastTo may k w e → e < 32 → m < k → may m e ≡ true → ((j : ℕ) → j < k → may j e ≡ true → m ≤ j) → LeastTo may k (set w e m) (e + 1)
least_more {may} {k} {w} {e} {m} g low l h first =
    let size = g.size in
    let here : get_or (set w e m) e 0 ≡ m = get_or-set_same w e m 0 (omega arith) in
    let there : (i : ℕ) → (i ≡ e → ⊥) → get_or (set w e m) i 0 ≡ get_or w i 0 = λ i z. get_or-set_other w e i m 0 z in
    record {
      size = length-set w e m ∙ size;
      given = given_more
          (record {
            member = λ i z. rw (there i (λ q. omega arith)) (g.given.member i z);
            right = λ i z. rw (there i (λ q. omega arith)) (g.given.right i z);
          })
          (rw here l)
          (rw here h);
      least = λ i j z low' o. ⊎_elim
          (λ (q : i ≡ e). let a = first j low' (subst (λ (x : ℕ). may j x ≡ true) q o) in let b : get_or (set w e m) i 0 ≡ m = rw q here in omega arith)
          (λ (q : i ≡ e → ⊥). let a = there i q in let b = g.least i j (omega arith) low' o in omega arith)
          (same? i e);
      blank = λ i z z'. there i (λ q. omega arith) ∙ g.blank i (omega arith) z';
    }

-- the members below k that may take e are the row of e, cut to these
module _ (rows : List ℕ) (k members e : ℕ) (all : (i : ℕ) → bit members i ≡ between 0 k i) where
  among : (m : ℕ) → m < k → bit members m ≡ true
  among m l = all m ∙ between_in 0 k m (omega arith) l

  pub least_step : {w : List ℕ} {m : ℕ} → LeastTo (may rows) k w e → e < 32 → Lowest 32 (bit_and (get_or rows e 0) members) m → LeastTo (may rows) k (set w e m) (e + 1)
  least_step {w} {m} g low h =
      let row = get_or rows e 0 in
      let bits = and_bits row members m h.inside in
      least_more g low (between_to 0 k m (sym (all m) ∙ bits.1)) (sym (row_may rows m e) ∙ bits.0)
      (λ j l o. lowest_first h j (bit_and_lem row members j ∙ both (bit row j) (bit members j) (row_may rows j e ∙ o) (among j l)))

  -- nobody may take e
  pub least_none : (n : ℕ) → e < n → bit_and (get_or rows e 0) members ≡ 0 → (v : List ℕ) → Contains (may rows) k n v → ⊥
  least_none n l z v c =
      let m = get_or v e 0 in
      and_none (get_or rows e 0) members m z (row_may rows m e ∙ c.right e l) (among m (c.member e l))

-- all have one
pub least_best : {may : ℕ → ℕ → Bool} {k n : ℕ} {w : List ℕ} → n ≤ 32 → LeastTo may k w n → Containing may k n true w
least_best {may} {k} {n} {w} few g =
    let size = g.size in
    let long = length-take n w in
    let at : (i : ℕ) → i < n → get_or (take n w) i 0 ≡ get_or w i 0 = λ i l. get_or-take n w i 0 l in
    record {
      best = λ _. record {
        holds = given_contains (omega arith) (record {
          member = λ i l. rw (at i l) (g.given.member i l);
          right = λ i l. rw (at i l) (g.given.right i l);
        });
        least = λ v c.
            let s = c.size in
            not_earlier v (take n w) (omega arith) (λ i l.
            let j : i < n = omega arith in
            let a = at i j in
            let b = g.least i (get_or v i 0) j (c.member i j) (c.right i j) in
            omega arith);
      };
      none = λ f. absurd (clash refl f);
      size = size;
      outside = g.blank;
      blank = λ f. absurd (clash refl f);
    }
