-- The ones of a mask are the numbers in it. Assumes nothing.
-- ones_count: the ones of a mask are counted. joining_start, joining_skip, joining_more,
-- joining_done: the elements that a group matches, one by one.
use mathlib.Core.Path.{◌≡◌, refl, sym, ap, ◌∙◌, subst}
use mathlib.Core.Logic.{⊎_elim}
use mathlib.Core.Bool.{Bool, true, false}
use mathlib.Core.List.{List}
use Prim.Native.Nat.{ℕ, zero, suc, ◌+◌, ◌/◌, ◌%◌, ◌^◌, ◌≤◌, ◌<◌}
use native.Mathlib.Nat.{mod-lt, pow-suc}
use native.Mathlib.Omega.{arith}
use lib.Dec.{lit<}
use lib.Count.{ones, ones_step}
use lib.ListN.{get_or}
use Rattle.facts.specs.Counting.{one_if, count}
use Rattle.masks.specs.Masks.{bit, Plus, Meets}
use Rattle.rows.specs.Rows.{may}
use Rattle.facts.proofs.Cases.{same?, below, clash, hit, miss, same_test}
use Rattle.masks.proofs.Masks.{bit_half, bit_low, bit_none, bit_inside}
use Rattle.rows.proofs.Rows.{row_may}
use Rattle.facts.proofs.CountedSets.{count_same}
use Rattle.reasons.proofs.Groups.{met, met_in, met_low, met_inv}

one_low : (a : ℕ) → one_if (bit a 0) ≡ a % 2
one_low a =
    let e = ap one_if (bit_low a) in
    let d : a % 2 < 2 = mod-lt a (lit< tt) in
    ⊎_elim (λ (q : a % 2 ≡ 1). let h = hit (a % 2) 1 q in omega arith) (λ (q : a % 2 ≡ 1 → ⊥). let h = miss (a % 2) 1 q in omega arith) (same? (a % 2) 1)

-- the lowest number apart
count_low : (P : ℕ → Bool) (n : ℕ) → count P (suc n) ≡ one_if (P 0) + count (λ v. P (suc v)) n
unfolding count
count_low P zero = refl
count_low P (suc n) = let a = count_low P n in omega arith

pub ones_count : (d a : ℕ) → a < 2 ^ d → ones a ≡ count (bit a) d
unfolding count ones
ones_count zero a l = let z : a ≡ 0 = omega arith in rw z
ones_count (suc d) a l =
    let s = ones_step a in
    let h = ones_count d (a / 2) (let p = pow-suc 2 d in omega arith) in
    let c = count_low (bit a) d in
    let o = one_low a in
    let b = count_same (λ v. bit a (suc v)) (bit (a / 2)) (bit_half a) d in
    omega arith

-- ---- the elements that a group matches, one by one
pub record Joining (rows : List ℕ) (group e r : ℕ) : Type 0 where
  pub right : (i : ℕ) → i < e → bit r i ≡ true → (v : ℕ) × (bit (get_or rows i 0) v ≡ true) × (bit group v ≡ true)
  pub all : (i v : ℕ) → i < e → bit (get_or rows i 0) v ≡ true → bit group v ≡ true → bit r i ≡ true
  pub beyond : (i : ℕ) → e ≤ i → bit r i ≡ false

module _ {rows : List ℕ} {group e r : ℕ} (j : Joining rows group e r) where
  pub joining_skip : Meets (get_or rows e 0) group false → Joining rows group (e + 1) r
  joining_skip m = record {
    right = λ i l t. j.right i (⊎_elim (λ (z : i < e). z) (λ (z : e ≤ i). absurd (clash t (j.beyond i z))) (below i e)) t;
    all = λ i v l p q. ⊎_elim
        (λ (z : i ≡ e). absurd (m.none refl v (subst (λ (k : ℕ). bit (get_or rows k 0) v ≡ true) z p) q))
        (λ (z : i ≡ e → ⊥). j.all i v (omega arith) p q)
        (same? i e);
    beyond = λ i l. j.beyond i (omega arith);
  }

  pub joining_more : {x : ℕ} → Meets (get_or rows e 0) group true → Plus (bit r) e (bit x) → Joining rows group (e + 1) x
  joining_more {x} m p = record {
    right = λ i l t. ⊎_elim
        (λ (z : i ≡ e). subst (λ (k : ℕ). (v : ℕ) × (bit (get_or rows k 0) v ≡ true) × (bit group v ≡ true)) (sym z) (m.some refl))
        (λ (z : i ≡ e → ⊥). j.right i (omega arith) (sym (p.other i z) ∙ t))
        (same? i e);
    all = λ i v l q t. ⊎_elim
        (λ (z : i ≡ e). subst (λ (k : ℕ). bit x k ≡ true) (sym z) p.self)
        (λ (z : i ≡ e → ⊥). p.other i z ∙ j.all i v (omega arith) q t)
        (same? i e);
    beyond = λ i l. p.other i (λ (z : i ≡ e). omega arith) ∙ j.beyond i (omega arith);
  }

pub joining_start : {rows : List ℕ} {group : ℕ} → Joining rows group 0 0
joining_start = record { right = λ i l. absurd (omega arith); all = λ i v l. absurd (omega arith); beyond = λ i l. bit_none i }

-- group is below 2 ^ 32, so that who is in it is below 32
pub joining_done : {rows : List ℕ} {group n r : ℕ} → group < 2 ^ 32 → Joining rows group n r → (e : ℕ) → bit r e ≡ met (may rows) n (bit group) e
joining_done {rows} {group} {n} {r} small j e = same_test (bit r e) (met (may rows) n (bit group) e)
    (λ t.
    let l : e < n = ⊎_elim (λ (z : e < n). z) (λ (z : n ≤ e). absurd (clash t (j.beyond e z))) (below e n) in
    let f = j.right e l t in
    met_in (may rows) n (bit group) f.0 e l (bit_inside 32 group f.0 small f.2) f.2 (sym (row_may rows f.0 e) ∙ f.1))
    (λ t.
    let f = met_inv (may rows) n (bit group) e t in
    j.all e f.0 (met_low (may rows) n (bit group) e t) (row_may rows f.0 e ∙ f.3) f.2)
