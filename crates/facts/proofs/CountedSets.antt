-- Sets of numbers counted, one against another. Assumes nothing.
-- any_found, any_in, any_same: a number below n is in the set. count_zero, count_mono: none below 0, and no fewer below more.
-- count_same: tests that agree count alike. count_filled: a set inside another that is no smaller has all of it.
-- count_both: two sets counted against two that lie in their meeting and in their joining. count_meet: those two themselves.
-- count_bound: no more than all. count_none, count_some: none, and one at least. places_in, places_on: the places that hold members of a set, against a set of elements.
use mathlib.Core.Path.{◌≡◌, refl, ap, subst}
use mathlib.Core.Logic.{◌⊎◌, ⊎_elim}
use mathlib.Core.Bool.{Bool, true, false, ◌&&◌, ◌||◌}
use mathlib.Core.List.{List}
use Prim.Native.Nat.{ℕ, zero, suc, ◌+◌, ◌-◌, ◌≤◌, ◌<◌}
use native.Mathlib.Nat.{not-suc-le-zero}
use native.Mathlib.Omega.{arith}
use lib.ListN.{length, get_or}
use Rattle.facts.specs.Counting.{one_if, count, any_below, places}
use Rattle.facts.proofs.Cases.{same?, holds?, clash, one_of, or_left, or_right}
use Rattle.facts.proofs.Counting.{count_less, places_into, places_onto}

-- a number below n
pub any_found : (P : ℕ → Bool) (n : ℕ) → any_below P n ≡ true → (v : ℕ) × (v < n) × (P v ≡ true)
unfolding any_below
any_found P zero h = absurd (clash h refl)
any_found P (suc n) h = ⊎_elim
    (λ (p : P n ≡ true). (n, omega arith, p))
    (λ (p : any_below P n ≡ true). let f = any_found P n p in (f.0, omega (arith, f.1), f.2))
    (one_of (P n) (any_below P n) h)

pub any_in : (P : ℕ → Bool) (n v : ℕ) → v < n → P v ≡ true → any_below P n ≡ true
unfolding any_below
any_in P zero v l p = absurd (not-suc-le-zero l)
any_in P (suc n) v l p = ⊎_elim
    (λ (q : v ≡ n). or_left (P n) (any_below P n) (rw q at p))
    (λ (q : v ≡ n → ⊥). or_right (P n) (any_below P n) (any_in P n v (omega arith) p))
    (same? v n)

count_up : (P : ℕ → Bool) (n d : ℕ) → count P n ≤ count P (d + n)
unfolding count
count_up P n zero = let z : 0 + n ≡ n = omega arith in let e = ap (λ (j : ℕ). count P j) z in omega arith
count_up P n (suc d) = let ih = count_up P n d in let z : suc d + n ≡ suc (d + n) = omega arith in let e = ap (λ (j : ℕ). count P j) z in omega arith

pub count_zero : (P : ℕ → Bool) → count P 0 ≡ 0
unfolding count
count_zero P = refl

pub count_mono : (P : ℕ → Bool) (n k : ℕ) → n ≤ k → count P n ≤ count P k
count_mono P n k l = let u = count_up P n (k - n) in let z : k - n + n ≡ k = omega arith in let e = ap (λ (j : ℕ). count P j) z in omega arith

pub count_same : (P S : ℕ → Bool) → ((v : ℕ) → P v ≡ S v) → (n : ℕ) → count P n ≡ count S n
unfolding count
count_same P S h zero = refl
count_same P S h (suc n) = let a = count_same P S h n in let b : one_if (P n) ≡ one_if (S n) = ap one_if (h n) in omega arith

pub any_same : (P S : ℕ → Bool) → ((v : ℕ) → P v ≡ S v) → (n : ℕ) → any_below P n ≡ any_below S n
unfolding any_below
any_same P S h zero = refl
any_same P S h (suc n) = rw (h n, any_same P S h n)

pub count_filled : {P S : ℕ → Bool} → ((v : ℕ) → P v ≡ true → S v ≡ true) → (n : ℕ) → count S n ≤ count P n → (m : ℕ) → m < n → S m ≡ true → P m ≡ true
count_filled {P} {S} up n most m l s = ⊎_elim
    (λ (p : P m ≡ true). p)
    (λ (p : P m ≡ false). let a = count_less up m p s n l in absurd (omega arith))
    (holds? (P m))

pub one_bound : (b : Bool) → one_if b ≤ 1
one_bound true = omega arith
one_bound false = omega arith

pub count_bound : (P : ℕ → Bool) (n : ℕ) → count P n ≤ n
unfolding count
count_bound P zero = omega arith
count_bound P (suc n) = let a = count_bound P n in let b = one_bound (P n) in omega arith

-- one place of two sets, and of two that lie in their meeting and in their joining
one_both : (a b p q : Bool) → (a ≡ true → (p && q) ≡ true) → (b ≡ true → (p || q) ≡ true) → one_if a + one_if b ≤ one_if p + one_if q
one_both a b true true ha hb = let x = one_bound a in let y = one_bound b in omega arith
one_both true b true false ha hb = absurd (clash (ha refl) refl)
one_both false b true false ha hb = let y = one_bound b in omega arith
one_both true b false true ha hb = absurd (clash (ha refl) refl)
one_both false b false true ha hb = let y = one_bound b in omega arith
one_both true b false false ha hb = absurd (clash (ha refl) refl)
one_both false true false false ha hb = absurd (clash (hb refl) refl)
one_both false false false false ha hb = omega arith

pub count_both : (A B P Q : ℕ → Bool) → ((v : ℕ) → A v ≡ true → (P v && Q v) ≡ true) → ((v : ℕ) → B v ≡ true → (P v || Q v) ≡ true)
    → (n : ℕ) → count A n + count B n ≤ count P n + count Q n
unfolding count
count_both A B P Q ha hb zero = omega arith
count_both A B P Q ha hb (suc n) = let r = count_both A B P Q ha hb n in let o = one_both (A n) (B n) (P n) (Q n) (ha n) (hb n) in omega arith

one_meet : (p q : Bool) → one_if (p && q) + one_if (p || q) ≡ one_if p + one_if q
one_meet true true = refl
one_meet true false = refl
one_meet false true = refl
one_meet false false = refl

pub count_meet : (P Q : ℕ → Bool) (n : ℕ) → count (λ v. P v && Q v) n + count (λ v. P v || Q v) n ≡ count P n + count Q n
unfolding count
count_meet P Q zero = refl
count_meet P Q (suc n) = let a = count_meet P Q n in let b = one_meet (P n) (Q n) in omega arith

-- a set without a member is empty, and one with a member is not
pub count_none : (P : ℕ → Bool) (n : ℕ) → ((i : ℕ) → i < n → P i ≡ false) → count P n ≡ 0
unfolding count
count_none P zero h = refl
count_none P (suc n) h = let a = count_none P n (λ i l. h i (omega arith)) in let b : one_if (P n) ≡ 0 = ap one_if (h n (omega arith)) in omega arith

pub count_some : (P : ℕ → Bool) (m : ℕ) → P m ≡ true → (n : ℕ) → m < n → 1 ≤ count P n
count_some P m t n l = let a = count_less {P = λ v. false} {S = P} (λ v f. absurd (clash f refl)) m refl t n l in omega arith

-- the places that hold a member of S, against the elements of E
pub places_in : (S E : ℕ → Bool) (n : ℕ) (a : List ℕ) → ((i : ℕ) → i < length a → get_or a i 0 < n → S (get_or a i 0) ≡ true → E i ≡ true) → places S n a ≤ count E (length a)
unfolding count
places_in S E n a h =
    let x = places_into S E n a 0 (λ i l z s. subst (λ (j : ℕ). E j ≡ true) (omega arith) (h i l z s)) in
    let z : 0 + length a ≡ length a = omega arith in
    let y = ap (λ (j : ℕ). count E j) z in
    omega arith

pub places_on : (S E : ℕ → Bool) (n : ℕ) (a : List ℕ) → ((i : ℕ) → i < length a → E i ≡ true → (get_or a i 0 < n) × (S (get_or a i 0) ≡ true)) → count E (length a) ≤ places S n a
unfolding count
places_on S E n a h =
    let x = places_onto S E n a 0 (λ i l z. h i l (subst (λ (j : ℕ). E j ≡ true) (omega arith) z)) in
    let z : 0 + length a ≡ length a = omega arith in
    let y = ap (λ (j : ℕ). count E j) z in
    omega arith
