-- Laws of counting, for this crate and those above. Assumes nothing.
-- cnt_append, cnt_set, cnt_replicate, cnt_at, cnt_place, cnt_none, cnt_two: how many places of a list hold a number.
-- count_less: a set with fewer members. double_count: the places of a list that hold a member of a set are the members' counts together.
-- places_into, places_onto: the places that hold members of a set, against a set of elements.
use mathlib.Core.Path.{◌≡◌, refl, sym, ap, ◌∙◌, subst}
use mathlib.Core.Logic.{◌⊎◌, ⊎_elim}
use mathlib.Core.Bool.{Bool, true, false, ◌&&◌}
use mathlib.Core.List.{List, [], ◌∷◌, ◌++◌}
use Prim.Native.Nat.{ℕ, zero, suc, ◌+◌, ◌≤◌, ◌<◌, suc-le-suc}
use native.Mathlib.Nat.{not-suc-le-zero, le_of_suc-le-suc}
use native.Mathlib.Omega.{arith}
use lib.Dec.{eqb, ltb}
use lib.ListN.{length, get_or, set, replicate}
use borrow.Author.Tests.{eq-eqb, ne_eqb, lt-ltb, le-ltb}
use Rattle.facts.specs.Counting.{one_if, cnt, count, total, only_if, each, places, Stands}
use Rattle.facts.proofs.Cases.{same?, below, holds?, clash, hit, miss}

-- ---- cnt
pub cnt_append : (v : ℕ) (a b : List ℕ) → cnt v (a ++ b) ≡ cnt v a + cnt v b
unfolding cnt
cnt_append v [] b = omega arith
cnt_append v (x ∷ xs) b = let ih = cnt_append v xs b in omega arith

-- a store changes two counts
pub cnt_set : (v : ℕ) (w : List ℕ) (e x : ℕ) → e < length w → cnt v (set w e x) + one_if (eqb (get_or w e 0) v) ≡ cnt v w + one_if (eqb x v)
unfolding cnt
cnt_set v [] e x h = absurd (not-suc-le-zero h)
cnt_set v (y ∷ ys) zero x h = omega arith
cnt_set v (y ∷ ys) (suc e) x h = let ih = cnt_set v ys e x (le_of_suc-le-suc h) in omega arith

pub cnt_replicate : (v x : ℕ) → (x ≡ v → ⊥) → (n : ℕ) → cnt v (replicate n x) ≡ 0
unfolding cnt
cnt_replicate v x h zero = refl
cnt_replicate v x h (suc n) = let a = cnt_replicate v x h n in let b = miss x v h in omega arith

-- what stands in the list is counted
pub cnt_at : (w : List ℕ) (e : ℕ) → e < length w → 1 ≤ cnt (get_or w e 0) w
unfolding cnt
cnt_at [] e h = absurd (not-suc-le-zero h)
cnt_at (y ∷ ys) zero h = let a = hit y y refl in omega arith
cnt_at (y ∷ ys) (suc e) h = let a = cnt_at ys e (le_of_suc-le-suc h) in omega arith

-- what is counted stands somewhere
pub cnt_place : (v : ℕ) (w : List ℕ) → 1 ≤ cnt v w → Stands v w (length w)
unfolding cnt
cnt_place v [] h = absurd (not-suc-le-zero h)
cnt_place v (y ∷ ys) h = ⊎_elim
    (λ (q : y ≡ v). record { place = 0; early = omega arith; here = q })
    (λ (q : y ≡ v → ⊥). let a = miss y v q in let s = cnt_place v ys (omega arith) in record { place = suc s.place; early = suc-le-suc s.early; here = s.here })
    (same? y v)

pub cnt_none : (v : ℕ) (w : List ℕ) → ((e : ℕ) → e < length w → get_or w e 0 ≡ v → ⊥) → cnt v w ≡ 0
cnt_none v w never = ⊎_elim
    (λ (l : cnt v w < 1). omega arith)
    (λ (l : 1 ≤ cnt v w). let s = cnt_place v w l in absurd (never s.place s.early s.here))
    (below (cnt v w) 1)

-- two places that hold the same
pub cnt_two : (w : List ℕ) (i j : ℕ) → i < j → j < length w → get_or w i 0 ≡ get_or w j 0 → 2 ≤ cnt (get_or w j 0) w
unfolding cnt
cnt_two [] i j l h q = absurd (not-suc-le-zero h)
cnt_two (y ∷ ys) i zero l h q = absurd (not-suc-le-zero l)
cnt_two (y ∷ ys) zero (suc j) l h q = let a = hit y (get_or ys j 0) q in let b = cnt_at ys j (le_of_suc-le-suc h) in omega arith
cnt_two (y ∷ ys) (suc i) (suc j) l h q = let a = cnt_two ys i j (le_of_suc-le-suc l) (le_of_suc-le-suc h) q in omega arith

-- ---- a set with a member more
one_if_le : (p s : Bool) → (p ≡ true → s ≡ true) → one_if p ≤ one_if s
one_if_le true true h = omega arith
one_if_le true false h = absurd (clash (h refl) refl)
one_if_le false true h = omega arith
one_if_le false false h = omega arith

module _ {P S : ℕ → Bool} (up : (v : ℕ) → P v ≡ true → S v ≡ true) where
  pub count_le : (n : ℕ) → count P n ≤ count S n
  unfolding count
  count_le zero = omega arith
  count_le (suc n) = let a = count_le n in let b = one_if_le (P n) (S n) (up n) in omega arith

  pub count_less : (m : ℕ) → P m ≡ false → S m ≡ true → (n : ℕ) → m < n → count P n < count S n
  unfolding count
  count_less m p s zero l = absurd (not-suc-le-zero l)
  count_less m p s (suc n) l = ⊎_elim
      (λ (q : m ≡ n).
      let a : one_if (P n) ≡ 0 = ap one_if (rw q at p) in
      let b : one_if (S n) ≡ 1 = ap one_if (rw q at s) in
      let d = count_le n in
      omega arith)
      (λ (q : m ≡ n → ⊥). let a = count_less m p s n (omega arith) in let b = one_if_le (P n) (S n) (up n) in omega arith)
      (same? m n)

-- ---- sums
total_add : (f g : ℕ → ℕ) (n : ℕ) → total (λ v. f v + g v) n ≡ total f n + total g n
unfolding total
total_add f g zero = refl
total_add f g (suc n) = let a = total_add f g n in omega arith

total_le : (f g : ℕ → ℕ) (n : ℕ) → ((v : ℕ) → v < n → f v ≤ g v) → total f n ≤ total g n
unfolding total
total_le f g zero h = omega arith
total_le f g (suc n) h = let a = total_le f g n (λ v l. h v (omega arith)) in let b = h n (omega arith) in omega arith

total_lt : (f g : ℕ → ℕ) (m : ℕ) → f m < g m → (n : ℕ) → ((v : ℕ) → v < n → f v ≤ g v) → m < n → total f n < total g n
unfolding total
total_lt f g m l zero h z = absurd (not-suc-le-zero z)
total_lt f g m l (suc n) h z = ⊎_elim
    (λ (q : m ≡ n). let a = total_le f g n (λ v l. h v (omega arith)) in let b : f n < g n = rw q at l in omega arith)
    (λ (q : m ≡ n → ⊥). let a = total_lt f g m l n (λ v l. h v (omega arith)) (omega arith) in let b = h n (omega arith) in omega arith)
    (same? m n)

total_zero : (f : ℕ → ℕ) → ((v : ℕ) → f v ≡ 0) → (n : ℕ) → total f n ≡ 0
unfolding total
total_zero f h zero = refl
total_zero f h (suc n) = let a = total_zero f h n in let b = h n in omega arith

only_if_add : (b : Bool) (j k : ℕ) → only_if b (j + k) ≡ only_if b j + only_if b k
unfolding only_if
only_if_add true j k = refl
only_if_add false j k = refl

only_if_zero : (b : Bool) → only_if b 0 ≡ 0
unfolding only_if
only_if_zero true = refl
only_if_zero false = refl

only_if_true : (b : Bool) (k : ℕ) → b ≡ true → only_if b k ≡ k
unfolding only_if
only_if_true b k h = ap (λ c. only_if c k) h

only_if_le : (b : Bool) (j k : ℕ) → (b ≡ true → j ≤ k) → only_if b j ≤ only_if b k
unfolding only_if
only_if_le true j k h = h refl
only_if_le false j k h = omega arith

only_if_one : (b : Bool) → only_if b 1 ≡ one_if b
unfolding only_if
only_if_one true = refl
only_if_one false = refl

pub count_total : (S : ℕ → Bool) (n : ℕ) → total (λ v. only_if (S v) 1) n ≡ count S n
unfolding total count
count_total S zero = refl
count_total S (suc n) = let a = count_total S n in let b = only_if_one (S n) in omega arith

-- ---- the double count
in_place : (S : ℕ → Bool) (x n : ℕ) → x < n → one_if (ltb x n && S x) ≡ one_if (S x)
in_place S x n l = ap (λ b. one_if (b && S x)) (lt-ltb x n l)

out_place : (S : ℕ → Bool) (x n : ℕ) → n ≤ x → one_if (ltb x n && S x) ≡ 0
out_place S x n l = ap (λ b. one_if (b && S x)) (le-ltb x n l)

-- one place counts for one member
one_place : (S : ℕ → Bool) (x n : ℕ) → total (λ v. only_if (S v) (one_if (eqb x v))) n ≡ one_if (ltb x n && S x)
unfolding total
one_place S x zero = sym (out_place S x 0 (omega arith))
one_place S x (suc n) =
    let ih = one_place S x n in
    ⊎_elim
    (λ (q : x ≡ n).
    let a : only_if (S n) (one_if (eqb x n)) ≡ one_if (S x) = ap (λ b. only_if (S n) (one_if b)) (eq-eqb x n q) ∙ only_if_one (S n) ∙ ap (λ k. one_if (S k)) (sym q) in
    let b = out_place S x n (omega arith) in
    let d = in_place S x (suc n) (omega arith) in
    omega arith)
    (λ (q : x ≡ n → ⊥).
    let a : only_if (S n) (one_if (eqb x n)) ≡ 0 = ap (λ b. only_if (S n) (one_if b)) (ne_eqb x n q) ∙ only_if_zero (S n) in
    ⊎_elim
    (λ (l : x < n). let b = in_place S x n l in let d = in_place S x (suc n) (omega arith) in omega arith)
    (λ (l : n ≤ x). let b = out_place S x n (omega arith) in let d = out_place S x (suc n) (omega arith) in omega arith)
    (below x n))
    (same? x n)

pub double_count : (S : ℕ → Bool) (n : ℕ) (a : List ℕ) → each S n a ≡ places S n a
unfolding places cnt
double_count S n [] = total_zero _ (λ v. only_if_zero (S v)) n
double_count S n (x ∷ xs) =
    let ih = double_count S n xs in
    let h = one_place S x n in
    let split = total_add (λ v. only_if (S v) (one_if (eqb x v))) (λ v. only_if (S v) (cnt v xs)) n in
    let whole : total (λ v. only_if (S v) (one_if (eqb x v) + cnt v xs)) n ≡ total (λ v. only_if (S v) (one_if (eqb x v)) + only_if (S v) (cnt v xs)) n = simp only_if_add in
    omega arith

-- each member of S has a place: the set is no larger than its places
pub count_places : (S : ℕ → Bool) (n : ℕ) (a : List ℕ) → ((v : ℕ) → v < n → S v ≡ true → 1 ≤ cnt v a) → count S n ≤ places S n a
count_places S n a all =
    let x = total_le (λ v. only_if (S v) 1) (λ v. only_if (S v) (cnt v a)) n (λ v z. only_if_le (S v) _ _ (all v z)) in
    let y = count_total S n in
    let z = double_count S n a in
    omega arith

-- each member of S has at most one place, and one has none: there are fewer places than members
pub places_count : (S : ℕ → Bool) (n : ℕ) (w : List ℕ) (m : ℕ) → m < n → S m ≡ true → cnt m w ≡ 0
    → ((v : ℕ) → v < n → S v ≡ true → cnt v w ≤ 1) → places S n w < count S n
places_count S n w m low self none once =
    let fw : ℕ → ℕ = λ v. only_if (S v) (cnt v w) in
    let f1 : ℕ → ℕ = λ v. only_if (S v) 1 in
    let p = only_if_true (S m) (cnt m w) self in
    let q = only_if_true (S m) 1 self in
    let x = total_lt fw f1 m (omega arith) n (λ v z. only_if_le (S v) _ _ (once v z)) low in
    let y = count_total S n in
    let z = double_count S n w in
    omega arith

-- ---- places against places, and against elements

-- a place that holds a member of S
held_place : (S : ℕ → Bool) (n x : ℕ) → one_if (ltb x n && S x) ≤ 1
held_place S n x = ⊎_elim
    (λ (s : (ltb x n && S x) ≡ true). let a : one_if (ltb x n && S x) ≡ 1 = ap one_if s in omega arith)
    (λ (s : (ltb x n && S x) ≡ false). let a : one_if (ltb x n && S x) ≡ 0 = ap one_if s in omega arith)
    (holds? (ltb x n && S x))

place_le : (S : ℕ → Bool) (n x k : ℕ) → (x < n → S x ≡ true → 1 ≤ k) → one_if (ltb x n && S x) ≤ k
place_le S n x k h = ⊎_elim
    (λ (l : x < n). ⊎_elim
    (λ (s : S x ≡ true). let a = held_place S n x in let b = h l s in omega arith)
    (λ (s : S x ≡ false). let a = in_place S x n l in let b : one_if (S x) ≡ 0 = ap one_if s in omega arith)
    (holds? (S x)))
    (λ (l : n ≤ x). let a = out_place S x n l in omega arith)
    (below x n)

is_held : (S : ℕ → Bool) (n y : ℕ) → y < n → S y ≡ true → 1 ≤ one_if (ltb y n && S y)
is_held S n y l s = let a = in_place S y n l in let b : one_if (S y) ≡ 1 = ap one_if s in omega arith

-- a list whose every member of S stands where the other list has one too has no more such places
pub places_le : (S : ℕ → Bool) (n : ℕ) (a w : List ℕ) → length a ≡ length w
    → ((e : ℕ) → e < length a → get_or a e 0 < n → S (get_or a e 0) ≡ true → (get_or w e 0 < n) × (S (get_or w e 0) ≡ true))
    → places S n a ≤ places S n w
unfolding places
places_le S n [] w l h = omega arith
places_le S n (x ∷ xs) [] l h = omega arith
places_le S n (x ∷ xs) (y ∷ ys) l h =
    let ih = places_le S n xs ys (omega arith) (λ e z. h (suc e) (suc-le-suc z)) in
    let b = place_le S n x (one_if (ltb y n && S y)) (λ z s. let t = h 0 (omega arith) z s in is_held S n y t.0 t.1) in
    omega arith

-- each place that holds a member of S is an element of E: no more such places than such elements
pub places_into : (S E : ℕ → Bool) (n : ℕ) (a : List ℕ) (from : ℕ)
    → ((i : ℕ) → i < length a → get_or a i 0 < n → S (get_or a i 0) ≡ true → E (from + i) ≡ true)
    → places S n a + count E from ≤ count E (from + length a)
unfolding places count
places_into S E n [] from h = let z : from + 0 ≡ from = omega arith in let d = ap (λ (j : ℕ). count E j) z in omega arith
places_into S E n (x ∷ xs) from h =
    let ih = places_into S E n xs (suc from) (λ i l z s. subst (λ (j : ℕ). E j ≡ true) (omega arith) (h (suc i) (suc-le-suc l) z s)) in
    let b = place_le S n x (one_if (E from)) (λ z s. let t : E from ≡ true = subst (λ (j : ℕ). E j ≡ true) (omega arith) (h 0 (omega arith) z s) in let u : one_if (E from) ≡ 1 = ap one_if t in omega arith) in
    let z : suc from + length xs ≡ from + suc (length xs) = omega arith in
    let d = ap (λ (j : ℕ). count E j) z in
    omega arith

-- each element of E is a place that holds a member of S: no more such elements than such places
pub places_onto : (S E : ℕ → Bool) (n : ℕ) (w : List ℕ) (from : ℕ)
    → ((i : ℕ) → i < length w → E (from + i) ≡ true → (get_or w i 0 < n) × (S (get_or w i 0) ≡ true))
    → count E (from + length w) ≤ places S n w + count E from
unfolding places count
places_onto S E n [] from h = let z : from + 0 ≡ from = omega arith in let d = ap (λ (j : ℕ). count E j) z in omega arith
places_onto S E n (x ∷ xs) from h =
    let ih = places_onto S E n xs (suc from) (λ i l z. h (suc i) (suc-le-suc l) (subst (λ (j : ℕ). E j ≡ true) (omega arith) z)) in
    let b : one_if (E from) ≤ one_if (ltb x n && S x) = ⊎_elim
    (λ (t : E from ≡ true).
    let u : one_if (E from) ≡ 1 = ap one_if t in
    let r = h 0 (omega arith) (subst (λ (j : ℕ). E j ≡ true) (omega arith) t) in
    let v = is_held S n x r.0 r.1 in
    omega arith)
    (λ (t : E from ≡ false). let u : one_if (E from) ≡ 0 = ap one_if t in omega arith)
    (holds? (E from)) in
    let z : suc from + length xs ≡ from + suc (length xs) = omega arith in
    let d = ap (λ (j : ℕ). count E j) z in
    omega arith
