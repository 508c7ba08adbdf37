-- Laws of assignments. Assumes nothing.
-- takes_inv, takes_spare, takes_member: what a byte of an assignment is. want_inv, want_in: an element that a group may take.
-- assigns_test, test_assigns: the test `assigns` and the rules `Assigns` say the same; once_test, test_once: the same of `all_once`.
-- assigns_rows, want_same: only what members of the block may take of the piece matters. short_never: where a group is short there is no assignment.
use mathlib.Core.Path.{◌≡◌, refl, ap, ◌∙◌, subst}
use mathlib.Core.Logic.{◌⊎◌, inl, inr, ⊎_elim}
use mathlib.Core.Bool.{Bool, true, ◌&&◌}
use mathlib.Core.List.{List, [], ◌∷◌}
use Prim.Native.Nat.{ℕ, zero, suc, ◌+◌, ◌-◌, ◌≤◌, ◌<◌, suc-le-suc}
use native.Mathlib.Nat.{not-suc-le-zero, le_of_suc-le-suc}
use native.Mathlib.Omega.{arith}
use lib.Dec.{eqb}
use lib.ListN.{length, get_or}
use borrow.Author.Tests.{eqb-true, eq-eqb}
use Rattle.facts.specs.Counting.{between, cnt, count, any_below}
use Rattle.blocks.specs.Assignment.{takes, all_right, all_once, assigns, Assigns, wanted, Short}
use Rattle.facts.proofs.Cases.{same?, and_left, and_right, both, one_of, or_left, or_right}
use Rattle.facts.proofs.Spans.{between_in, between_from, between_to}
use Rattle.facts.proofs.Counting.{count_places, places_into}
use Rattle.facts.proofs.CountedSets.{any_found, any_in, count_mono}

-- ---- what a byte of an assignment is
pub takes_inv : (may : ℕ → ℕ → Bool) (first k e x : ℕ) → takes may first k e x ≡ true → (x ≡ 255) ⊎ ((between first (first + k) x ≡ true) × (may x e ≡ true))
unfolding takes
takes_inv may first k e x h = ⊎_elim
    (λ (p : eqb x 255 ≡ true). inl (eqb-true x 255 p))
    (λ (p : (between first (first + k) x && may x e) ≡ true). inr (and_left (between first (first + k) x) (may x e) p, and_right (between first (first + k) x) (may x e) p))
    (one_of (eqb x 255) (between first (first + k) x && may x e) h)

pub takes_spare : (may : ℕ → ℕ → Bool) (first k e x : ℕ) → x ≡ 255 → takes may first k e x ≡ true
unfolding takes
takes_spare may first k e x q = or_left (eqb x 255) (between first (first + k) x && may x e) (eq-eqb x 255 q)

pub takes_member : (may : ℕ → ℕ → Bool) (first k e x : ℕ) → between first (first + k) x ≡ true → may x e ≡ true → takes may first k e x ≡ true
unfolding takes
takes_member may first k e x b r = or_right (eqb x 255) (between first (first + k) x && may x e) (both (between first (first + k) x) (may x e) b r)

pub want_inv : (may : ℕ → ℕ → Bool) (group : ℕ → Bool) (e : ℕ) → wanted may group e ≡ true → (v : ℕ) × (v < 32) × (group v ≡ true) × (may v e ≡ true)
unfolding wanted
want_inv may group e h =
    let f = any_found (λ v. group v && may v e) 32 h in
    (f.0, f.1, and_left (group f.0) (may f.0 e) f.2, and_right (group f.0) (may f.0 e) f.2)

pub want_in : (may : ℕ → ℕ → Bool) (group : ℕ → Bool) (v e : ℕ) → v < 32 → group v ≡ true → may v e ≡ true → wanted may group e ≡ true
unfolding wanted
want_in may group v e l g r = any_in (λ v. group v && may v e) 32 v l (both (group v) (may v e) g r)

right_test : (may : ℕ → ℕ → Bool) (first k e : ℕ) (a : List ℕ) → ((i : ℕ) → i < length a → takes may first k (e + i) (get_or a i 0) ≡ true) → all_right may first k e a ≡ true
unfolding all_right
right_test may first k e [] h = refl
right_test may first k e (x ∷ xs) h = both (takes may first k e x) (all_right may first k (suc e) xs)
    (subst (λ (j : ℕ). takes may first k j x ≡ true) (omega arith) (h 0 (omega arith)))
    (right_test may first k (suc e) xs (λ i l. subst (λ (j : ℕ). takes may first k j (get_or xs i 0) ≡ true) (omega arith) (h (suc i) (suc-le-suc l))))

test_right : (may : ℕ → ℕ → Bool) (first k e : ℕ) (a : List ℕ) → all_right may first k e a ≡ true → (i : ℕ) → i < length a → takes may first k (e + i) (get_or a i 0) ≡ true
unfolding all_right
test_right may first k e [] h i l = absurd (not-suc-le-zero l)
test_right may first k e (x ∷ xs) h zero l = subst (λ (j : ℕ). takes may first k j x ≡ true) (omega arith) (and_left (takes may first k e x) (all_right may first k (suc e) xs) h)
test_right may first k e (x ∷ xs) h (suc i) l = subst (λ (j : ℕ). takes may first k j (get_or xs i 0) ≡ true) (omega arith)
    (test_right may first k (suc e) xs (and_right (takes may first k e x) (all_right may first k (suc e) xs) h) i (le_of_suc-le-suc l))

pub once_test : (first k : ℕ) (a : List ℕ) → ((m : ℕ) → first ≤ m → m < first + k → cnt m a ≡ 1) → all_once first k a ≡ true
unfolding all_once
once_test first zero a h = refl
once_test first (suc k) a h = both (eqb (cnt (first + k) a) 1) (all_once first k a)
    (eq-eqb (cnt (first + k) a) 1 (h (first + k) (omega arith) (omega arith))) (once_test first k a (λ m f t. h m f (omega arith)))

pub test_once : (first k : ℕ) (a : List ℕ) → all_once first k a ≡ true → (m : ℕ) → first ≤ m → m < first + k → cnt m a ≡ 1
unfolding all_once
test_once first zero a h m f t = absurd (omega arith)
test_once first (suc k) a h m f t = ⊎_elim
    (λ (q : m ≡ first + k). rw q (eqb-true (cnt (first + k) a) 1 (and_left (eqb (cnt (first + k) a) 1) (all_once first k a) h)))
    (λ (q : m ≡ first + k → ⊥). test_once first k a (and_right (eqb (cnt (first + k) a) 1) (all_once first k a) h) m f (omega arith))
    (same? m (first + k))

module _ {may : ℕ → ℕ → Bool} {first k from to : ℕ} {a : List ℕ} where
  pub assigns_test : Assigns may first k from to a → assigns may first k from a ≡ true
  unfolding assigns
  assigns_test h = both (all_right may first k from a) (all_once first k a) (right_test may first k from a h.right) (once_test first k a h.once)

  pub test_assigns : length a ≡ to - from → assigns may first k from a ≡ true → Assigns may first k from to a
  unfolding assigns
  test_assigns n h = record {
    size = n;
    right = test_right may first k from a (and_left (all_right may first k from a) (all_once first k a) h);
    once = test_once first k a (and_right (all_right may first k from a) (all_once first k a) h);
  }

pub assigns_rows : {may : ℕ → ℕ → Bool} {may' : ℕ → ℕ → Bool} {first k from to : ℕ} {a : List ℕ}
    → ((m e : ℕ) → between first (first + k) m ≡ true → between from to e ≡ true → may m e ≡ true → may' m e ≡ true)
    → Assigns may first k from to a → Assigns may' first k from to a
assigns_rows {may} {may'} {first} {k} {from} {to} {a} same h =
    let size = h.size in
    record {
      size = size;
      right = λ i l. ⊎_elim
          (λ (q : get_or a i 0 ≡ 255). takes_spare may' first k (from + i) (get_or a i 0) q)
          (λ (q : (between first (first + k) (get_or a i 0) ≡ true) × (may (get_or a i 0) (from + i) ≡ true)).
          takes_member may' first k (from + i) (get_or a i 0) q.0 (same (get_or a i 0) (from + i) q.0 (between_in from to (from + i) (omega arith) (omega arith)) q.1))
          (takes_inv may first k (from + i) (get_or a i 0) (h.right i l));
      once = h.once;
    }

-- ---- two relations that say the same of every pair of a member of the block and an element of the piece
-- a group of the block wants the same elements of the piece
pub want_same : (may may' : ℕ → ℕ → Bool) (first k from to : ℕ) → ((m e : ℕ) → between first (first + k) m ≡ true → between from to e ≡ true → may m e ≡ may' m e)
    → (group : ℕ → Bool) → ((v : ℕ) → group v ≡ true → between first (first + k) v ≡ true) → (e : ℕ)
    → (between from to e && wanted may' group e) ≡ true → (between from to e && wanted may group e) ≡ true
unfolding wanted
want_same may may' first k from to same group inside e t =
    let p = and_left (between from to e) (any_below (λ v. group v && may' v e) 32) t in
    let w = any_found (λ v. group v && may' v e) 32 (and_right (between from to e) (any_below (λ v. group v && may' v e) 32) t) in
    let g = and_left (group w.0) (may' w.0 e) w.2 in
    let o = and_right (group w.0) (may' w.0 e) w.2 in
    both (between from to e) (any_below (λ v. group v && may v e) 32) p
    (any_in (λ v. group v && may v e) 32 w.0 w.1 (both (group w.0) (may w.0 e) g (same w.0 e (inside w.0 g) p ∙ o)))

-- ---- where a group is short there is no assignment
pub short_never : {may : ℕ → ℕ → Bool} {first k from to : ℕ} → Short may first k from to → first + k ≤ 32 → from ≤ to → to ≤ 32
    → (a : List ℕ) → Assigns may first k from to a → ⊥
short_never {may} {first} {k} {from} {to} s block piece end a h =
    let group = s.group in
    let E : ℕ → Bool = λ e. between from to e && wanted may group e in
    let size = h.size in
    let x = places_into group E 32 a from (λ i l z g.
    let r : may (get_or a i 0) (from + i) ≡ true = ⊎_elim
    (λ (q : get_or a i 0 ≡ 255). absurd (omega arith))
    (λ (q : (between first (first + k) (get_or a i 0) ≡ true) × (may (get_or a i 0) (from + i) ≡ true)). q.1)
    (takes_inv may first k (from + i) (get_or a i 0) (h.right i l)) in
    both (between from to (from + i)) (wanted may group (from + i)) (between_in from to (from + i) (omega arith) (omega arith)) (want_in may group (get_or a i 0) (from + i) z g r)) in
    let y = count_places group 32 a (λ v l g.
    let i = s.inside v g in
    let o = h.once v (between_from first (first + k) v i) (between_to first (first + k) v i) in
    omega arith) in
    let n : from + length a ≡ to = omega arith in
    let e : count E (from + length a) ≡ count E to = ap (λ (j : ℕ). count E j) n in
    let u = count_mono E to 32 end in
    let f = s.few in
    omega arith
