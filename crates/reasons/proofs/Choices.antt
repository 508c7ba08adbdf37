-- Choices: an element for each member, read as an assignment, and lists from functions. Assumes nothing.
-- latest d P n == the last number below n in the set P, or d where there is none; latest_is: it is that.
-- listed f n == the list of f 0 .. f (n - 1); listed_size, listed_at: its length and its places. cnt_once: a number that stands at one place at most.
-- listed_once: where f gives no number twice, no number stands twice in the list.
-- owner f k e == the member below k that chose e, or 255; owner_is, owner_own, owner_inv: it is that.
-- chosen_assigns: the list of the owners is an assignment. group_short: a short group, as the search says it. chosen_never: where there are such choices, no group is short.
use mathlib.Core.Path.{◌≡◌, refl, sym, ap, ◌∙◌, subst}
use mathlib.Core.Logic.{◌⊎◌, inl, inr, ⊎_elim}
use mathlib.Core.Bool.{Bool, true, false, cond}
use mathlib.Core.List.{List, [], ◌∷◌}
use Prim.Native.Nat.{ℕ, zero, suc, ◌+◌, ◌≤◌, ◌<◌, suc-le-suc}
use native.Mathlib.Nat.{not-suc-le-zero, le_of_suc-le-suc}
use native.Mathlib.Omega.{arith}
use lib.Dec.{eqb}
use lib.ListN.{length, get_or}
use borrow.Author.Tests.{eqb-true, eq-eqb}
use Rattle.facts.specs.Counting.{cnt}
use Rattle.facts.proofs.Cases.{same?, holds?, clash, hit, miss}
use Rattle.facts.proofs.Spans.{between_in}
use Rattle.blocks.specs.Assignment.{takes, Assigns, Short}
use Rattle.facts.proofs.Counting.{cnt_none, cnt_at}
use Rattle.blocks.proofs.Assignments.{takes_spare, takes_member, short_never}
use Rattle.reasons.specs.Reason.{ShortGroup, Chosen}

-- ---- the last number of a set
unfoldable pub latest : ℕ → (ℕ → Bool) → ℕ → ℕ
latest d P zero = d
latest d P (suc n) = cond (P n) n (latest d P n)

pub latest_is : (d : ℕ) (P : ℕ → Bool) (n : ℕ)
    → ((latest d P n < n) × (P (latest d P n) ≡ true)) ⊎ ((latest d P n ≡ d) × ((i : ℕ) → i < n → P i ≡ false))
unfolding latest
latest_is d P zero = inr (refl, λ i l. absurd (not-suc-le-zero l))
latest_is d P (suc n) = ⊎_elim
    (λ (t : P n ≡ true). let q : latest d P (suc n) ≡ n = ap (λ b. cond b n (latest d P n)) t in inl (omega arith, subst (λ (i : ℕ). P i ≡ true) (sym q) t))
    (λ (t : P n ≡ false).
    let q : latest d P (suc n) ≡ latest d P n = ap (λ b. cond b n (latest d P n)) t in
    ⊎_elim
    (λ (h : (latest d P n < n) × (P (latest d P n) ≡ true)). inl (let l = h.0 in omega arith, subst (λ (i : ℕ). P i ≡ true) (sym q) h.1))
    (λ (h : (latest d P n ≡ d) × ((i : ℕ) → i < n → P i ≡ false)). inr (
      q ∙ h.0,
      λ i l. ⊎_elim
          (λ (s : i ≡ n). subst (λ (j : ℕ). P j ≡ false) (sym s) t)
          (λ (s : i ≡ n → ⊥). h.1 i (omega arith))
          (same? i n),
    ))
    (latest_is d P n))
    (holds? (P n))

-- ---- a list from a function
unfoldable pub listed : (ℕ → ℕ) → ℕ → List ℕ
listed f zero = []
listed f (suc n) = f 0 ∷ listed (λ i. f (suc i)) n

pub listed_size : (f : ℕ → ℕ) (n : ℕ) → length (listed f n) ≡ n
unfolding listed
listed_size f zero = refl
listed_size f (suc n) = let a = listed_size (λ i. f (suc i)) n in omega arith

pub listed_at : (f : ℕ → ℕ) (n i : ℕ) → i < n → get_or (listed f n) i 0 ≡ f i
unfolding listed
listed_at f zero i l = absurd (not-suc-le-zero l)
listed_at f (suc n) zero l = refl
listed_at f (suc n) (suc i) l = listed_at (λ i. f (suc i)) n i (le_of_suc-le-suc l)

cnt_once : (m : ℕ) (w : List ℕ) → ((i j : ℕ) → i < j → j < length w → get_or w i 0 ≡ m → get_or w j 0 ≡ m → ⊥) → cnt m w ≤ 1
unfolding cnt
cnt_once m [] apart = omega arith
cnt_once m (y ∷ ys) apart = ⊎_elim
    (λ (q : y ≡ m). let a = hit y m q in let b = cnt_none m ys (λ e l h. apart 0 (suc e) (omega arith) (suc-le-suc l) q h) in omega arith)
    (λ (q : y ≡ m → ⊥). let a = miss y m q in let b = cnt_once m ys (λ i j l r. apart (suc i) (suc j) (suc-le-suc l) (suc-le-suc r)) in omega arith)
    (same? y m)

-- a number that f gives at one place at most
listed_single : (f : ℕ → ℕ) (n m : ℕ) → ((i j : ℕ) → i < n → j < n → f i ≡ m → f j ≡ m → i ≡ j) → cnt m (listed f n) ≤ 1
listed_single f n m single = cnt_once m (listed f n) (λ i j a b p q.
    let size = listed_size f n in
    let x = sym (listed_at f n i (omega arith)) ∙ p in
    let y = sym (listed_at f n j (omega arith)) ∙ q in
    let same = single i j (omega arith) (omega arith) x y in
    omega arith)

-- every element has a member of its own: f read as the list of the n choices
pub listed_once : (f : ℕ → ℕ) (n m : ℕ) → ((i j : ℕ) → i < n → j < n → f i ≡ f j → i ≡ j) → cnt m (listed f n) ≤ 1
listed_once f n m apart = listed_single f n m (λ i j a b p q. apart i j a b (p ∙ sym q))

-- ---- the member that chose an element
abbrev owner : (ℕ → ℕ) → ℕ → ℕ → ℕ
owner f k e = latest 255 (λ v. eqb (f v) e) k

owner_is : (f : ℕ → ℕ) (k e : ℕ) → ((owner f k e < k) × (f (owner f k e) ≡ e)) ⊎ (owner f k e ≡ 255)
owner_is f k e = ⊎_elim
    (λ (h : (owner f k e < k) × (eqb (f (owner f k e)) e ≡ true)). inl (h.0, eqb-true (f (owner f k e)) e h.1))
    (λ (h : (owner f k e ≡ 255) × ((v : ℕ) → v < k → eqb (f v) e ≡ false)). inr h.0)
    (latest_is 255 (λ v. eqb (f v) e) k)

owner_inv : (f : ℕ → ℕ) (k e m : ℕ) → k ≤ 32 → m < k → owner f k e ≡ m → f m ≡ e
owner_inv f k e m few l q = ⊎_elim
    (λ (h : (owner f k e < k) × (f (owner f k e) ≡ e)). subst (λ (v : ℕ). f v ≡ e) q h.1)
    (λ (h : owner f k e ≡ 255). absurd (omega arith))
    (owner_is f k e)

-- where no two members chose alike
owner_own : (f : ℕ → ℕ) (k m : ℕ) → m < k → ((u v : ℕ) → u < k → v < k → f u ≡ f v → u ≡ v) → owner f k (f m) ≡ m
owner_own f k m l apart = ⊎_elim
    (λ (h : (owner f k (f m) < k) × (eqb (f (owner f k (f m))) (f m) ≡ true)). apart (owner f k (f m)) m h.0 l (eqb-true (f (owner f k (f m))) (f m) h.1))
    (λ (h : (owner f k (f m) ≡ 255) × ((v : ℕ) → v < k → eqb (f v) (f m) ≡ false)). absurd (clash (eq-eqb (f m) (f m) refl) (h.1 m l)))
    (latest_is 255 (λ v. eqb (f v) (f m)) k)

-- ---- the choices as an assignment
module _ (ok : ℕ → ℕ → Bool) (k n : ℕ) (f : ℕ → ℕ) (few : k ≤ 32) (c : Chosen ok k n f) where
  owner_takes : (e : ℕ) → takes ok 0 k e (owner f k e) ≡ true
  owner_takes e = ⊎_elim
      (λ (h : (owner f k e < k) × (f (owner f k e) ≡ e)).
      let r = c.right (owner f k e) h.0 in
      takes_member ok 0 k e (owner f k e) (between_in 0 (0 + k) (owner f k e) (omega arith) (let l = h.0 in omega arith)) (subst (λ (d : ℕ). ok (owner f k e) d ≡ true) h.1 r))
      (λ (h : owner f k e ≡ 255). takes_spare ok 0 k e (owner f k e) h)
      (owner_is f k e)

  owner_right : (i : ℕ) → i < n → takes ok 0 k (0 + i) (get_or (listed (owner f k) n) i 0) ≡ true
  owner_right i l =
      let z : i ≡ 0 + i = omega arith in
      subst (λ (x : ℕ). takes ok 0 k (0 + i) x ≡ true) (sym (listed_at (owner f k) n i l)) (subst (λ (j : ℕ). takes ok 0 k j (owner f k i) ≡ true) z (owner_takes i))

  owner_some : (m : ℕ) → m < k → 1 ≤ cnt m (listed (owner f k) n)
  owner_some m l =
      let w = listed (owner f k) n in
      let here : get_or w (f m) 0 ≡ m = listed_at (owner f k) n (f m) (c.low m l) ∙ owner_own f k m l c.apart in
      let size = listed_size (owner f k) n in
      let low = c.low m l in
      subst (λ (v : ℕ). 1 ≤ cnt v w) here (cnt_at w (f m) (omega arith))

  owner_once : (m : ℕ) → m < k → cnt m (listed (owner f k) n) ≤ 1
  owner_once m l = listed_single (owner f k) n m (λ i j a b p q. sym (owner_inv f k i m few l p) ∙ owner_inv f k j m few l q)

-- the list that has at each element below n the member that chose it, or 255
pub chosen_assigns : (ok : ℕ → ℕ → Bool) (k n : ℕ) (f : ℕ → ℕ) → k ≤ 32 → Chosen ok k n f → (a : List ℕ) × Assigns ok 0 k 0 n a
chosen_assigns ok k n f few c =
    let size = listed_size (owner f k) n in (
      listed (owner f k) n,
      record {
        size = omega arith;
        right = λ i l. owner_right ok k n f few c i (omega arith);
        once = λ m a l. let x = owner_some ok k n f few c m (omega arith) in let y = owner_once ok k n f few c m (omega arith) in omega arith;
      },
    )

-- a short group, as the search says it
pub group_short : {ok : ℕ → ℕ → Bool} {k n : ℕ} {G : ℕ → Bool} → ShortGroup ok k n G → Short ok 0 k 0 n
group_short {ok} {k} {n} {G} s = record { group = G; inside = λ v g. between_in 0 (0 + k) v (omega arith) (let l = s.inside v g in omega arith); few = s.few }

pub chosen_never : {ok : ℕ → ℕ → Bool} {k n : ℕ} {f : ℕ → ℕ} {G : ℕ → Bool} → k ≤ 32 → n ≤ 32 → Chosen ok k n f → ShortGroup ok k n G → ⊥
chosen_never {ok} {k} {n} {f} {G} few short c s = let a = chosen_assigns ok k n f few c in short_never (group_short s) (omega arith) (omega arith) short a.0 a.1
