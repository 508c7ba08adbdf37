-- Hall's theorem: each member can choose an element of its own, or a group is short. Assumes nothing. The proof is Rado's.
-- Enough ok k n <-> no group matches fewer elements than it has members; enough?: it is decided, by a group of greatest shortfall.
-- without ok v d == the relation ok, less that v matches d; keep_member, keep_element: what stays of it.
-- crossed: of a group short without (v, d) and one short without (v, e), the counts together; so cut: without one of the two there is still enough.
-- thin_row, thin_rows: pair by pair, down to a relation in which each member matches one element at most, and there is still enough.
-- has_element, single_apart: there each member matches one, and no two the same. hall: the theorem.
use mathlib.Core.Path.{◌≡◌, refl, sym, ap, ◌∙◌, subst}
use mathlib.Core.Logic.{◌⊎◌, inl, inr, ⊎_elim}
use mathlib.Core.Bool.{Bool, true, false, ◌&&◌, ◌||◌, not}
use Prim.Native.Nat.{ℕ, zero, suc, ◌+◌, ◌≤◌, ◌<◌}
use native.Mathlib.Nat.{not-suc-le-zero}
use native.Mathlib.Omega.{arith}
use lib.Dec.{eqb}
use borrow.Author.Tests.{eqb-true, eq-eqb, ne_eqb}
use Rattle.facts.specs.Counting.{one_if, count}
use Rattle.facts.proofs.Cases.{same?, below, holds?, clash, not_so, and_left, and_right, both, one_of, or_left, or_right}
use Rattle.facts.proofs.Counting.{count_le, count_less}
use Rattle.reasons.specs.Reason.{matched, size_of, Group, ShortGroup, Chosen}
use Rattle.facts.proofs.CountedSets.{count_none, count_both, count_meet, count_some, one_bound}
use Rattle.reasons.proofs.Groups.{met, met_in, met_low, met_inv, reason_exists}
use Rattle.reasons.proofs.Choices.{latest, latest_is}

-- ---- small counts
count_single : (P : ℕ → Bool) → ((i j : ℕ) → P i ≡ true → P j ≡ true → i ≡ j) → (n : ℕ) → count P n ≤ 1
unfolding count
count_single P single zero = omega arith
count_single P single (suc n) = ⊎_elim
    (λ (t : P n ≡ true).
    let a = count_none P n (λ i l. not_so (P i) (λ s. let q = single i n s t in omega arith)) in
    let b = one_bound (P n) in
    omega arith)
    (λ (t : P n ≡ false). let a = count_single P single n in let b : one_if (P n) ≡ 0 = ap one_if t in omega arith)
    (holds? (P n))

-- the set of one number
abbrev only : ℕ → ℕ → Bool
only v u = eqb u v

only_self : (v : ℕ) → only v v ≡ true
only_self v = eq-eqb v v refl

only_is : (v u : ℕ) → only v u ≡ true → u ≡ v
only_is v u = eqb-true u v

only_one_lem : (v n : ℕ) → count (only v) n ≤ 1
only_one_lem v = count_single (only v) (λ i j p q. only_is v i p ∙ sym (only_is v j q))

count_two : (P : ℕ → Bool) (u v n : ℕ) → (v ≡ u → ⊥) → u < n → v < n → P u ≡ true → P v ≡ true → 2 ≤ count P n
count_two P u v n d a b p q =
    let x = count_less {P = only u} {S = P} (λ w t. subst (λ (i : ℕ). P i ≡ true) (sym (only_is u w t)) p) v (ne_eqb v u d) q n b in
    let y = count_some (only u) u (only_self u) n a in
    omega arith

-- a set less one number
abbrev less : (ℕ → Bool) → ℕ → ℕ → Bool
less P v u = P u && not (only v u)

less_in : (P : ℕ → Bool) (v u : ℕ) → (u ≡ v → ⊥) → P u ≡ true → less P v u ≡ true
less_in P v u d p = both (P u) (not (only v u)) p (ap not (ne_eqb u v d))

less_other : (P : ℕ → Bool) (v u : ℕ) → less P v u ≡ true → u ≡ v → ⊥
less_other P v u h q = clash (and_right (P u) (not (only v u)) h) (ap not (eq-eqb u v q))

count_less_one : (P : ℕ → Bool) (v n : ℕ) → count P n ≤ count (less P v) n + 1
count_less_one P v n =
    let a = count_le {P = P} {S = λ u. less P v u || only v u} (λ u p. ⊎_elim
    (λ (q : u ≡ v). or_right (less P v u) (only v u) (eq-eqb u v q))
    (λ (q : u ≡ v → ⊥). or_left (less P v u) (only v u) (less_in P v u q p))
    (same? u v)) n in
    let b = count_meet (less P v) (only v) n in
    let d = only_one_lem v n in
    omega arith

-- ---- no group is short
abbrev Enough : (ℕ → ℕ → Bool) → ℕ → ℕ → Type 0
Enough ok k n = (G : ℕ → Bool) → Group k G → size_of G ≤ matched ok n G

enough? : (ok : ℕ → ℕ → Bool) (k n : ℕ) → k ≤ 32 → Enough ok k n ⊎ ((G : ℕ → Bool) × ShortGroup ok k n G)
enough? ok k n few =
    let r = reason_exists ok k n few in
    let G = r.0 in
    let m = r.1.most in
    ⊎_elim
    (λ (l : matched ok n G < size_of G). inr (G, record { inside = m.inside; few = l }))
    (λ (l : size_of G ≤ matched ok n G). inl (λ H inside. let a = m.most H inside in omega arith))
    (below (matched ok n G) (size_of G))

-- ---- a relation less one pair
abbrev without : (ℕ → ℕ → Bool) → ℕ → ℕ → ℕ → ℕ → Bool
without ok v d u e = ok u e && not (only v u && only d e)

without_in : (ok : ℕ → ℕ → Bool) (v d u e : ℕ) → without ok v d u e ≡ true → ok u e ≡ true
without_in ok v d u e = and_left (ok u e) (not (only v u && only d e))

without_here : (ok : ℕ → ℕ → Bool) (v d e : ℕ) → without ok v d v e ≡ true → e ≡ d → ⊥
without_here ok v d e h q = clash (and_right (ok v e) (not (only v v && only d e)) h) (ap not (both (only v v) (only d e) (only_self v) (eq-eqb e d q)))

keep_member : (ok : ℕ → ℕ → Bool) (v d u e : ℕ) → (u ≡ v → ⊥) → ok u e ≡ true → without ok v d u e ≡ true
keep_member ok v d u e q o = both (ok u e) (not (only v u && only d e)) o (ap not (not_so (only v u && only d e) (λ t. q (only_is v u (and_left (only v u) (only d e) t)))))

keep_element : (ok : ℕ → ℕ → Bool) (v d u e : ℕ) → (e ≡ d → ⊥) → ok u e ≡ true → without ok v d u e ≡ true
keep_element ok v d u e q o = both (ok u e) (not (only v u && only d e)) o (ap not (not_so (only v u && only d e) (λ t. q (only_is d e (and_right (only v u) (only d e) t)))))

module _ (ok : ℕ → ℕ → Bool) (k n : ℕ) (few : k ≤ 32) where
  -- a group that the pair does not touch matches as before, so that a group that is short without it has its member
  met_kept : (v d : ℕ) (G : ℕ → Bool) → G v ≡ false → (e : ℕ) → met ok n G e ≡ true → met (without ok v d) n G e ≡ true
  met_kept v d G out e h =
      let f = met_inv ok n G e h in
      met_in (without ok v d) n G f.0 e (met_low ok n G e h) f.1 f.2
      (keep_member ok v d f.0 e (λ q. clash (subst (λ (u : ℕ). G u ≡ true) q f.2) out) f.3)

  short_has : Enough ok k n → (v d : ℕ) (G : ℕ → Bool) → ShortGroup (without ok v d) k n G → G v ≡ true
  short_has enough v d G s = ⊎_elim
      (λ (t : G v ≡ true). t)
      (λ (t : G v ≡ false).
      let a = count_le {P = met ok n G} {S = met (without ok v d) n G} (met_kept v d G t) 32 in
      let b = enough G s.inside in
      let c = s.few in
      absurd (omega arith))
      (holds? (G v))

  -- ---- two groups, one for each of two pairs of one member
  module _ (v d e : ℕ) (apart : d ≡ e → ⊥) (A B : ℕ → Bool) (a : A v ≡ true) (b : B v ≡ true) (in_a : Group k A) (in_b : Group k B) where
    abbrev meeting : ℕ → Bool
    meeting = less (λ u. A u && B u) v

    abbrev joining : ℕ → Bool
    joining u = A u || B u

    crossed_meet : (x : ℕ) → met ok n meeting x ≡ true → (met (without ok v d) n A x && met (without ok v e) n B x) ≡ true
    crossed_meet x h =
        let f = met_inv ok n meeting x h in
        let u = f.0 in
        let low = met_low ok n meeting x h in
        let other = less_other (λ u. A u && B u) v u f.2 in
        let in_both = and_left (A u && B u) (not (only v u)) f.2 in
        both (met (without ok v d) n A x) (met (without ok v e) n B x)
        (met_in (without ok v d) n A u x low f.1 (and_left (A u) (B u) in_both) (keep_member ok v d u x other f.3))
        (met_in (without ok v e) n B u x low f.1 (and_right (A u) (B u) in_both) (keep_member ok v e u x other f.3))

    crossed_join : (x : ℕ) → met ok n joining x ≡ true → (met (without ok v d) n A x || met (without ok v e) n B x) ≡ true
    crossed_join x h =
        let f = met_inv ok n joining x h in
        let u = f.0 in
        let low = met_low ok n joining x h in
        let L = met (without ok v d) n A x in
        let R = met (without ok v e) n B x in
        ⊎_elim
        (λ (q : u ≡ v).
        let o : ok v x ≡ true = subst (λ (i : ℕ). ok i x ≡ true) q f.3 in
        let l : v < 32 = let z = in_a v a in omega arith in
        ⊎_elim
        (λ (z : x ≡ d). or_right L R (met_in (without ok v e) n B v x low l b (keep_element ok v e v x (λ y. apart (sym z ∙ y)) o)))
        (λ (z : x ≡ d → ⊥). or_left L R (met_in (without ok v d) n A v x low l a (keep_element ok v d v x z o)))
        (same? x d))
        (λ (q : u ≡ v → ⊥). ⊎_elim
        (λ (g : A u ≡ true). or_left L R (met_in (without ok v d) n A u x low f.1 g (keep_member ok v d u x q f.3)))
        (λ (g : B u ≡ true). or_right L R (met_in (without ok v e) n B u x low f.1 g (keep_member ok v e u x q f.3)))
        (one_of (A u) (B u) f.2))
        (same? u v)

    -- where there is enough, not both are short
    crossed : Enough ok k n → size_of A + size_of B ≤ matched (without ok v d) n A + matched (without ok v e) n B + 1
    crossed enough =
        let c = count_both (met ok n meeting) (met ok n joining) (met (without ok v d) n A) (met (without ok v e) n B) crossed_meet crossed_join 32 in
        let p = enough meeting (λ u t. in_a u (and_left (A u) (B u) (and_left (A u && B u) (not (only v u)) t))) in
        let q = enough joining (λ u t. ⊎_elim (in_a u) (in_b u) (one_of (A u) (B u) t)) in
        let r = count_less_one (λ u. A u && B u) v 32 in
        let s = count_meet A B 32 in
        omega arith

  cut : Enough ok k n → (v d e : ℕ) → (d ≡ e → ⊥) → Enough (without ok v d) k n ⊎ Enough (without ok v e) k n
  cut enough v d e apart = ⊎_elim
      (λ (y : Enough (without ok v d) k n). inl y)
      (λ (y : (A : ℕ → Bool) × ShortGroup (without ok v d) k n A). ⊎_elim
      (λ (z : Enough (without ok v e) k n). inr z)
      (λ (z : (B : ℕ → Bool) × ShortGroup (without ok v e) k n B).
      let c = crossed v d e apart y.0 z.0 (short_has enough v d y.0 y.1) (short_has enough v e z.0 z.1) y.1.inside z.1.inside enough in
      let s = y.1.few in
      let t = z.1.few in
      absurd (omega arith))
      (enough? (without ok v e) k n few))
      (enough? (without ok v d) k n few)

-- ---- one element at most for each member
-- of the elements below i the member v matches one at most
abbrev Single : (ℕ → ℕ → Bool) → ℕ → ℕ → Type 0
Single ok v i = (d e : ℕ) → d < i → e < i → ok v d ≡ true → ok v e ≡ true → d ≡ e

-- a relation inside ok with enough, where the members below j match one element below n at most, and v one below i
record Thin (ok : ℕ → ℕ → Bool) (k n j v i : ℕ) : Type 0 where
  left : ℕ → ℕ → Bool
  inside : (u e : ℕ) → left u e ≡ true → ok u e ≡ true
  enough : Enough left k n
  done : (u : ℕ) → u < j → Single left u n
  row : Single left v i

single_in : (ok less-ok : ℕ → ℕ → Bool) (v i : ℕ) → ((e : ℕ) → less-ok v e ≡ true → ok v e ≡ true) → Single ok v i → Single less-ok v i
single_in ok less-ok v i up s d e a b p q = s d e a b (up d p) (up e q)

-- one element more, which is not matched
single_next : (ok : ℕ → ℕ → Bool) (v i : ℕ) → (ok v i ≡ true → ⊥) → Single ok v i → Single ok v (suc i)
single_next ok v i out s d e a b p q =
    let x : d < i = let z : d ≡ i → ⊥ = λ y. out (subst (λ (j : ℕ). ok v j ≡ true) y p) in omega arith in
    let y : e < i = let z : e ≡ i → ⊥ = λ y. out (subst (λ (j : ℕ). ok v j ≡ true) y q) in omega arith in
    s d e x y p q

-- one element more, and none before it is matched
single_last : (ok : ℕ → ℕ → Bool) (v i : ℕ) → ((e : ℕ) → e < i → ok v e ≡ true → ⊥) → Single ok v (suc i)
single_last ok v i none d e a b p q =
    let at_end : (x : ℕ) → x < suc i → ok v x ≡ true → x ≡ i = λ x l o. ⊎_elim (λ (z : x < i). absurd (none x z o)) (λ (z : i ≤ x). omega arith) (below x i) in
    at_end d a p ∙ sym (at_end e b q)

module _ (ok : ℕ → ℕ → Bool) (k n : ℕ) (few : k ≤ 32) where
  -- the same relation at the next element
  thin_same : (j v i : ℕ) (t : Thin ok k n j v i) → Single t.left v (suc i) → Thin ok k n j v (suc i)
  thin_same j v i t s = record { left = t.left; inside = t.inside; enough = t.enough; done = t.done; row = s }

  -- less one pair at the next element
  thin_cut : (j v i d : ℕ) (t : Thin ok k n j v i) → Enough (without t.left v d) k n → Single (without t.left v d) v (suc i) → Thin ok k n j v (suc i)
  thin_cut j v i d t enough s =
      let R = t.left in
      record {
        left = without R v d;
        inside = λ u e h. t.inside u e (without_in R v d u e h);
        enough = enough;
        done = λ u l. single_in R (without R v d) u n (λ e. without_in R v d u e) (t.done u l);
        row = s;
      }

  -- the element i and an earlier one: without one of the two there is still enough
  thin_two : (j v i d : ℕ) (t : Thin ok k n j v i) → d < i → t.left v d ≡ true → Thin ok k n j v (suc i)
  thin_two j v i d t l o =
      let R = t.left in
      ⊎_elim
      (λ (h : Enough (without R v d) k n). thin_cut j v i d t h (single_last (without R v d) v i (λ e z p.
      without_here R v d e p (t.row e d z l (without_in R v d v e p) o))))
      (λ (h : Enough (without R v i) k n). thin_cut j v i i t h (single_next (without R v i) v i (λ p. without_here R v i i p refl)
      (single_in R (without R v i) v i (λ e. without_in R v i v e) t.row)))
      (cut R k n few t.enough v d i (λ (q : d ≡ i). omega arith))

  thin_step : (j v i : ℕ) → Thin ok k n j v i → Thin ok k n j v (suc i)
  thin_step j v i t =
      let R = t.left in
      let d = latest 0 (R v) i in
      ⊎_elim
      (λ (h : (d < i) × (R v d ≡ true)). thin_two j v i d t h.0 h.1)
      (λ (h : (d ≡ 0) × ((e : ℕ) → e < i → R v e ≡ false)). thin_same j v i t (single_last R v i (λ e l o. clash o (h.1 e l))))
      (latest_is 0 (R v) i)

  thin_row : (j v : ℕ) → Thin ok k n j v 0 → (i : ℕ) → Thin ok k n j v i
  thin_row j v t zero = t
  thin_row j v t (suc i) = thin_step j v i (thin_row j v t i)

  -- the row of the member j is done: one member more
  thin_next : (j : ℕ) → Thin ok k n j j n → Thin ok k n (suc j) (suc j) 0
  thin_next j t = record {
    left = t.left;
    inside = t.inside;
    enough = t.enough;
    done = λ u l. ⊎_elim
        (λ (q : u ≡ j). subst (λ (i : ℕ). Single t.left i n) (sym q) t.row)
        (λ (q : u ≡ j → ⊥). t.done u (omega arith))
        (same? u j);
    row = λ d e l. absurd (not-suc-le-zero l);
  }

  thin_rows : Enough ok k n → (j : ℕ) → Thin ok k n j j 0
  thin_rows enough zero = record { left = ok; inside = λ u e h. h; enough = enough; done = λ u l. absurd (not-suc-le-zero l); row = λ d e l. absurd (not-suc-le-zero l) }
  thin_rows enough (suc j) = thin_next j (thin_row j j (thin_rows enough j) n)

-- ---- where each member matches one element at most
module _ (ok : ℕ → ℕ → Bool) (k n : ℕ) (few : k ≤ 32) (enough : Enough ok k n) where
  abbrev element : ℕ → ℕ
  element v = latest 0 (ok v) n

  -- a member that matches none is short
  has_element : (v : ℕ) → v < k → (element v < n) × (ok v (element v) ≡ true)
  has_element v l = ⊎_elim
      (λ (h : (element v < n) × (ok v (element v) ≡ true)). h)
      (λ (h : (element v ≡ 0) × ((e : ℕ) → e < n → ok v e ≡ false)).
      let a = count_none (met ok n (only v)) 32 (λ e z. not_so (met ok n (only v) e) (λ t.
      let f = met_inv ok n (only v) e t in
      clash (subst (λ (u : ℕ). ok u e ≡ true) (only_is v f.0 f.2) f.3) (h.1 e (met_low ok n (only v) e t)))) in
      let b = count_some (only v) v (only_self v) 32 (omega arith) in
      let c = enough (only v) (λ u t. let q = only_is v u t in omega arith) in
      absurd (omega arith))
      (latest_is 0 (ok v) n)

  -- two members that match the same one element are short
  single_apart : ((v : ℕ) → v < k → Single ok v n) → (u v : ℕ) → u < k → v < k → element u ≡ element v → u ≡ v
  single_apart single u v l r q = ⊎_elim
      (λ (s : u ≡ v). s)
      (λ (s : u ≡ v → ⊥).
      let G : ℕ → Bool = λ w. only v w || only u w in
      let x = has_element u l in
      let y = has_element v r in
      let low : (e : ℕ) → met ok n G e ≡ true → e ≡ element u = λ e t.
      let f = met_inv ok n G e t in
      let z = met_low ok n G e t in
      ⊎_elim
      (λ (p : only v f.0 ≡ true). single v r e (element v) z y.0 (subst (λ (w : ℕ). ok w e ≡ true) (only_is v f.0 p) f.3) y.1 ∙ sym q)
      (λ (p : only u f.0 ≡ true). single u l e (element u) z x.0 (subst (λ (w : ℕ). ok w e ≡ true) (only_is u f.0 p) f.3) x.1)
      (one_of (only v f.0) (only u f.0) f.2) in
      let a = count_single (met ok n G) (λ i j p t. low i p ∙ sym (low j t)) 32 in
      let b = count_two G v u 32 s (omega arith) (omega arith) (or_left (only v v) (only u v) (only_self v)) (or_right (only v u) (only u u) (only_self u)) in
      let c = enough G (λ w t. ⊎_elim
      (λ (p : only v w ≡ true). let z = only_is v w p in omega arith)
      (λ (p : only u w ≡ true). let z = only_is u w p in omega arith)
      (one_of (only v w) (only u w) t)) in
      absurd (omega arith))
      (same? u v)

-- ---- the theorem
enough_chosen : (ok : ℕ → ℕ → Bool) (k n : ℕ) → k ≤ 32 → Enough ok k n → (f : ℕ → ℕ) × Chosen ok k n f
enough_chosen ok k n few enough =
    let t = thin_rows ok k n few enough k in
    let R = t.left in (
      element R k n few t.enough,
      record {
        low = λ v l. (has_element R k n few t.enough v l).0;
        right = λ v l. t.inside v (element R k n few t.enough v) (has_element R k n few t.enough v l).1;
        apart = single_apart R k n few t.enough t.done;
      },
    )

pub hall : (ok : ℕ → ℕ → Bool) (k n : ℕ) → k ≤ 32 → ((f : ℕ → ℕ) × Chosen ok k n f) ⊎ ((G : ℕ → Bool) × ShortGroup ok k n G)
hall ok k n few = ⊎_elim (λ (h : Enough ok k n). inl (enough_chosen ok k n few h)) inr (enough? ok k n few)
