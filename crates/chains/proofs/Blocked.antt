-- Groups of members whose elements are too few: what a failed search shows, by counting. Assumes nothing.
-- stuck_blocked: m and the holders of what a search tried in vain are such a group.
-- blocked_never: no list that differs from w only by what members may take serves the group of a failed search.
-- blocked_short: the group of a failed search is short of elements. short_never: where a group is short there is no assignment.
use mathlib.Core.Path.{◌≡◌, refl, sym, ap, ap₂, ◌∙◌, subst}
use mathlib.Core.Logic.{◌⊎◌, inl, inr, ⊎_elim}
use mathlib.Core.Bool.{Bool, true, false, not, ◌&&◌, ◌||◌}
use mathlib.Core.List.{List}
use Prim.Native.Nat.{ℕ, ◌+◌, ◌≤◌, ◌<◌}
use native.Mathlib.Omega.{arith}
use lib.Dec.{eqb}
use lib.ListN.{length, get_or}
use borrow.Author.Tests.{eqb-true, eq-eqb, ne_eqb, not-true}
use Rattle.facts.specs.Counting.{between, cnt, count, any_below}
use Rattle.blocks.specs.Assignment.{wanted, Short}
use Rattle.chains.specs.Chain.{within, Shut, Stuck, Holders, Blocked}
use Rattle.facts.proofs.Cases.{clash, and_left, and_right, both, one_of, or_left, or_right}
use Rattle.facts.proofs.Counting.{cnt_at, count_places, places_count, places_le, places_onto}
use Rattle.blocks.proofs.Assignments.{want_inv}
use Rattle.facts.proofs.CountedSets.{any_found, any_in, count_zero}
use Rattle.chains.proofs.Chains.{within_both, within_may, within_piece}

-- ---- the holders of a set of places, as a test
pub holders_of_lem : List ℕ → (ℕ → Bool) → ℕ → Bool
holders_of_lem w T v = any_below (λ e. T e && eqb (get_or w e 0) v) 32

pub holders_of : (w : List ℕ) (T : ℕ → Bool) → Holders w T (holders_of_lem w T)
unfolding holders_of_lem
holders_of w T = record {
  found = λ v s.
      let f = any_found (λ e. T e && eqb (get_or w e 0) v) 32 s in
      let e = f.0 in
      (e, f.1, and_left (T e) (eqb (get_or w e 0) v) f.2, eqb-true (get_or w e 0) v (and_right (T e) (eqb (get_or w e 0) v) f.2));
  all = λ e l t. any_in (λ i. T i && eqb (get_or w i 0) (get_or w e 0)) 32 e l (both (T e) (eqb (get_or w e 0) (get_or w e 0)) t (eq-eqb (get_or w e 0) (get_or w e 0) refl));
}

-- ---- a search that is stuck: m and the holders of what was tried are a group that holds all that it may have of the piece
pub stuck_blocked : {may : ℕ → ℕ → Bool} {F H G S : ℕ → Bool} {w : List ℕ} {m : ℕ} (from to : ℕ) → Stuck may F H G w m → Holders w (λ e. H e && not (G e)) S → length w ≡ 32
    → ((e : ℕ) → H e ≡ true → get_or w e 0 < 32) → ((e : ℕ) → between from to e ≡ true → (F e ≡ true) ⊎ (H e ≡ true))
    → (b : Blocked (within may from to) w m) × ((v : ℕ) → (v ≡ m → ⊥) → S v ≡ false → b.group v ≡ false)
stuck_blocked {may} {F} {H} {G} {S} {w} {m} from to k h size held all-open =
    let group : ℕ → Bool = λ v. eqb v m || S v in
    let holder : (v : ℕ) → S v ≡ true → (e : ℕ) × (e < 32) × (H e ≡ true) × (G e ≡ false) × (get_or w e 0 ≡ v) = λ v s.
    let f = h.found v s in
    let e = f.0 in
    (e, f.1, and_left (H e) (not (G e)) f.2, not-true (G e) (and_right (H e) (not (G e)) f.2), f.3) in
    let shut : (v : ℕ) → group v ≡ true → Shut may F G v = λ v g. ⊎_elim
    (λ (q : eqb v m ≡ true). subst (λ (u : ℕ). Shut may F G u) (sym (eqb-true v m q)) k.self)
    (λ (s : S v ≡ true). let f = holder v s in subst (λ (u : ℕ). Shut may F G u) f.4 (k.tried f.0 f.2 f.3))
    (one_of (eqb v m) (S v) g) in (
      record {
        group = group;
        self = or_left (eqb m m) (S m) (eq-eqb m m refl);
        holders = λ v g. ⊎_elim
            (λ (q : eqb v m ≡ true). inl (eqb-true v m q))
            (λ (s : S v ≡ true).
            let f = holder v s in
            let low = held f.0 f.2 in
            inr (subst (λ (u : ℕ). (u < 32) × (1 ≤ cnt u w)) f.4 (low, cnt_at w f.0 (omega (arith, f.1)))))
            (one_of (eqb v m) (S v) g);
        closed = λ v g e l o.
            let z = shut v g e (within_may may from to v e o) in
            let here : H e ≡ true = ⊎_elim (λ (f : F e ≡ true). absurd (clash f z.0)) (λ (t : H e ≡ true). t) (all-open e (within_piece may from to v e o)) in
            record { low = held e here; seen = or_right (eqb (get_or w e 0) m) (S (get_or w e 0)) (h.all e l (both (H e) (not (G e)) here (ap not z.1))) };
      },
      λ v n z. ap₂ (λ (x y : Bool). x || y) (ne_eqb v m n) z,
    )

-- ---- the group of a failed search
module _ {ok : ℕ → ℕ → Bool} {w : List ℕ} {m : ℕ} (b : Blocked ok w m) (size : length w ≡ 32) (low : m < 32) (none : cnt m w ≡ 0)
    (once : (v : ℕ) → v < 32 → b.group v ≡ true → cnt v w ≤ 1) where
  pub blocked_never : (a : List ℕ) → length a ≡ 32
      → ((e : ℕ) → e < 32 → get_or a e 0 < 32 → (get_or a e 0 ≡ get_or w e 0) ⊎ (ok (get_or a e 0) e ≡ true))
      → 1 ≤ cnt m a → ((v : ℕ) → v < 32 → 1 ≤ cnt v w → 1 ≤ cnt v a) → ⊥
  blocked_never a len moved self all =
      let group = b.group in
      let x = places_le group 32 a w (len ∙ sym size) (λ e l z s. ⊎_elim
      (λ (q : get_or a e 0 ≡ get_or w e 0). (rw (← q) z, rw (← q) s))
      (λ (o : ok (get_or a e 0) e ≡ true). let h = b.closed _ s e (omega arith) o in (h.low, h.seen))
      (moved e (omega arith) z)) in
      let y = places_count group 32 w m low b.self none once in
      let z = count_places group 32 a (λ v l s. ⊎_elim
      (λ (p : v ≡ m). rw p self)
      (λ (p : (v < 32) × (1 ≤ cnt v w)). all v l p.1)
      (b.holders v s)) in
      omega arith

pub blocked_short : {may : ℕ → ℕ → Bool} {first k from to : ℕ} {w : List ℕ} {m : ℕ} (b : Blocked (within may from to) w m) → length w ≡ 32 → m < 32 → cnt m w ≡ 0
    → ((v : ℕ) → v < 32 → cnt v w ≤ 1) → ((v : ℕ) → (v ≡ m) ⊎ ((v < 32) × (1 ≤ cnt v w)) → between first (first + k) v ≡ true)
    → Short may first k from to
blocked_short {may} {first} {k} {from} {to} {w} {m} b size low none once inside =
    let group = b.group in
    let E : ℕ → Bool = λ e. between from to e && wanted may group e in
    let x = places_onto group E 32 w 0 (λ i l h.
    let h' : E i ≡ true = subst (λ (j : ℕ). E j ≡ true) (omega arith) h in
    let u = want_inv may group i (and_right (between from to i) (wanted may group i) h') in
    let o = b.closed u.0 u.2 i (omega arith) (within_both may from to u.0 i u.3 (and_left (between from to i) (wanted may group i) h')) in
    (o.low, o.seen)) in
    let y = places_count group 32 w m low b.self none (λ v l s. once v l) in
    let z = count_zero E in
    let n : 0 + length w ≡ 32 = omega arith in
    let e : count E (0 + length w) ≡ count E 32 = ap (λ (j : ℕ). count E j) n in
    record { group = group; inside = λ v g. inside v (b.holders v g); few = omega arith }
