-- What an assignment of as many members as can be shows of groups (König's and Hall's counting). Assumes nothing.
-- split: a group's size is its places in w and its members that wait. into, onto: its places against the elements that it matches.
-- closed_most: a closed group around all members that wait has the greatest shortfall. shortfall: that is their number.
-- most_waits, most_closed: every group of greatest shortfall has all members that wait, and is closed.
-- closure_reason: so the least closed group around them is the reason. grown_reason: what `grown` makes of a widest assignment.
-- most_shortfall: the greatest shortfall is the number of members that wait.
use mathlib.Core.Path.{◌≡◌, refl, sym, ap, ◌∙◌, subst}
use mathlib.Core.Logic.{⊎_elim}
use mathlib.Core.Bool.{Bool, true, false, ◌&&◌, not}
use mathlib.Core.List.{List}
use Prim.Native.Nat.{ℕ, zero, suc, ◌+◌, ◌≤◌, ◌<◌}
use native.Mathlib.Omega.{arith}
use lib.Dec.{eqb}
use lib.ListN.{length, get_or}
use borrow.Author.Tests.{eq-eqb, ne_eqb}
use Rattle.facts.specs.Counting.{one_if, cnt, count, total, only_if, each, places}
use Rattle.facts.proofs.Cases.{below, holds?, clash, and_left, and_right, both}
use Rattle.facts.proofs.Spans.{between_in, between_to}
use Rattle.refining.specs.AsBytes.{fits, Partly}
use Rattle.assign.specs.Widest.{Closed, Widest}
use Rattle.facts.proofs.Counting.{count_le, count_less, double_count}
use Rattle.chains.proofs.Chains.{within_may, within_piece}
use Rattle.refining.proofs.AsThirtyTwoBytes.{fits_block, fits_within}
use Rattle.reasons.specs.Reason.{matched, size_of, Group, Most, Reason}
use Rattle.reasons.specs.Grow.{Grown}
use Rattle.facts.proofs.CountedSets.{count_filled, places_in, places_on}
use Rattle.reasons.proofs.Groups.{met, met_in, met_low, met_inv}

-- ---- a group's size: the places that it has, and its members that have none
one_split : (s u : Bool) (c : ℕ) → (s ≡ true → c + one_if u ≡ 1) → one_if s ≡ only_if s c + one_if (s && u)
unfolding only_if
one_split true u c one = sym (one refl)
one_split false u c one = refl

each_split : (S U : ℕ → Bool) (w : List ℕ) (n : ℕ) → ((v : ℕ) → v < n → S v ≡ true → cnt v w + one_if (U v) ≡ 1) → count S n ≡ each S n w + count (λ v. S v && U v) n
unfolding count total
each_split S U w zero one = refl
each_split S U w (suc n) one = let a = each_split S U w n (λ v l. one v (omega arith)) in let b = one_split (S n) (U n) (cnt n w) (one n (omega arith)) in omega arith

module _ {ok : ℕ → ℕ → Bool} {k n : ℕ} {w : List ℕ} {U : ℕ → Bool} (p : Partly ok 0 k 0 n w U) (few : k ≤ 32) (short : n ≤ 32) where
  -- a member has a place or waits
  placed_or_waits : (v : ℕ) → v < k → cnt v w + one_if (U v) ≡ 1
  placed_or_waits v l = ⊎_elim
      (λ (u : U v ≡ true). let a = (p.waits v u).1 in let b = ap one_if u in omega arith)
      (λ (u : U v ≡ false). let a = p.once v (between_in 0 (0 + k) v (omega arith) (omega arith)) u in let b = ap one_if u in omega arith)
      (holds? (U v))

  split : (S : ℕ → Bool) → Group k S → size_of S ≡ places S 32 w + count (λ v. S v && U v) 32
  split S inside = let a = each_split S U w 32 (λ v l t. placed_or_waits v (inside v t)) in let b = double_count S 32 w in omega arith

  -- who holds an element is a member that matches it
  pub holder : (e : ℕ) → e < 32 → get_or w e 0 < 32 → (e < n) × (get_or w e 0 < k) × (ok (get_or w e 0) e ≡ true)
  holder e l z = ⊎_elim
      (λ (q : get_or w e 0 ≡ 255). absurd (omega arith))
      (λ (f : fits ok 0 k 0 n (get_or w e 0) e ≡ true).
      let h = fits_within ok 0 k 0 n _ e f in
      (between_to 0 n e (within_piece ok 0 n _ e h), let b = between_to 0 (0 + k) _ (fits_block ok 0 k 0 n _ e f) in omega arith, within_may ok 0 n _ e h))
      (p.right e l)

  into : (H : ℕ → Bool) → places H 32 w ≤ matched ok n H
  into H =
      let size = p.size in
      let x = places_in H (met ok n H) 32 w (λ i l z s. let r = holder i (omega arith) z in met_in ok n H (get_or w i 0) i r.0 z s r.2) in
      let e : count (met ok n H) (length w) ≡ matched ok n H = ap (λ (j : ℕ). count (met ok n H) j) size in
      omega arith

  module _ {G : ℕ → Bool} (around : (v : ℕ) → U v ≡ true → G v ≡ true) (closed : Closed ok 0 k 0 n w G) where
    inside : Group k G
    inside v t = let b = between_to 0 (0 + k) v (closed.inside v t) in omega arith

    -- whatever it matches is held by it
    onto : matched ok n G ≤ places G 32 w
    onto =
        let x = places_on G (met ok n G) 32 w (λ i l h.
        let f = met_inv ok n G i h in
        let o = closed.owned f.0 i f.2 (between_in 0 n i (omega arith) (met_low ok n G i h)) f.3 in
        (o.low, o.seen)) in
        let e : count (met ok n G) (length w) ≡ matched ok n G = ap (λ (j : ℕ). count (met ok n G) j) p.size in
        omega arith

    waits_in : (H : ℕ → Bool) (v : ℕ) → (H v && U v) ≡ true → (G v && U v) ≡ true
    waits_in H v t = let u = and_right (H v) (U v) t in both (G v) (U v) (around v u) u

    -- the greatest shortfall
    pub closed_most : Most ok k n G
    closed_most = record {
      inside = inside;
      most = λ H in-h.
          let a = split G inside in
          let b = split H in-h in
          let c = onto in
          let d = into H in
          let e = count_le {P = λ v. H v && U v} {S = λ v. G v && U v} (waits_in H) 32 in
          omega arith;
    }

    -- it is the number of members that wait
    pub shortfall : size_of G ≡ matched ok n G + count U 32
    shortfall =
        let a = split G inside in
        let b = onto in
        let c = into G in
        let d = count_le {P = λ v. G v && U v} {S = U} (λ v. and_right (G v) (U v)) 32 in
        let e = count_le {P = U} {S = λ v. G v && U v} (λ v u. both (G v) (U v) (around v u) u) 32 in
        omega arith

    module _ {H : ℕ → Bool} (h : Most ok k n H) where
      tight : (places H 32 w ≡ matched ok n H) × (count (λ v. G v && U v) 32 ≤ count (λ v. H v && U v) 32)
      tight =
          let a = split G inside in
          let b = split H h.inside in
          let c = onto in
          let d = into H in
          let e = count_le {P = λ v. H v && U v} {S = λ v. G v && U v} (waits_in H) 32 in
          let f = h.most G inside in
          (omega arith, omega arith)

      pub most_waits : (v : ℕ) → U v ≡ true → H v ≡ true
      most_waits v u =
          let l = inside v (around v u) in
          and_left (H v) (U v) (count_filled {P = λ v. H v && U v} {S = λ v. G v && U v} (waits_in H) 32 tight.1 v (omega arith) (both (G v) (U v) (around v u) u))

      -- an element that H matches and does not hold would be one too many
      too_many_lem : (e : ℕ) → e < n → met ok n H e ≡ true → (get_or w e 0 < 32 → H (get_or w e 0) ≡ true → ⊥) → ⊥
      too_many_lem e l met_e lacks =
          let size = p.size in
          let E : ℕ → Bool = λ i. met ok n H i && not (eqb i e) in
          let x = places_in H E 32 w (λ i j z s.
          let r = holder i (omega arith) z in
          both (met ok n H i) (not (eqb i e)) (met_in ok n H (get_or w i 0) i r.0 z s r.2) (ap not (ne_eqb i e (λ q. lacks (subst (λ (j : ℕ). get_or w j 0 < 32) q z) (subst (λ (j : ℕ). H (get_or w j 0) ≡ true) q s))))) in
          let y : count E (length w) ≡ count E 32 = ap (λ (j : ℕ). count E j) size in
          let without : E e ≡ false = ap (λ b. met ok n H e && not b) (eq-eqb e e refl) ∙ ap (λ b. b && false) met_e in
          let u = count_less {P = E} {S = met ok n H} (λ i t. and_left (met ok n H i) (not (eqb i e)) t) e without met_e 32 (omega arith) in
          let v = tight.0 in
          omega arith

      pub most_closed : Closed ok 0 k 0 n w H
      most_closed = record {
        inside = λ v t. between_in 0 (0 + k) v (omega arith) (let z = h.inside v t in omega arith);
        owned = λ v e t b o.
            let l = between_to 0 n e b in
            let met_e : met ok n H e ≡ true = met_in ok n H v e l (let z = h.inside v t in omega arith) t o in
            ⊎_elim
            (λ (z : get_or w e 0 < 32). ⊎_elim
            (λ (s : H (get_or w e 0) ≡ true). record { low = z; seen = s })
            (λ (s : H (get_or w e 0) ≡ false). absurd (too_many_lem e l met_e (λ y u. clash u s)))
            (holds? (H (get_or w e 0))))
            (λ (z : 32 ≤ get_or w e 0). absurd (too_many_lem e l met_e (λ y u. omega arith)))
            (below (get_or w e 0) 32);
      }

    pub closure_reason : ((C : ℕ → Bool) → Closed ok 0 k 0 n w C → ((v : ℕ) → U v ≡ true → C v ≡ true) → (v : ℕ) → G v ≡ true → C v ≡ true) → Reason ok k n G
    closure_reason least = record { most = closed_most; least = λ H h. least H (most_closed h) (most_waits h) }

-- ---- what is grown around the members that wait, in a widest assignment
module _ {ok : ℕ → ℕ → Bool} {k n : ℕ} {w : List ℕ} {U G : ℕ → Bool} (few : k ≤ 32) (short : n ≤ 32) (d : Widest ok 0 k 0 n w U) (g : Grown ok n w U G) where
  grown_dead : (v : ℕ) → G v ≡ true → d.dead v ≡ true
  grown_dead = g.least d.dead (λ v t e l o z. (d.closed.owned v e t (between_in 0 n e (omega arith) l) o).seen) d.around

  grown_closed : Closed ok 0 k 0 n w G
  grown_closed = record {
    inside = λ v t. d.closed.inside v (grown_dead v t);
    owned = λ v e t b o. let q = d.closed.owned v e (grown_dead v t) b o in record { low = q.low; seen = g.closed v t e (between_to 0 n e b) o q.low };
  }

  pub grown_reason : Reason ok k n G
  grown_reason = closure_reason d.partly few short g.around grown_closed
      (λ C c around. g.least C (λ v t e l o z. (c.owned v e t (between_in 0 n e (omega arith) l) o).seen) around)

-- ---- the greatest shortfall is the number of members that wait
pub most_shortfall : {ok : ℕ → ℕ → Bool} {k n : ℕ} {w : List ℕ} {U G : ℕ → Bool} → k ≤ 32 → n ≤ 32 → Widest ok 0 k 0 n w U → Most ok k n G → size_of G ≡ matched ok n G + count U 32
most_shortfall {ok} {k} {n} {w} {U} {G} few short d g =
    let most = closed_most d.partly few short d.around d.closed in
    let a = g.most d.dead most.inside in
    let b = most.most G g.inside in
    let c = shortfall d.partly few short d.around d.closed in
    omega arith
