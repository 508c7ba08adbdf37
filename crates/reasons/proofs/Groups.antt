-- Of the groups whose shortfall is greatest, one lies inside all the others. Assumes nothing.
-- met_in, met_inv: what it is that a group matches an element. met_meet, met_join: of two groups' meeting and joining.
-- most_meet: the meeting of two groups of greatest shortfall is one (the shortfall is supermodular).
-- reason_exists, reason_same: there is one such group inside all the others, and only one.
-- reason_short: it is short exactly where some group is. given_agree: two relations that say the same of members and elements give the same.
use mathlib.Core.Path.{◌≡◌, refl, sym, ap, ◌∙◌, subst}
use mathlib.Core.Logic.{◌⊎◌, inl, inr, ⊎_elim}
use mathlib.Core.Bool.{Bool, true, false, ◌&&◌, ◌||◌, cond}
use Prim.Native.Nat.{ℕ, zero, suc, ◌+◌, ◌-◌, ◌*◌, ◌≤◌, ◌<◌}
use native.Mathlib.Omega.{arith}
use lib.Dec.{eqb}
use borrow.Author.Tests.{eq-eqb, ne_eqb}
use Rattle.facts.specs.Counting.{between}
use Rattle.facts.proofs.Cases.{same?, below, holds?, clash, not_so, and_left, and_right, both, one_of, or_left, or_right, same_test}
use Rattle.facts.proofs.Spans.{between_in, between_to}
use Rattle.blocks.specs.Assignment.{wanted}
use Rattle.blocks.proofs.Assignments.{want_in, want_inv}
use Rattle.reasons.specs.Reason.{matched, size_of, Group, NoLess, Most, ShortGroup, Reason, Given, a_reason, no_reason}
use Rattle.facts.proofs.CountedSets.{count_same, any_same, count_filled, count_bound, count_both, count_meet}

-- ---- what a group matches
-- e is an element that at least one of the group G matches
abbrev pub met : (ℕ → ℕ → Bool) → ℕ → (ℕ → Bool) → ℕ → Bool
met ok n G e = between 0 n e && wanted ok G e

module _ (ok : ℕ → ℕ → Bool) (n : ℕ) where
  pub met_in : (G : ℕ → Bool) (v e : ℕ) → e < n → v < 32 → G v ≡ true → ok v e ≡ true → met ok n G e ≡ true
  met_in G v e l z g o = both (between 0 n e) (wanted ok G e) (between_in 0 n e (omega arith) l) (want_in ok G v e z g o)

  pub met_low : (G : ℕ → Bool) (e : ℕ) → met ok n G e ≡ true → e < n
  met_low G e h = between_to 0 n e (and_left (between 0 n e) (wanted ok G e) h)

  pub met_inv : (G : ℕ → Bool) (e : ℕ) → met ok n G e ≡ true → (v : ℕ) × (v < 32) × (G v ≡ true) × (ok v e ≡ true)
  met_inv G e h = want_inv ok G e (and_right (between 0 n e) (wanted ok G e) h)

  met_up : (G H : ℕ → Bool) → ((v : ℕ) → G v ≡ true → H v ≡ true) → (e : ℕ) → met ok n G e ≡ true → met ok n H e ≡ true
  met_up G H up e h = let f = met_inv G e h in met_in H f.0 e (met_low G e h) f.1 (up f.0 f.2) f.3

  met_meet : (G H : ℕ → Bool) (e : ℕ) → met ok n (λ v. G v && H v) e ≡ true → (met ok n G e && met ok n H e) ≡ true
  met_meet G H e h = both (met ok n G e) (met ok n H e)
      (met_up (λ v. G v && H v) G (λ v. and_left (G v) (H v)) e h) (met_up (λ v. G v && H v) H (λ v. and_right (G v) (H v)) e h)

  met_join : (G H : ℕ → Bool) (e : ℕ) → met ok n (λ v. G v || H v) e ≡ true → (met ok n G e || met ok n H e) ≡ true
  met_join G H e h = let f = met_inv (λ v. G v || H v) e h in ⊎_elim
      (λ (g : G f.0 ≡ true). or_left (met ok n G e) (met ok n H e) (met_in G f.0 e (met_low (λ v. G v || H v) e h) f.1 g f.3))
      (λ (g : H f.0 ≡ true). or_right (met ok n G e) (met ok n H e) (met_in H f.0 e (met_low (λ v. G v || H v) e h) f.1 g f.3))
      (one_of (G f.0) (H f.0) f.2)

  -- the number of elements is submodular
  pub matched_both : (G H : ℕ → Bool) → matched ok n (λ v. G v && H v) + matched ok n (λ v. G v || H v) ≤ matched ok n G + matched ok n H
  matched_both G H = count_both (met ok n (λ v. G v && H v)) (met ok n (λ v. G v || H v)) (met ok n G) (met ok n H) (met_meet G H) (met_join G H) 32

  pub matched_same : (G H : ℕ → Bool) → ((v : ℕ) → G v ≡ H v) → matched ok n G ≡ matched ok n H
  unfolding wanted
  matched_same G H same = count_same (met ok n G) (met ok n H) (λ e. ap (λ b. between 0 n e && b) (any_same (λ v. G v && ok v e) (λ v. H v && ok v e) (λ v. ap (λ b. b && ok v e) (same v)) 32)) 32

-- ---- the meeting of two groups of greatest shortfall is one
module _ {ok : ℕ → ℕ → Bool} {k n : ℕ} where
  pub most_meet : {G H : ℕ → Bool} → Most ok k n G → Most ok k n H → Most ok k n (λ v. G v && H v)
  most_meet {G} {H} g h = record {
    inside = λ v t. g.inside v (and_left (G v) (H v) t);
    most = λ F f.
        let a = g.most (λ v. G v || H v) (λ v t. ⊎_elim (g.inside v) (h.inside v) (one_of (G v) (H v) t)) in
        let b = h.most F f in
        let c = matched_both ok n G H in
        let d = count_meet G H 32 in
        omega arith;
  }

-- ---- a group that is greatest by any number, by trying both ways for each member
abbrev put : (ℕ → Bool) → ℕ → Bool → ℕ → Bool
put B j b v = cond (eqb v j) b (B v)

put_here : (B : ℕ → Bool) (j : ℕ) (b : Bool) → put B j b j ≡ b
put_here B j b = rw (eq-eqb j j refl)

put_other : (B : ℕ → Bool) (j : ℕ) (b : Bool) (v : ℕ) → (v ≡ j → ⊥) → put B j b v ≡ B v
put_other B j b v d = rw (ne_eqb v j d)

-- G is as B from j on, and no such group has a greater f
pub record Best (f : (ℕ → Bool) → ℕ) (B : ℕ → Bool) (j : ℕ) : Type 0 where
  pub group : ℕ → Bool
  pub beyond : (v : ℕ) → j ≤ v → group v ≡ B v
  pub best : (H : ℕ → Bool) → ((v : ℕ) → j ≤ v → H v ≡ B v) → f H ≤ f group

module _ (f : (ℕ → Bool) → ℕ) (f-same : (G H : ℕ → Bool) → ((v : ℕ) → G v ≡ H v) → f G ≡ f H) where
  as_put : (B H : ℕ → Bool) (j : ℕ) (b : Bool) → H j ≡ b → ((v : ℕ) → suc j ≤ v → H v ≡ B v) → (v : ℕ) → j ≤ v → H v ≡ put B j b v
  as_put B H j b here same v l = ⊎_elim
      (λ (q : v ≡ j). subst (λ (i : ℕ). H i ≡ put B j b i) (sym q) (here ∙ sym (put_here B j b)))
      (λ (q : v ≡ j → ⊥). same v (omega arith) ∙ sym (put_other B j b v q))
      (same? v j)

  wider : (B : ℕ → Bool) (j : ℕ) (b : Bool) (r : Best f (put B j b) j) → (v : ℕ) → suc j ≤ v → r.group v ≡ B v
  wider B j b r v l = r.beyond v (omega arith) ∙ put_other B j b v (λ q. omega arith)

  best_of : (j : ℕ) (B : ℕ → Bool) → Best f B j
  best_of zero B = record { group = B; beyond = λ v l. refl; best = λ H same. let e = f-same H B (λ v. same v (omega arith)) in omega arith }
  best_of (suc j) B =
      let with_it = best_of j (put B j true) in
      let without = best_of j (put B j false) in
      let either : (H : ℕ → Bool) → ((v : ℕ) → suc j ≤ v → H v ≡ B v) → (f H ≤ f with_it.group) ⊎ (f H ≤ f without.group) = λ H same. ⊎_elim
      (λ (t : H j ≡ true). inl (with_it.best H (as_put B H j true t same)))
      (λ (t : H j ≡ false). inr (without.best H (as_put B H j false t same)))
      (holds? (H j)) in
      ⊎_elim
      (λ (l : f without.group < f with_it.group). record { group = with_it.group; beyond = wider B j true with_it; best = λ H same. ⊎_elim (λ (a : f H ≤ f with_it.group). a) (λ (a : f H ≤ f without.group). omega arith) (either H same) })
      (λ (l : f with_it.group ≤ f without.group). record { group = without.group; beyond = wider B j false without; best = λ H same. ⊎_elim (λ (a : f H ≤ f with_it.group). omega arith) (λ (a : f H ≤ f without.group). a) (either H same) })
      (below (f without.group) (f with_it.group))

-- ---- there is a group of greatest shortfall that lies inside all the others
module _ (ok : ℕ → ℕ → Bool) (k n : ℕ) (few : k ≤ 32) where
  -- the greater shortfall first, then the fewer members
  abbrev rank_of : (ℕ → Bool) → ℕ
  rank_of G = 33 * (32 + size_of G - matched ok n G) + (32 - size_of G)

  rank_same : (G H : ℕ → Bool) → ((v : ℕ) → G v ≡ H v) → rank_of G ≡ rank_of H
  rank_same G H same = let a = count_same G H same 32 in let b = matched_same ok n G H same in omega arith

  chosen : Best rank_of (λ v. false) k
  chosen = best_of rank_of rank_same k (λ v. false)

  chosen_inside : Group k chosen.group
  chosen_inside v t = ⊎_elim (λ (l : v < k). l) (λ (l : k ≤ v). absurd (clash t (chosen.beyond v l))) (below v k)

  outside : (H : ℕ → Bool) → Group k H → (v : ℕ) → k ≤ v → H v ≡ false
  outside H inside v l = not_so (H v) (λ t. let z = inside v t in omega arith)

  chosen_best : (H : ℕ → Bool) → Group k H → (NoLess ok n chosen.group H) × (NoLess ok n H chosen.group → size_of chosen.group ≤ size_of H)
  chosen_best H inside =
      let G = chosen.group in
      let b = chosen.best H (outside H inside) in
      let p = count_bound G 32 in
      let q = count_bound H 32 in
      let r = count_bound (met ok n G) 32 in
      let s = count_bound (met ok n H) 32 in
      (omega arith, λ (l : NoLess ok n H G). omega arith)

  chosen_most : Most ok k n chosen.group
  chosen_most = record { inside = chosen_inside; most = λ H inside. (chosen_best H inside).0 }

  pub reason_exists : (G : ℕ → Bool) × Reason ok k n G
  reason_exists =
      let G = chosen.group in (
        G,
        record {
          most = chosen_most;
          least = λ H h v t.
              let M : ℕ → Bool = λ v. G v && H v in
              let m = most_meet chosen_most h in
              let s = (chosen_best M m.inside).1 (m.most G chosen_inside) in
              and_right (G v) (H v) (count_filled {P = M} {S = G} (λ v. and_left (G v) (H v)) 32 s v (let z = chosen_inside v t in omega arith) t);
        },
      )

-- ---- and only one
module _ {ok : ℕ → ℕ → Bool} {k n : ℕ} where
  pub reason_same : {G H : ℕ → Bool} → Reason ok k n G → Reason ok k n H → (v : ℕ) → G v ≡ H v
  reason_same {G} {H} g h v = same_test (G v) (H v) (g.least H h.most v) (h.least G g.most v)

  -- it is short exactly where some group is
  pub reason_short : {G H : ℕ → Bool} → Reason ok k n G → ShortGroup ok k n H → ShortGroup ok k n G
  reason_short {G} {H} g h = let m = g.most.most H h.inside in let f = h.few in record { inside = g.most.inside; few = omega arith }

-- ---- only what members match of the elements matters
abbrev Agrees : (ℕ → ℕ → Bool) → (ℕ → ℕ → Bool) → ℕ → ℕ → Type 0
Agrees ok ko k n = (v e : ℕ) → v < k → e < n → ok v e ≡ ko v e

met_agree : (ok ko : ℕ → ℕ → Bool) (k n : ℕ) → Agrees ok ko k n → (G : ℕ → Bool) → Group k G → (e : ℕ) → met ok n G e ≡ true → met ko n G e ≡ true
met_agree ok ko k n same G inside e h =
    let f = met_inv ok n G e h in
    let l = met_low ok n G e h in
    met_in ko n G f.0 e l f.1 f.2 (sym (same f.0 e (inside f.0 f.2) l) ∙ f.3)

module _ (ok ko : ℕ → ℕ → Bool) (k n : ℕ) (same : Agrees ok ko k n) where
  turned_round : Agrees ko ok k n
  turned_round v e l h = sym (same v e l h)

  matched_agree : (G : ℕ → Bool) → Group k G → matched ok n G ≡ matched ko n G
  matched_agree G inside = count_same (met ok n G) (met ko n G) (λ e. same_test (met ok n G e) (met ko n G e) (met_agree ok ko k n same G inside e) (met_agree ko ok k n turned_round G inside e)) 32

  most_agree : {G : ℕ → Bool} → Most ok k n G → Most ko k n G
  most_agree {G} g = record { inside = g.inside; most = λ H inside. let a = g.most H inside in let b = matched_agree G g.inside in let c = matched_agree H inside in omega arith }

  short_agree : {G : ℕ → Bool} → ShortGroup ok k n G → ShortGroup ko k n G
  short_agree {G} s = record { inside = s.inside; few = let a = s.few in let b = matched_agree G s.inside in omega arith }

pub given_agree : {ok ko : ℕ → ℕ → Bool} {k n r : ℕ} → Agrees ok ko k n → Given ok k n r → Given ko k n r
given_agree {ok} {ko} {k} {n} same (a_reason g s) =
    a_reason (record { most = most_agree ok ko k n same g.most; least = λ H h. g.least H (most_agree ko ok k n (turned_round ok ko k n same) h) }) (short_agree ok ko k n same s)
given_agree {ok} {ko} {k} {n} same (no_reason z never) = no_reason z (λ G s. never G (short_agree ko ok k n (turned_round ok ko k n same) s))
