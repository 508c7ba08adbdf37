-- The contract of `spare_places` allows one result, and that of `explore` one answer, and where it is no, one set of places. Stated of the contracts themselves, as
-- the check reads them. Assumes nothing.
use mathlib.Core.Path.{◌≡◌, refl, sym, ap, ◌∙◌}
use mathlib.Core.Logic.{⊎_elim}
use mathlib.Core.Bool.{Bool, true, false, not, ◌&&◌}
use mathlib.Core.List.{List}
use Prim.Native.Nat.{ℕ}
use native.Mathlib.Omega.{arith}
use borrow.Fn.Kinds.{Dens, res_t, ended_of}
use contract.Lifetimes.{Lfts}
use denote.Triple.Clauses.{AtExit}
use Rattle.facts.proofs.Cases.{holds?, clash, not_so, and_right, both}
use Rattle.masks.proofs.Masks.{bits_same}
use Rattle.chains.specs.Chain.{Spares, Ready, reach, Shut, Spread, Explored}
use Rattle.chains.proofs.Chains.{reach_row, reach_open}
use Rattle.chains.proofs.spare_places.Reads as spares-reads
use Rattle.chains.proofs.spare_places.Kinds as spares-kinds
use Rattle.chains.proofs.explore.Reads as explore-reads
use Rattle.chains.proofs.explore.Kinds as explore-kinds

-- two sets that lie in one another
same_set : (P S : ℕ → Bool) → ((e : ℕ) → P e ≡ true → S e ≡ true) → ((e : ℕ) → S e ≡ true → P e ≡ true) → (e : ℕ) → P e ≡ S e
same_set P S f g e = ⊎_elim
    (λ (t : P e ≡ true). t ∙ sym (f e t))
    (λ (t : P e ≡ false). t ∙ sym (not_so (S e) (λ s. clash (g e s) t)))
    (holds? (P e))

spares_in : {w : List ℕ} {from to : ℕ} {F F' : ℕ → Bool} → Spares w from to F → Spares w from to F' → (e : ℕ) → F e ≡ true → F' e ≡ true
spares_in {w} {from} {to} {F} {F'} p q e f = ⊎_elim
    (λ (a : F' e ≡ true). a)
    (λ (a : F' e ≡ false). let t = p.free e f in let x = t.1 in let y = q.held e t.0 a in absurd (omega arith))
    (holds? (F' e))

pub spare_places_unique : (κs : Lfts 0) (a : Dens κs spares-kinds.ps) (r r' : (res_t spares-kinds.r κs).Denot) (s s' : AtExit (ended_of 0 spares-kinds.ps spares-kinds.r) κs)
    → spares-reads.Post κs a r s → spares-reads.Post κs a r' s' → r ≡ r'
spare_places_unique κs a r r' s s' p q = bits_same r r' (same_set _ _ (spares_in p q) (spares_in q p))

-- what was tried in vain is a spread set
module _ {may : ℕ → ℕ → Bool} {F H T T' : ℕ → Bool} {w : List ℕ} {m : ℕ} {found : Bool} (x : Explored may F H w m found T) (y : Explored may F H w m false T') where
  spread_of : Spread may F T w m T'
  spread_of =
      let k = y.stuck refl in
      let shut : (v : ℕ) → Shut may F (λ e. H e && not (T' e)) v → (e : ℕ) → reach may F T v e ≡ true → T' e ≡ true = λ v z e o.
      let s = z e (reach_row may F T v e o) in
      ⊎_elim
      (λ (f : F e ≡ true). absurd (clash f s.0))
      (λ (t : T e ≡ true). ⊎_elim
      (λ (u : T' e ≡ true). u)
      (λ (u : T' e ≡ false). absurd (clash (both (H e) (not (T' e)) (x.inside e t) (ap not u)) s.1))
      (holds? (T' e)))
      (reach_open may F T v e o) in
      record {
        begins = shut m k.self;
        goes = λ i t u. shut _ (k.tried i (x.inside i t) (not_so (H i && not (T' i)) (λ z. clash (and_right (H i) (not (T' i)) z) (ap not u))));
      }

  tried_within : (e : ℕ) → T e ≡ true → T' e ≡ true
  tried_within = x.all T' spread_of

  not_spare : Ready F H w m → found ≡ true → ⊥
  not_spare r q =
      let f = x.spare q T' spread_of in
      let spare = r.free f.0 f.1 in
      let held = r.held f.0 (y.inside f.0 f.2) in
      omega arith

answers : {may : ℕ → ℕ → Bool} {F H T T' : ℕ → Bool} {w : List ℕ} {m : ℕ} (r r' : Bool) → Ready F H w m → Explored may F H w m r T → Explored may F H w m r' T'
    → (r ≡ r') × (r ≡ false → (e : ℕ) → T e ≡ T' e)
answers true true a x y = (refl, λ q. absurd (clash refl q))
answers true false a x y = absurd (not_spare x y a refl)
answers false true a x y = absurd (not_spare y x a refl)
answers false false a x y = (refl, λ q. same_set _ _ (tried_within x y) (tried_within y x))

pub explore_unique : (κs : Lfts 3) (a : Dens κs explore-kinds.ps) (r r' : (res_t explore-kinds.r κs).Denot) (s s' : AtExit (ended_of 3 explore-kinds.ps explore-kinds.r) κs)
    → explore-reads.Pre κs a → explore-reads.Post κs a r s → explore-reads.Post κs a r' s' → (r ≡ r') × (r ≡ false → s.1.1.0.now ≡ s'.1.1.0.now)
explore_unique κs a r r' s s' ask p q = let both_same = answers r r' ask p q in (both_same.0, λ z. bits_same _ _ (both_same.1 z))
