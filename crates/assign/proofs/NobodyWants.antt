-- Where no member of the block may take a spare element, one that waits is never served. Assumes nothing.
-- able_none, able_more, able_skip: who may take a spare element, one element more. unwanted_short: a group is short.
use mathlib.Core.Path.{◌≡◌, refl, ap, ◌∙◌, subst}
use mathlib.Core.Logic.{◌⊎◌, inl, inr, ⊎_elim}
use mathlib.Core.Bool.{Bool, true, false, not, ◌&&◌, ◌||◌}
use mathlib.Core.List.{List}
use Prim.Native.Nat.{ℕ, ◌+◌, ◌≤◌, ◌<◌}
use native.Mathlib.Omega.{arith}
use lib.Dec.{leb, ltb}
use lib.ListN.{get_or}
use borrow.Author.Tests.{leb-true, le-leb, ltb-true, lt-ltb}
use Rattle.facts.specs.Counting.{between}
use Rattle.blocks.specs.Assignment.{Short}
use Rattle.chains.specs.Chain.{Shut, Stuck}
use Rattle.refining.specs.AsBytes.{fits, Partly}
use Rattle.assign.specs.Saturate.{Unwanted}
use Rattle.facts.proofs.Cases.{same?, below, clash, not_so, and_left, and_right, both, or_left, or_right}
use Rattle.facts.proofs.Spans.{between_in, between_from, between_to}
use Rattle.chains.proofs.Blocked.{holders_of, stuck_blocked}
use Rattle.refining.proofs.AsThirtyTwoBytes.{fits_block, partly_short}

-- every member that may take a spare element of the piece is in A
abbrev pub Able : (ℕ → ℕ → Bool) → ℕ → ℕ → List ℕ → (ℕ → Bool) → Type 0
Able may from to w A = (m e : ℕ) → between from to e ≡ true → 32 ≤ get_or w e 0 → may m e ≡ true → A m ≡ true

pub able_none : (may : ℕ → ℕ → Bool) (from : ℕ) (w : List ℕ) (A : ℕ → Bool) → Able may from from w A
able_none may from w A m e b = let x = between_from from from e b in let y = between_to from from e b in absurd (omega arith)

module _ (may : ℕ → ℕ → Bool) (from e : ℕ) (w : List ℕ) (A : ℕ → Bool) (h : Able may from e w A) where
  pub able_more : (S : ℕ → Bool) → ((m : ℕ) → S m ≡ (A m || may m e)) → Able may from (e + 1) w S
  able_more S same m i b spare o = ⊎_elim
      (λ (q : i ≡ e). same m ∙ or_right (A m) (may m e) (subst (λ (j : ℕ). may m j ≡ true) q o))
      (λ (n : i ≡ e → ⊥).
      let x = between_from from (e + 1) i b in
      let y = between_to from (e + 1) i b in
      same m ∙ or_left (A m) (may m e) (h m i (between_in from e i x (omega arith)) spare o))
      (same? i e)

  pub able_skip : get_or w e 0 < 32 → Able may from (e + 1) w A
  able_skip held m i b spare o = ⊎_elim
      (λ (q : i ≡ e). let z : get_or w i 0 ≡ get_or w e 0 = ap (λ (j : ℕ). get_or w j 0) q in absurd (omega arith))
      (λ (n : i ≡ e → ⊥).
      let x = between_from from (e + 1) i b in
      let y = between_to from (e + 1) i b in
      h m i (between_in from e i x (omega arith)) spare o)
      (same? i e)

-- m waits, and nobody can be moved to a spare place
pub unwanted_short : {may : ℕ → ℕ → Bool} {first k from to : ℕ} {w : List ℕ} {U B : ℕ → Bool} (m : ℕ) → first + k ≤ 32 → to ≤ 32 → Partly may first k from to w U → U m ≡ true
    → ((v : ℕ) → B v ≡ between first (first + k) v) → Unwanted may B from to w → Short may first k from to
unwanted_short {may} {first} {k} {from} {to} {w} {U} {B} m block end p waits same none =
    let F : ℕ → Bool = λ e. between from to e && leb 32 (get_or w e 0) in
    let H : ℕ → Bool = λ e. between from to e && ltb (get_or w e 0) 32 in
    let G : ℕ → Bool = λ e. false in
    let low : (e : ℕ) → H e ≡ true → get_or w e 0 < 32 = λ e h. ltb-true (get_or w e 0) 32 (and_right (between from to e) (ltb (get_or w e 0) 32) h) in
    let shut : (v : ℕ) → between first (first + k) v ≡ true → Shut may F G v = λ v b e o.
    (not_so (F e) (λ f. clash o (none v e (same v ∙ b) (and_left (between from to e) (leb 32 (get_or w e 0)) f) (leb-true 32 (get_or w e 0) (and_right (between from to e) (leb 32 (get_or w e 0)) f)))), refl) in
    let holder : (e : ℕ) → H e ≡ true → between first (first + k) (get_or w e 0) ≡ true = λ e h.
    let z = low e h in
    let top = between_to from to e (and_left (between from to e) (ltb (get_or w e 0) 32) h) in
    ⊎_elim (λ (q : get_or w e 0 ≡ 255). absurd (omega arith)) (λ (f : fits may first k from to (get_or w e 0) e ≡ true). fits_block may first k from to (get_or w e 0) e f) (p.right e (omega arith)) in
    let stuck : Stuck may F H G w m = record { fell = λ e g. absurd (clash g refl); self = shut m (p.waits m waits).0; tried = λ e h g. shut (get_or w e 0) (holder e h) } in
    let b = stuck_blocked from to stuck (holders_of w (λ e. H e && not (G e))) p.size low
    (λ e t. ⊎_elim
    (λ (l : get_or w e 0 < 32). inr (both (between from to e) (ltb (get_or w e 0) 32) t (lt-ltb (get_or w e 0) 32 l)))
    (λ (l : 32 ≤ get_or w e 0). inl (both (between from to e) (leb 32 (get_or w e 0)) t (le-leb 32 (get_or w e 0) l)))
    (below (get_or w e 0) 32)) in
    partly_short p block waits b.0
