-- Cuts by other pairs. Assumes nothing.
-- cuts_by: a cut by some pairs is one by others, by which its members may take their elements too.
-- cuts_agree: so it is where both say the same. cuts_right: each member in a cut may take its element.
use mathlib.Core.Path.{◌≡◌, sym, ap, ◌∙◌, subst}
use mathlib.Core.Logic.{◌⊎◌, inl, inr, ⊎_elim}
use mathlib.Core.Bool.{Bool, true}
use mathlib.Core.List.{List, [], ◌∷◌, ◌++◌}
use Prim.Native.Nat.{ℕ, ◌+◌, ◌-◌, ◌≤◌, ◌<◌}
use native.Mathlib.Omega.{arith}
use lib.ListN.{length, get_or, length-append, get_or-append}
use lib.Seq.{get_or-append-add}
use Rattle.facts.specs.Counting.{between}
use Rattle.blocks.specs.declared.Block.{Block}
use Rattle.blocks.specs.Pieces.{Takes, Cuts}
use Rattle.facts.proofs.Cases.{same?, below}
use Rattle.blocks.proofs.Assignments.{takes_inv, takes_spare, takes_member}
use Rattle.blocks.proofs.Cutting.{cuts_length}

-- ---- the bytes of a list in two parts
module _ {w : List ℕ} (u v : List ℕ) (q : w ≡ u ++ v) where
  pub in_front : (i : ℕ) → i < length u → get_or w i 0 ≡ get_or u i 0
  in_front i l = ap (λ (x : List ℕ). get_or x i 0) q ∙ get_or-append u v 0 i l

  pub behind : (i : ℕ) → get_or w (length u + i) 0 ≡ get_or v i 0
  behind i = ap (λ (x : List ℕ). get_or x (length u + i) 0) q ∙ get_or-append-add u v i 0

  pub both_long : length w ≡ length u + length v
  both_long = ap (λ (x : List ℕ). length x) q ∙ length-append u v

-- ---- other pairs
abbrev Turns : (ℕ → ℕ → Bool) → (ℕ → ℕ → Bool) → ℕ → List ℕ → Type 0
Turns may may' from w = (i : ℕ) → i < length w → (get_or w i 0 ≡ 255 → ⊥) → may (get_or w i 0) (from + i) ≡ true → may' (get_or w i 0) (from + i) ≡ true

takes_by : {may may' : ℕ → ℕ → Bool} {b : Block} {from to : ℕ} {p : List ℕ} → Turns may may' from p → Takes may b from to p → Takes may' b from to p
takes_by {may} {may'} {b} {from} {to} {p} turn t = record {
  assigned = record {
    size = t.assigned.size;
    right = λ i l. ⊎_elim
        (λ (q : get_or p i 0 ≡ 255). takes_spare may' b.first b.k (from + i) (get_or p i 0) q)
        (λ (n : get_or p i 0 ≡ 255 → ⊥). ⊎_elim
        (λ (q : get_or p i 0 ≡ 255). absurd (n q))
        (λ (q : (between b.first (b.first + b.k) (get_or p i 0) ≡ true) × (may (get_or p i 0) (from + i) ≡ true)).
        takes_member may' b.first b.k (from + i) (get_or p i 0) q.0 (turn i l n q.1))
        (takes_inv may b.first b.k (from + i) (get_or p i 0) (t.assigned.right i l)))
        (same? (get_or p i 0) 255);
    once = t.assigned.once;
  };
  enough = t.enough;
  few = t.few;
}

pub cuts_by : (may may' : ℕ → ℕ → Bool) (bs : List Block) (from to : ℕ) (w : List ℕ) → Turns may may' from w → Cuts may bs from to w → Cuts may' bs from to w
unfolding Cuts
cuts_by may may' [] from to w turn c = c
cuts_by may may' (b ∷ bs) from to w turn c =
    let j = c.parts in
    let size = j.on_left.assigned.size in
    let after = c.after in
    let long = both_long j.left j.right j.whole in
    record {
      mid = c.mid;
      after = c.after;
      inside = c.inside;
      parts = record {
        left = j.left;
        right = j.right;
        whole = j.whole;
        on_left = takes_by
            (λ i l. subst (λ (x : ℕ). (x ≡ 255 → ⊥) → may x (from + i) ≡ true → may' x (from + i) ≡ true) (in_front j.left j.right j.whole i l) (turn i (omega arith)))
            j.on_left;
        on_right = cuts_by may may' bs c.mid to j.right
            (λ i l.
            let at : from + (length j.left + i) ≡ c.mid + i = omega arith in
            subst (λ (e : ℕ). (get_or j.right i 0 ≡ 255 → ⊥) → may (get_or j.right i 0) e ≡ true → may' (get_or j.right i 0) e ≡ true) at
            (subst (λ (x : ℕ). (x ≡ 255 → ⊥) → may x (from + (length j.left + i)) ≡ true → may' x (from + (length j.left + i)) ≡ true) (behind j.left j.right j.whole i)
            (turn (length j.left + i) (omega arith))))
            j.on_right;
      };
    }

-- by two relations that say the same of the elements below n
pub cuts_agree : (may may' : ℕ → ℕ → Bool) (n : ℕ) (bs : List Block) → ((m e : ℕ) → e < n → may m e ≡ may' m e) → (w : List ℕ) → Cuts may bs 0 n w → Cuts may' bs 0 n w
cuts_agree may may' n bs same w c =
    let long = cuts_length may bs 0 n w c in
    cuts_by may may' bs 0 n w (λ i l _ h. sym (same (get_or w i 0) (0 + i) (omega arith)) ∙ h) c

-- ---- whom a cut gives what
pub cuts_right : (may : ℕ → ℕ → Bool) (bs : List Block) (from to : ℕ) (w : List ℕ) → Cuts may bs from to w
    → (i : ℕ) → i < length w → (get_or w i 0 ≡ 255) ⊎ (may (get_or w i 0) (from + i) ≡ true)
unfolding Cuts
cuts_right may [] from to w c i l = let z = ap (λ (x : List ℕ). length x) c.1 in absurd (omega arith)
cuts_right may (b ∷ bs) from to w c i l =
    let j = c.parts in
    let size = j.on_left.assigned.size in
    let after = c.after in
    let long = both_long j.left j.right j.whole in
    ⊎_elim
    (λ (f : i < length j.left).
    subst (λ (x : ℕ). (x ≡ 255) ⊎ (may x (from + i) ≡ true)) (sym (in_front j.left j.right j.whole i f))
    (⊎_elim
    (λ (q : get_or j.left i 0 ≡ 255). inl q)
    (λ (q : (between b.first (b.first + b.k) (get_or j.left i 0) ≡ true) × (may (get_or j.left i 0) (from + i) ≡ true)). inr q.1)
    (takes_inv may b.first b.k (from + i) (get_or j.left i 0) (j.on_left.assigned.right i f))))
    (λ (f : length j.left ≤ i).
    let d : length j.left + (i - length j.left) ≡ i = omega arith in
    let at : c.mid + (i - length j.left) ≡ from + i = omega arith in
    let same : get_or j.right (i - length j.left) 0 ≡ get_or w i 0 = sym (behind j.left j.right j.whole (i - length j.left)) ∙ ap (λ (x : ℕ). get_or w x 0) d in
    subst (λ (x : ℕ). (x ≡ 255) ⊎ (may x (from + i) ≡ true)) same
    (subst (λ (e : ℕ). (get_or j.right (i - length j.left) 0 ≡ 255) ⊎ (may (get_or j.right (i - length j.left) 0) e ≡ true)) at
    (cuts_right may bs c.mid to j.right j.on_right (i - length j.left) (omega arith))))
    (below i (length j.left))
