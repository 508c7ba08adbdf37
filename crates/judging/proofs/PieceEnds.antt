-- One walk over an offered list: the places before `stop` at which a piece of b that begins at `from` ends. Assumes nothing.
use mathlib.Core.Path.{◌≡◌, sym, ◌∙◌, subst}
use mathlib.Core.Logic.{⊎_elim}
use mathlib.Core.Bool.{Bool, true, false}
use mathlib.Core.List.{List}
use Prim.Native.Nat.{ℕ, ◌+◌, ◌≤◌, ◌<◌, min}
use native.Mathlib.Omega.{arith}
use lib.ListN.{length, get_or}
use lib.Seq.{slice}
use Rattle.masks.specs.Masks.{bit, Plus}
use Rattle.facts.proofs.Cases.{same?, below, clash}
use Rattle.blocks.specs.declared.Block.{Block}
use Rattle.blocks.specs.Pieces.{Takes, Passing}
use Rattle.judging.specs.Reach.{Fresh, Good, Group, Whole, Marked, marked, unmarked, Ends}
use Rattle.judging.proofs.PieceTest.{good_stop, whole_takes, takes_whole}
use Rattle.blocks.proofs.FirstLists.{passing_false}

pub ends_start : (may : ℕ → ℕ → Bool) (b : Block) (from : ℕ) (w : List ℕ) (ends : ℕ) → Ends may b from from w ends ends
ends_start may b from w ends = record {
  kept = λ p h. h;
  found = λ p f l. absurd (omega arith);
  only = λ p h n. absurd (clash h n);
}

module _ {may : ℕ → ℕ → Bool} {b : Block} {from stop : ℕ} {w : List ℕ} {ends mid : ℕ} (g : Ends may b from stop w ends mid) where
  pub ends_wider : {far : ℕ} → stop ≤ far → ((p : ℕ) → stop ≤ p → p < far → Takes may b from p (slice from p w) → ⊥) → Ends may b from far w ends mid
  ends_wider {far} l none = record {
    kept = g.kept;
    found = λ p f h t. ⊎_elim (λ (y : p < stop). g.found p f y t) (λ (y : stop ≤ p). absurd (none p y h t)) (below p stop);
    only = λ p h n. let o = g.only p h n in (o.0, omega arith, o.2);
  }

  ends_more : {r : ℕ} → from ≤ stop → Takes may b from stop (slice from stop w) → Plus (bit mid) stop (bit r) → Ends may b from (stop + 1) w ends r
  ends_more {r} f t one = record {
    kept = λ p h. ⊎_elim
        (λ (q : p ≡ stop). subst (λ (x : ℕ). bit r x ≡ true) (sym q) one.self)
        (λ (q : p ≡ stop → ⊥). one.other p q ∙ g.kept p h)
        (same? p stop);
    found = λ p f l h. ⊎_elim
        (λ (q : p ≡ stop). subst (λ (x : ℕ). bit r x ≡ true) (sym q) one.self)
        (λ (q : p ≡ stop → ⊥). one.other p q ∙ g.found p f (omega arith) h)
        (same? p stop);
    only = λ p h n. ⊎_elim
        (λ (q : p ≡ stop). (omega arith, omega arith, subst (λ (x : ℕ). Takes may b from x (slice from x w)) (sym q) t))
        (λ (q : p ≡ stop → ⊥). let o = g.only p (sym (one.other p q) ∙ h) n in (o.0, omega arith, o.2))
        (same? p stop);
  }

  -- one place more: the piece that ends there is right so far
  pub ends_mark : {all members r : ℕ} → b.first + b.k ≤ 32 → Group b all → from ≤ stop → stop ≤ min (from + b.k + b.max) (length w) → Good may b from stop w members
      → Marked (Whole b all members from stop) mid stop r → Ends may b from (stop + 1) w ends r
  ends_mark block all f l h (marked whole one) = ends_more f (whole_takes block (omega arith) h all (omega arith) whole) one
  ends_mark {all} {members} {r} block group f l h (unmarked partial q) = subst (λ (x : ℕ). Ends may b from (stop + 1) w ends x) (sym q)
      (ends_wider (omega arith) (λ p low high t.
      let e : p ≡ stop = omega arith in
      partial (takes_whole block (omega arith) h group (subst (λ (x : ℕ). Takes may b from x (slice from x w)) e t))))

-- no piece is longer than b allows
pub ends_last : {may : ℕ → ℕ → Bool} {b : Block} {from to : ℕ} {w : List ℕ} {ends r : ℕ} → min (from + b.k + b.max) (length w) ≤ to → to ≤ length w → Ends may b from (to + 1) w ends r
    → Ends may b from (length w + 1) w ends r
ends_last l k g = ends_wider g (omega arith) (λ p low high t. let x = t.few in omega arith)

-- no piece goes on over a byte that is not right
pub ends_stop : {may : ℕ → ℕ → Bool} {b : Block} {from to : ℕ} {w : List ℕ} {ends r members : ℕ} {right : Bool} → b.first + b.k ≤ 32 → from ≤ to → to < length w → Good may b from to w members
    → (get_or w to 0 ≡ 255 → ⊥) → Passing (Fresh may b members to (get_or w to 0)) right → right ≡ false → Ends may b from (to + 1) w ends r
    → Ends may b from (length w + 1) w ends r
ends_stop block f l h n p q g =
    ends_wider g (omega arith) (λ i low high t. good_stop f l h (omega arith) (omega arith) n block (passing_false (p.failed q)) t.assigned)
