-- What one member and no spare element take of an offered list. Assumes nothing.
use mathlib.Core.Path.{◌≡◌, refl, sym, ap, ◌∙◌, subst}
use mathlib.Core.Bool.{true}
use mathlib.Core.Logic.{⊎_elim}
use mathlib.Core.List.{List, [], ◌∷◌}
use Prim.Native.Nat.{ℕ, ◌+◌, ◌≤◌, ◌<◌}
use native.Mathlib.Omega.{arith}
use lib.ListN.{length, get_or}
use lib.Seq.{slice}
use Rattle.facts.proofs.Cases.{same?, clash}
use Rattle.facts.proofs.Slices.{slice_one, slice_at}
use Rattle.masks.specs.Masks.{bit, Plus}
use Rattle.blocks.specs.declared.Block.{Block}
use Rattle.blocks.specs.Pieces.{Takes}
use Rattle.blocks.proofs.OneMember.{one_taken, taken_one}
use Rattle.judging.specs.Reach.{any_pair, Ends, IsOne}

module _ (m from : ℕ) (w : List ℕ) (b : Block) (is : IsOne m b) (low : m < 32) where
  one_takes : from < length w → get_or w from 0 ≡ m → Takes any_pair b from (from + 1) (slice from (from + 1) w)
  one_takes l q = subst (λ (v : List ℕ). Takes any_pair b from (from + 1) v) (ap (λ (x : ℕ). x ∷ []) (is.first ∙ sym q) ∙ sym (slice_one from w l)) (one_taken any_pair b from is.one refl)

  -- one element, and m takes it
  takes_one : (p : ℕ) → from ≤ p → p ≤ length w → Takes any_pair b from p (slice from p w) → (p ≡ from + 1) × (get_or w from 0 ≡ m)
  takes_one p f l t =
      let z = taken_one (slice from p w) is.one (omega (arith, is.first)) f t in
      (z.0, ap (λ (j : ℕ). get_or w j 0) (let y : from ≡ from + 0 = omega arith in y) ∙ sym (slice_at from p w 0 (omega (arith, z.0))) ∙ ap (λ (v : List ℕ). get_or v 0 0) z.1 ∙ is.first)

  pub one_found : {ends r : ℕ} → from < length w → get_or w from 0 ≡ m → Plus (bit ends) (from + 1) (bit r) → Ends any_pair b from (length w + 1) w ends r
  one_found {ends} {r} l q p = record {
    kept = λ e h. ⊎_elim (λ (z : e ≡ from + 1). subst (λ (x : ℕ). bit r x ≡ true) (sym z) p.self) (λ (z : e ≡ from + 1 → ⊥). p.other e z ∙ h) (same? e (from + 1));
    found = λ e f u t. let z = (takes_one e f (omega arith) t).0 in subst (λ (x : ℕ). bit r x ≡ true) (sym z) p.self;
    only = λ e h n. ⊎_elim
        (λ (z : e ≡ from + 1). (omega arith, omega arith, subst (λ (x : ℕ). Takes any_pair b from x (slice from x w)) (sym z) (one_takes l q)))
        (λ (z : e ≡ from + 1 → ⊥). absurd (clash (sym (p.other e z) ∙ h) n))
        (same? e (from + 1));
  }

  pub one_missed : (ends : ℕ) → (from < length w → get_or w from 0 ≡ m → ⊥) → Ends any_pair b from (length w + 1) w ends ends
  one_missed ends none = record {
    kept = λ e h. h;
    found = λ e f u t. let y = takes_one e f (omega arith) t in absurd (none (let z = y.0 in omega arith) y.1);
    only = λ e h n. absurd (clash h n);
  }
