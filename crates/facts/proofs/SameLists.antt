-- The test of two lists of numbers holds exactly where they are the same. Assumes nothing.
use mathlib.Core.Path.{◌≡◌, refl, ap₂, subst}
use mathlib.Core.Bool.{true}
use mathlib.Core.List.{List, [], ◌∷◌}
use Prim.Native.Nat.{ℕ}
use borrow.Author.Tests.{eqb-true, eq-eqb}
use lib.Dec.{eqb}
use Rattle.facts.specs.SameLists.{same_bytes}
use Rattle.facts.proofs.Cases.{and_left, and_right, clash}

pub same_lists : (s t : List ℕ) → same_bytes s t ≡ true → s ≡ t
unfolding same_bytes
same_lists [] [] e = refl
same_lists [] (b ∷ t) e = absurd (clash e refl)
same_lists (a ∷ s) [] e = absurd (clash e refl)
same_lists (a ∷ s) (b ∷ t) e = ap₂ (λ (x : ℕ) (r : List ℕ). x ∷ r) (eqb-true a b (and_left (eqb a b) (same_bytes s t) e)) (same_lists s t (and_right (eqb a b) (same_bytes s t) e))

same_self : (s : List ℕ) → same_bytes s s ≡ true
unfolding same_bytes
same_self [] = refl
same_self (a ∷ s) = rw (eq-eqb a a refl) (same_self s)

pub lists_same : (s t : List ℕ) → s ≡ t → same_bytes s t ≡ true
lists_same s t e = subst (λ (r : List ℕ). same_bytes s r ≡ true) e (same_self s)
