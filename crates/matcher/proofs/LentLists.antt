-- Two lists of which one is empty: how long the list of a family is. Assumes nothing.
use mathlib.Core.Path.{◌≡◌, sym, subst, ◌∙◌}
use mathlib.Core.Bool.{Bool, ◌&&◌}
use mathlib.Core.List.{List}
use Prim.Native.Nat.{ℕ, ◌+◌, ◌≤◌, ◌<◌}
use native.Mathlib.Omega.{arith}
use lib.Dec.{leb}
use lib.IntN.{ℤ}
use lib.Ieee.{Float}
use lib.ListN.{length}
use Rattle.format.specs.declared.Family.{Family}
use Rattle.grammar.specs.Family.{list_of, Lent}
use Rattle.grammar.proofs.Families.{lent_size}
use Rattle.plans.specs.declared.Plan.{Plan}
use Rattle.member_rows.specs.Places.{Served}
use Rattle.matcher.proofs.ByPlan.{Ready, ready_members}

module _ (fam : Family) (xs : List ℤ) (ys : List Float) (lent : Lent fam xs ys) where
  pub size_of : length (list_of fam xs ys) ≡ length xs + length ys
  size_of = lent_size fam xs ys lent

  pub list_short : (k : ℕ) → length xs + length ys ≤ k → length (list_of fam xs ys) ≤ k
  list_short k h = omega (arith, size_of)

  pub list_large : (k : ℕ) → k < length xs + length ys → k < length (list_of fam xs ys)
  list_large k h = omega (arith, size_of)

  pub list_other : (k : ℕ) → (k ≡ length xs + length ys → ⊥) → k ≡ length (list_of fam xs ys) → ⊥
  list_other k h e = h (e ∙ size_of)

  -- what the test of the length attribute says
  pub met_by : (low high : ℕ) (met : Bool) → met ≡ (leb low (length xs + length ys) && leb (length xs + length ys) high) → met ≡ (leb low (length (list_of fam xs ys)) && leb (length (list_of fam xs ys)) high)
  met_by low high met h = subst (λ (n : ℕ). met ≡ (leb low n && leb n high)) (sym size_of) h

-- the members of an accepted template, and the list
pub served : (fam : Family) (t : List ℕ) (p : Plan) (n : ℕ) (xs : List ℤ) (ys : List Float) → Ready fam t p n → n ≡ length xs + length ys → Lent fam xs ys → Served t p.places p.members xs ys
served fam t p n xs ys r z lent = record { family = fam; placed = ready_members r; lent = lent; few = omega (arith, lent_size fam xs ys lent, r.short) }
