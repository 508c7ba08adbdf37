-- The numbers of members: a number that matches is a member's. Assumes nothing.
use mathlib.Core.Path.{◌≡◌, refl}
use mathlib.Core.Bool.{Bool, true, false}
use mathlib.Core.List.{List, [], ◌∷◌}
use Prim.Native.Nat.{ℕ, zero, suc, ◌≤◌, ◌<◌}
use native.Mathlib.Omega.{arith}
use lib.ListN.{length}
use Rattle.facts.proofs.Cases.{clash, not_so}
use Rattle.grammar.specs.Element.{Elem}
use Rattle.grammar.specs.Members.{member_hits}

-- a member's number that hits is below the number of members
pub hits_low : {L X : Type 0} (hits : Elem L → X → Bool) (gs : List (Elem L)) (m : ℕ) (x : X) → member_hits hits gs m x ≡ true → m < length gs
unfolding member_hits
hits_low hits [] m x h = absurd (clash h refl)
hits_low hits (g ∷ gs) zero x h = omega arith
hits_low hits (g ∷ gs) (suc m) x h = let ih = hits_low hits gs m x h in omega arith

pub hits_none : {L X : Type 0} (hits : Elem L → X → Bool) (gs : List (Elem L)) (m : ℕ) (x : X) → length gs ≤ m → member_hits hits gs m x ≡ false
hits_none hits gs m x l = not_so (member_hits hits gs m x) (λ h. let k = hits_low hits gs m x h in omega arith)
