-- Laws of assignments. Assumes nothing.
-- assigns_test, test_assigns: the test `assigns` and the rules `Assigns` say the same.
-- assigns_rows: only what members of the block may take of the piece matters. answer_same: so two relations that agree there have one answer.
use mathlib.Core.Path.{◌≡◌, sym, ◌∙◌}
use mathlib.Core.Bool.{Bool, true, ◌&&◌}
use mathlib.Core.List.{List}
use Prim.Native.Nat.{ℕ, ◌+◌, ◌-◌}
use native.Mathlib.Omega.{arith}
use Rattle.rows.specs.Rows.{may}
use Rattle.facts.specs.Counting.{between}
use Rattle.blocks.specs.Assignment.{Assigns, wanted, Short}
use Rattle.assign.specs.Answer.{Answer}
use Rattle.byte_order.proofs.ByteOrder.{first_same}
use Rattle.facts.proofs.Counting.{count_le}
use Rattle.blocks.proofs.Assignments.{assigns_rows, want_same}

module _ {may may' : ℕ → ℕ → Bool} {first k from to : ℕ} (same : (m e : ℕ) → between first (first + k) m ≡ true → between from to e ≡ true → may m e ≡ may' m e) where
  assigns_same : (a : List ℕ) → Assigns may first k from to a → Assigns may' first k from to a
  assigns_same a = assigns_rows (λ m e b p o. sym (same m e b p) ∙ o)

  assigns_back : (a : List ℕ) → Assigns may' first k from to a → Assigns may first k from to a
  assigns_back a = assigns_rows (λ m e b p o. same m e b p ∙ o)

  short_same : Short may first k from to → Short may' first k from to
  short_same s = record {
    group = s.group;
    inside = s.inside;
    few = let l = count_le {P = λ e. between from to e && wanted may' s.group e} {S = λ e. between from to e && wanted may s.group e} (want_same may may' first k from to same s.group s.inside) 32 in let f = s.few in omega arith;
  }

  pub answer_same : {found : Bool} {w : List ℕ} → Answer may first k from to found w → Answer may' first k from to found w
  answer_same a = record {
    best = λ t. first_same assigns_same assigns_back (a.best t);
    none = λ t v h. a.none t v (assigns_back v h);
    short = λ t. short_same (a.short t);
    size = a.size;
    outside = a.outside;
    blank = a.blank;
  }
