-- The numbers of a span. Assumes nothing.
use mathlib.Core.Path.{◌≡◌, sym, ◌∙◌}
use mathlib.Core.Logic.{⊎_elim}
use mathlib.Core.Bool.{true, false}
use Prim.Native.Nat.{ℕ, ◌+◌, ◌≤◌, ◌<◌}
use native.Mathlib.Omega.{arith}
use lib.Dec.{leb, ltb}
use borrow.Author.Tests.{leb-true, ltb-true, le-leb, lt-ltb}
use Rattle.facts.specs.Counting.{between}
use Rattle.facts.proofs.Cases.{holds?, clash, not_so, and_left, and_right, both}

-- a number of a span
pub between_in : (a b i : ℕ) → a ≤ i → i < b → between a b i ≡ true
unfolding between
between_in a b i h l = both (leb a i) (ltb i b) (le-leb a i h) (lt-ltb i b l)

pub between_from : (a b i : ℕ) → between a b i ≡ true → a ≤ i
unfolding between
between_from a b i h = leb-true a i (and_left (leb a i) (ltb i b) h)

pub between_to : (a b i : ℕ) → between a b i ≡ true → i < b
unfolding between
between_to a b i h = ltb-true i b (and_right (leb a i) (ltb i b) h)

pub between_below : (a b i : ℕ) → i < a → between a b i ≡ false
between_below a b i l = not_so (between a b i) (λ u. let x = between_from a b i u in omega arith)

pub between_past : (a b i : ℕ) → b ≤ i → between a b i ≡ false
between_past a b i l = not_so (between a b i) (λ u. let x = between_to a b i u in omega arith)

-- one number more at the end
pub between_other : (n e i : ℕ) → (i ≡ e → ⊥) → between n e i ≡ between n (e + 1) i
between_other n e i q = ⊎_elim
    (λ (t : between n e i ≡ true). let a = between_from n e i t in let b = between_to n e i t in t ∙ sym (between_in n (e + 1) i a (omega arith)))
    (λ (t : between n e i ≡ false). t ∙ sym (not_so (between n (e + 1) i) (λ u. let a = between_from n (e + 1) i u in let b = between_to n (e + 1) i u in clash (between_in n e i a (omega arith)) t)))
    (holds? (between n e i))

pub between_none : (n i : ℕ) → between n n i ≡ false
between_none n i = not_so (between n n i) (λ u. let a = between_from n n i u in let b = between_to n n i u in omega arith)
