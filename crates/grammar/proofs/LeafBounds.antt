-- A leaf matches a 32-bit integer exactly where it lies between the leaf's bounds, ends included. Assumes nothing.
use mathlib.Core.Path.{◌≡◌, refl, sym, ◌∙◌}
use mathlib.Core.Bool.{true, ◌&&◌, and_comm}
use mathlib.Core.Logic.{⊎_elim}
use Prim.Native.Nat.{ℕ, ◌≤◌, ◌<◌}
use native.Mathlib.Omega.{arith}
use borrow.Author.Tests.{le-leb, lt-leb, eq-eqb, ne_eqb}
use lib.Dec.{eqb, leb}
use lib.IntN.{ℤ, pos, negsuc}
use lib.Signed.{le_z}
use Rattle.integers.specs.Integer.{Word, eq_z}
use Rattle.facts.proofs.Cases.{below}
use Rattle.grammar.specs.Leaf.{Leaf, single, range, any, lower_of, upper_of}
use Rattle.grammar.specs.Matches.{leaf_matches}

-- equal: neither is above the other
eqb_leb : (a b : ℕ) → eqb a b ≡ (leb a b && leb b a)
eqb_leb a b =
    ⊎_elim
    (λ (h : a < b). rw (ne_eqb a b (λ e. omega arith), lt-leb b a h, le-leb a b (omega arith)))
    (λ (h : b ≤ a). ⊎_elim
    (λ (i : b < a). rw (ne_eqb a b (λ e. omega arith), lt-leb a b i))
    (λ (i : a ≤ b). rw (eq-eqb a b (omega arith), le-leb a b i, le-leb b a h))
    (below b a))
    (below a b)

eq_z_le_z : (z x : ℤ) → eq_z z x ≡ (le_z z x && le_z x z)
eq_z_le_z (pos a) (pos b) = eqb_leb a b
eq_z_le_z (pos a) (negsuc b) = refl
eq_z_le_z (negsuc a) (pos b) = refl
eq_z_le_z (negsuc a) (negsuc b) = eqb_leb a b ∙ and_comm (leb a b) (leb b a)

-- every 32-bit integer lies between the least and the greatest
word_le_z : (x : ℤ) → Word x → true ≡ (le_z (negsuc 2147483647) x && le_z x (pos 2147483647))
word_le_z (pos n) w = sym (le-leb n 2147483647 (omega arith))
word_le_z (negsuc n) w = rw (le-leb n 2147483647 (omega arith))

pub leaf_between : (l : Leaf) (x : ℤ) → Word x → leaf_matches l x ≡ (le_z (lower_of l) x && le_z x (upper_of l))
unfolding leaf_matches lower_of upper_of
leaf_between (single z) x w = eq_z_le_z z x
leaf_between (range lower upper) x w = refl
leaf_between any x w = word_le_z x w
