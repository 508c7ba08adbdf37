-- The order of 32-bit integers by their ranks: comparison, equality, the next and the previous where they exist. Assumes nothing.
use Prim.Native.Nat.{suc, ◌+◌, ◌-◌, ◌≤◌, ◌<◌}
use native.Mathlib.Omega.{arith}
use mathlib.Core.Path.{◌≡◌, sym, ap}
use lib.Dec.{leb, ltb, eqb}
use lib.IntN.{ℤ, pos, negsuc, ◌+ℤ◌, ◌-ℤ◌}
use lib.Signed.{lt_z, le_z}
use borrow.Author.Tests.{ltb-true, ltb-false, lt-ltb, le-ltb, le-leb, lt-leb, ne_eqb}
use Rattle.integers.specs.Integer.{Word, eq_z}
use Rattle.integers.specs.Rank.{rank, Low}
use Rattle.facts.proofs.Cases.{by-test, same_ltb, same_leb, same_eqb}

pub low : (z : ℤ) → Word z → Low z
low (pos n) p = tt
low (negsuc n) p = p

pub rank_word : (z : ℤ) → Word z → rank z < 4294967296
rank_word (pos a) p = omega arith
rank_word (negsuc a) p = omega arith

pub word_of : (z : ℤ) → Low z → rank z < 4294967296 → Word z
word_of (pos a) p q = omega arith
word_of (negsuc a) p q = p

-- ---- comparison

pub low_lt_z : (x y : ℤ) → Low x → Low y → lt_z x y ≡ ltb (rank x) (rank y)
low_lt_z (pos a) (pos b) p q = same_ltb a b (a + 2147483648) (b + 2147483648) (λ h. omega arith) (λ h. omega arith)
low_lt_z (pos a) (negsuc b) p q = sym (le-ltb (a + 2147483648) (2147483647 - b) (omega arith))
low_lt_z (negsuc a) (pos b) p q = sym (lt-ltb (2147483647 - a) (b + 2147483648) (omega arith))
low_lt_z (negsuc a) (negsuc b) p q = same_ltb b a (2147483647 - a) (2147483647 - b) (λ h. omega arith) (λ h. omega arith)

pub low_le_z : (x y : ℤ) → Low x → Low y → le_z x y ≡ leb (rank x) (rank y)
low_le_z (pos a) (pos b) p q = same_leb a b (a + 2147483648) (b + 2147483648) (λ h. omega arith) (λ h. omega arith)
low_le_z (pos a) (negsuc b) p q = sym (lt-leb (a + 2147483648) (2147483647 - b) (omega arith))
low_le_z (negsuc a) (pos b) p q = sym (le-leb (2147483647 - a) (b + 2147483648) (omega arith))
low_le_z (negsuc a) (negsuc b) p q = same_leb b a (2147483647 - a) (2147483647 - b) (λ h. omega arith) (λ h. omega arith)

pub rank_lt_z : (x y : ℤ) → Word x → Word y → lt_z x y ≡ ltb (rank x) (rank y)
rank_lt_z x y p q = low_lt_z x y (low x p) (low y q)

pub rank_le_z : (x y : ℤ) → Word x → Word y → le_z x y ≡ leb (rank x) (rank y)
rank_le_z x y p q = low_le_z x y (low x p) (low y q)

-- ---- equality

pub low_eq_z : (x y : ℤ) → Low x → Low y → eq_z x y ≡ eqb (rank x) (rank y)
low_eq_z (pos a) (pos b) p q = same_eqb a b (a + 2147483648) (b + 2147483648) (λ h. omega arith) (λ h. omega arith)
low_eq_z (pos a) (negsuc b) p q = sym (ne_eqb (a + 2147483648) (2147483647 - b) (λ e. omega arith))
low_eq_z (negsuc a) (pos b) p q = sym (ne_eqb (2147483647 - a) (b + 2147483648) (λ e. omega arith))
low_eq_z (negsuc a) (negsuc b) p q = same_eqb a b (2147483647 - a) (2147483647 - b) (λ h. omega arith) (λ h. omega arith)

pub rank_inj : (x y : ℤ) → Low x → Low y → rank x ≡ rank y → x ≡ y
rank_inj (pos a) (pos b) p q e = ap pos (omega arith)
rank_inj (pos a) (negsuc b) p q e = absurd (omega arith)
rank_inj (negsuc a) (pos b) p q e = absurd (omega arith)
rank_inj (negsuc a) (negsuc b) p q e = ap negsuc (omega arith)

-- ---- the next, where it exists

pub rank_next : (z : ℤ) → Low z → rank (z +ℤ pos 1) ≡ rank z + 1
rank_next (pos a) p = omega arith
rank_next (negsuc a) p =
    by-test (ltb 1 (suc a))
    (λ e. let h : 1 < suc a = ltb-true 1 (suc a) e in rw e (omega arith))
    (λ e. let h : suc a ≤ 1 = ltb-false 1 (suc a) e in rw e (omega arith))

pub word_next : (z : ℤ) → Word z → rank z < 4294967295 → Word (z +ℤ pos 1)
word_next (pos a) p q = omega arith
word_next (negsuc a) p q =
    by-test (ltb 1 (suc a))
    (λ e. let h : 1 < suc a = ltb-true 1 (suc a) e in rw e (omega arith))
    (λ e. let h : suc a ≤ 1 = ltb-false 1 (suc a) e in rw e (omega arith))

-- ---- the previous, where it exists

pub rank_prev : (z : ℤ) → Word z → 0 < rank z → rank (z -ℤ pos 1) ≡ rank z - 1
rank_prev (pos a) p q =
    by-test (ltb a 1)
    (λ e. let h : a < 1 = ltb-true a 1 e in rw e (omega arith))
    (λ e. let h : 1 ≤ a = ltb-false a 1 e in rw e (omega arith))
rank_prev (negsuc a) p q = omega arith

pub word_prev : (z : ℤ) → Word z → 0 < rank z → Word (z -ℤ pos 1)
word_prev (pos a) p q =
    by-test (ltb a 1)
    (λ e. let h : a < 1 = ltb-true a 1 e in rw e (omega arith))
    (λ e. let h : 1 ≤ a = ltb-false a 1 e in rw e (omega arith))
word_prev (negsuc a) p q = omega arith
