-- A signed local of the code holds bits: b of them are the integer `to_z w32 b`, and an integer z that is stored and read again is
-- `to_z w32 (of_z w32 z)`. Tests of them, and their neighbours. Assumes nothing.
use Prim.Native.Nat.{ℕ, ◌+◌, ◌-◌, ◌≤◌, ◌<◌}
use native.Mathlib.Omega.{arith}
use mathlib.Core.Path.{◌≡◌, sym, ap, ◌∙◌}
use mathlib.Core.Bool.{Bool, true, false}
use lib.IntN.{ℤ, pos, negsuc, ◌+ℤ◌, ◌-ℤ◌}
use lib.Signed.{lt_z, le_z}
use mir.Syntax.{w32}
use mir.Val.{to_z, of_z}
use mir.Facts.{to_z-of_z, sfits_to_z, Fits-of_z}
use borrow.Author.Tests.{ltb-true, ltb-false, leb-true, leb-false}
use Rattle.integers.specs.Integer.{Word}
use Rattle.integers.specs.Rank.{rank}
use Rattle.integers.proofs.Ranks.{rank_lt_z, rank_le_z, word_next, word_prev}

abbrev pub num : ℕ → ℤ
num b = to_z w32 b

abbrev pub again : ℤ → ℤ
again z = to_z w32 (of_z w32 z)

pub again_same : (z : ℤ) → Word z → again z ≡ z
again_same z p = to_z-of_z {w = w32} (record { sfits = p })

pub word_num : (b : ℕ) → b < 4294967296 → Word (num b)
word_num b p = (sfits_to_z {w = w32} {n = b} (record { fits = p })).sfits

pub bits_fit : (z : ℤ) → Word z → of_z w32 z < 4294967296
bits_fit z p = (Fits-of_z {w = w32} {z = z} (record { sfits = p })).fits

-- ---- tests

-- the test of two integers that were read, out of their bits
pub told_order : (a b i j : ℤ) (f : Bool) → lt_z (again a) (again b) ≡ f → Word a → Word b → a ≡ i → b ≡ j → lt_z i j ≡ f
told_order a b i j f h p q e g = rw (again_same a p, again_same b q, e, g) at h

pub lt_rank : (x y : ℤ) → Word x → Word y → lt_z x y ≡ true → rank x < rank y
lt_rank x y p q e = ltb-true (rank x) (rank y) (sym (rank_lt_z x y p q) ∙ e)

pub ge_rank : (x y : ℤ) → Word x → Word y → lt_z x y ≡ false → rank y ≤ rank x
ge_rank x y p q e = ltb-false (rank x) (rank y) (sym (rank_lt_z x y p q) ∙ e)

pub le_rank : (x y : ℤ) → Word x → Word y → le_z x y ≡ true → rank x ≤ rank y
le_rank x y p q e = leb-true (rank x) (rank y) (sym (rank_le_z x y p q) ∙ e)

pub gt_rank : (x y : ℤ) → Word x → Word y → le_z x y ≡ false → rank y < rank x
gt_rank x y p q e = leb-false (rank x) (rank y) (sym (rank_le_z x y p q) ∙ e)

pub most_yes : (z : ℤ) → Word z → of_z w32 z ≡ 2147483647 → z ≡ pos 2147483647
most_yes (pos n) p e = ap pos e
most_yes (negsuc n) p e = absurd (omega arith)

pub most_no : (z : ℤ) → Word z → (of_z w32 z ≡ 2147483647 → ⊥) → rank z < 4294967295
most_no (pos n) p f = other n f p
  where
    other : (n : ℕ) → (n ≡ 2147483647 → ⊥) → n < 2147483648 → n + 2147483648 < 4294967295
    other n f p = omega arith
most_no (negsuc n) p f = omega arith

pub least_yes : (z : ℤ) → Word z → of_z w32 z ≡ 2147483648 → z ≡ negsuc 2147483647
least_yes (pos n) p e = absurd (omega arith)
least_yes (negsuc n) p e = ap negsuc (omega arith)

-- ---- neighbours, as the code computes them

pub next_same : (z : ℤ) → Word z → rank z < 4294967295 → again (again z +ℤ pos 1) ≡ z +ℤ pos 1
next_same z p q = rw (again_same z p) (again_same (z +ℤ pos 1) (word_next z p q))

pub prev_same : (z : ℤ) → Word z → 0 < rank z → again (again z -ℤ pos 1) ≡ z -ℤ pos 1
prev_same z p q = rw (again_same z p) (again_same (z -ℤ pos 1) (word_prev z p q))
