-- The claims of specs/Claims.antt, proved. Assumes nothing.
use mathlib.Core.Path.{◌≡◌, sym, ap, ◌∙◌}
use Prim.Native.Nat.{ℕ}
use native.Mathlib.Omega.{arith}
use Rattle.grammar.specs.Read.{verdict}
use Rattle.elements.specs.Contract.{rejected, accepted}
use Rattle.integers.proofs.FourBytes.{int_at_int_bytes, int_bytes_signed}
use Rattle.integers.proofs.Ranks.{low, rank_lt_z, rank_le_z, low_eq_z, word_next, rank_next, word_prev, rank_prev}
use Rattle.reading_claims.specs.Claims.{ReadsBack, WritesBack, OrderKept, Neighbours, NumberGiven, AcceptedAtZero}

-- ---- integers
pub reads_back : ReadsBack
reads_back = int_at_int_bytes

pub writes_back : WritesBack
writes_back = int_bytes_signed

pub order_kept : OrderKept
order_kept x y p q = (rank_lt_z x y p q, rank_le_z x y p q, low_eq_z x y (low x p) (low y q))

pub neighbours : Neighbours
neighbours z p = (λ h. (word_next z p h, rank_next z (low z p)), λ h. (word_prev z p h, rank_prev z p h))

-- ---- reading
pub number_given : NumberGiven
unfolding verdict
number_given A o r (rejected q p) = sym (ap verdict q)
number_given A o r (accepted a q z) = z ∙ sym (ap verdict q)

pub accepted_at_zero : AcceptedAtZero
accepted_at_zero A o r (rejected q p) = (λ z. absurd (omega arith), λ a e. let c : ◌≡◌ {A = ℕ} 0 1 = cc in absurd (omega arith))
accepted_at_zero A o r (accepted a q z) = (λ z'. (a, q), λ b e. z)
