-- The bits of a mask that is moved, or cut off. Assumes nothing.
use mathlib.Core.Path.{◌≡◌, sym, ap, ◌∙◌, subst}
use mathlib.Core.Bool.{false}
use Prim.Native.Nat.{ℕ, suc, ◌+◌, ◌-◌, ◌*◌, ◌/◌, ◌%◌, ◌^◌, ◌<◌}
use native.Mathlib.Nat.{add_comm, mul_assoc}
use native.Mathlib.Omega.{arith}
use lib.Dec.{eqb}
use lib.Bits.{shifted_even}
use lib.Pow.{pow-add, shl-shr, shr-shr, field, mod-mod-pow}
use Rattle.masks.specs.Masks.{bit}

pub bit_shr : (u j c : ℕ) → bit (u / 2 ^ j) c ≡ bit u (c + j)
unfolding bit
bit_shr u j c = ap (λ (x : ℕ). eqb (x % 2) 1) (shr-shr u j c ∙ ap (λ (x : ℕ). u / 2 ^ x) (add_comm j c))

pub bit_shl : (t j c : ℕ) → bit (t * 2 ^ j) (c + j) ≡ bit t c
bit_shl t j c = sym (bit_shr (t * 2 ^ j) j c) ∙ ap (λ (x : ℕ). bit x c) (shl-shr t j)

pub bit_shl_low : (t d c : ℕ) → bit (t * 2 ^ (suc d + c)) c ≡ false
unfolding bit
bit_shl_low t d c = rw (pow-add, ← mul_assoc, shl-shr, shifted_even)

-- a number cut to n bits has its bits below n
bit_cut_at : (x d c : ℕ) → bit (x % 2 ^ ((d + 1) + c)) c ≡ bit x c
unfolding bit
bit_cut_at x d c = ap (λ (z : ℕ). eqb (z % 2) 1) (field x (d + 1) c) ∙ ap (λ (z : ℕ). eqb z 1) (mod-mod-pow (x / 2 ^ c) d 1)

pub bit_cut : (n x c : ℕ) → c < n → bit (x % 2 ^ n) c ≡ bit x c
bit_cut n x c l = subst (λ (k : ℕ). bit (x % 2 ^ k) c ≡ bit x c) (omega arith) (bit_cut_at x (n - suc c) c)
