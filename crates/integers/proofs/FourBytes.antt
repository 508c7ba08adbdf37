-- The four bytes of a 32-bit integer say that integer, and four bytes are those of the integer that they say. Assumes nothing.
use Prim.Native.Nat.{ℕ, ◌+◌, ◌-◌, ◌*◌, ◌/◌, ◌%◌, ◌≤◌, ◌<◌}
use native.Mathlib.Omega.{arith}
use native.Mathlib.Nat.{add_assoc, div-div-eq-div-mul}
use mathlib.Core.Path.{◌≡◌, refl, sym, ap, ◌∙◌}
use mathlib.Core.List.{List, [], ◌∷◌, ◌++◌}
use lib.Dec.{ltb}
use lib.ListN.{length, drop}
use lib.Seq.{get_or-drop}
use lib.IntN.{ℤ, pos, negsuc}
use borrow.Author.Tests.{lt-ltb, le-ltb}
use Rattle.integers.specs.Integer.{Word, joined, signed, bits_at, int_at, bits, four_bytes, int_bytes}
use Rattle.facts.proofs.Cases.{by-test}

-- ---- the bits

pub bits_word : (z : ℤ) → Word z → bits z < 4294967296
bits_word (pos n) p = omega arith
bits_word (negsuc n) p = omega arith

pub signed_bits : (z : ℤ) → Word z → signed (bits z) ≡ z
unfolding signed
signed_bits (pos n) p = rw (lt-ltb n 2147483648 p)
signed_bits (negsuc n) p = rw (le-ltb (4294967295 - n) 2147483648 (omega arith)) (ap negsuc (omega arith))

pub signed_low : (u : ℕ) → u < 2147483648 → signed u ≡ pos u
unfolding signed
signed_low u p = rw (lt-ltb u 2147483648 p)

pub signed_high : (u : ℕ) → 2147483648 ≤ u → signed u ≡ negsuc (4294967295 - u)
unfolding signed
signed_high u p = rw (le-ltb u 2147483648 p)

pub bits_signed : (u : ℕ) → u < 4294967296 → bits (signed u) ≡ u
bits_signed u p =
    by-test (ltb u 2147483648)
    (λ e. let h : u < 2147483648 = borrow.Author.Tests.ltb-true u 2147483648 e in rw (signed_low u h))
    (λ e. let h : 2147483648 ≤ u = borrow.Author.Tests.ltb-false u 2147483648 e in rw (signed_high u h) (omega arith))

-- whatever the bytes are
pub word_signed : (u : ℕ) → Word (signed u)
word_signed u =
    by-test (ltb u 2147483648)
    (λ e. let h : u < 2147483648 = borrow.Author.Tests.ltb-true u 2147483648 e in rw (signed_low u h) (omega arith))
    (λ e. let h : 2147483648 ≤ u = borrow.Author.Tests.ltb-false u 2147483648 e in rw (signed_high u h) (omega arith))

-- every integer that is read is a 32-bit one
pub word_int_at : (s : List ℕ) (i : ℕ) → Word (int_at s i)
unfolding int_at
word_int_at s i = word_signed (bits_at s i)

-- ---- the bytes

pub length_int_bytes : (z : ℤ) → length (int_bytes z) ≡ 4
unfolding int_bytes
length_int_bytes z = refl

split : (n : ℕ) → n ≡ 256 * (n / 256) + n % 256
split n = omega arith

pub joined_four : (u : ℕ) → u < 4294967296 → joined (u % 256) (u / 256 % 256) (u / 65536 % 256) (u / 16777216 % 256) ≡ u
joined_four u p =
    let q₂ : u / 65536 ≡ u / 256 / 256 = sym (div-div-eq-div-mul u 256 256) in
    let q₃ : u / 16777216 ≡ u / 65536 / 256 = sym (div-div-eq-div-mul u 65536 256) in
    let top : u / 16777216 % 256 ≡ u / 16777216 = omega arith in
    add (u / 256) (u / 65536) (u / 16777216) (u % 256) (u / 256 % 256) (u / 65536 % 256) (u / 16777216 % 256) (split u)
    (split (u / 256) ∙ ap (λ (z : ℕ). 256 * z + u / 256 % 256) (sym q₂))
    (split (u / 65536) ∙ ap (λ (z : ℕ). 256 * z + u / 65536 % 256) (sym q₃)) top
  where
    add : (q₁ q₂ q₃ r₀ r₁ r₂ r₃ : ℕ) → u ≡ 256 * q₁ + r₀ → q₁ ≡ 256 * q₂ + r₁ → q₂ ≡ 256 * q₃ + r₂ → r₃ ≡ q₃ → joined r₀ r₁ r₂ r₃ ≡ u
    add q₁ q₂ q₃ r₀ r₁ r₂ r₃ e₁ e₂ e₃ e₄ = omega arith

-- the integer written in front of s is read back from there
pub int_at_int_bytes : (z : ℤ) (s : List ℕ) → Word z → int_at (int_bytes z ++ s) 0 ≡ z
unfolding int_at int_bytes
int_at_int_bytes z s p = ap signed (joined_four (bits z) (bits_word z p)) ∙ signed_bits z p

-- the bytes of the number that four bytes say are those four
pub bytes_joined : (a b c d : ℕ) → a < 256 → b < 256 → c < 256 → d < 256
    → (joined a b c d % 256 ≡ a) × (joined a b c d / 256 % 256 ≡ b) × (joined a b c d / 65536 % 256 ≡ c) × (joined a b c d / 16777216 % 256 ≡ d)
bytes_joined a b c d pa pb pc pd =
    let q₁ : joined a b c d / 256 ≡ b + c * 256 + d * 65536 = omega arith in
    let q₂ : joined a b c d / 65536 ≡ c + d * 256 = omega arith in
    let q₃ : joined a b c d / 16777216 ≡ d = omega arith in
    (omega arith, rw q₁ (omega arith), rw q₂ (omega arith), rw q₃ (omega arith))

-- four bytes are those of the integer that they say
pub int_bytes_signed : (a b c d : ℕ) → a < 256 → b < 256 → c < 256 → d < 256 → int_bytes (signed (joined a b c d)) ≡ a ∷ b ∷ c ∷ d ∷ []
unfolding int_bytes
int_bytes_signed a b c d pa pb pc pd =
    let e = bytes_joined a b c d pa pb pc pd in
    ap four_bytes (bits_signed (joined a b c d) (omega arith)) ∙ rw (e.0, e.1, e.2, e.3)

-- ---- at a place

pub bits_at_drop : (t : List ℕ) (at i : ℕ) → bits_at (drop at t) i ≡ bits_at t (at + i)
bits_at_drop t at i = simp (get_or-drop, add_assoc)

pub int_at_drop : (t : List ℕ) (at i : ℕ) → int_at (drop at t) i ≡ int_at t (at + i)
unfolding int_at
int_at_drop t at i = ap signed (bits_at_drop t at i)
