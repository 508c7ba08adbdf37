-- The digits of the numbers of rows and columns. Assumes nothing.
use mathlib.Core.Path.{◌≡◌, sym, ap, ◌∙◌}
use mathlib.Core.Logic.{◌⊎◌, inl, inr, ⊎_elim}
use mathlib.Core.Bool.{true, false, ◌&&◌}
use Prim.Native.Nat.{ℕ, ◌+◌, ◌-◌, ◌*◌, ◌/◌, ◌%◌, ◌≤◌, ◌<◌}
use native.Mathlib.Nat.{mul_assoc, add-mul, mul-le-mul, mod-lt, div-eq_of_lt, div-add-mod', div-eq_of_lt-le, div-eq-sub-div, add-div_right, add-mod_right, mul-mod_left, mod-eq-sub-mod}
use lib.Arith.{mod-mul}
use native.Mathlib.Omega.{arith}
use lib.Dec.{leb, lit<}
use borrow.Author.Tests.{lt-ltb, le-leb, lt-leb}
use Rattle.masks.specs.Masks.{bit}
use Rattle.facts.proofs.Cases.{below, same?}
use Rattle.rows.specs.Exchange.{digit, with_digit, LowColumns}

-- ---- a digit is 0 or 1
pub digit? : (j i : ℕ) → (digit j i ≡ 0) ⊎ (digit j i ≡ 1)
unfolding digit
digit? j i = let l : i / j % 2 < 2 = mod-lt (i / j) (lit< tt) in ⊎_elim inl (λ n. inr (omega arith)) (same? (i / j % 2) 0)

-- ---- the digits in a block of 2 j rows
module _ (j from : ℕ) (some : 0 < j) (block : from % (2 * j) ≡ 0) where
  start : from ≡ from / (2 * j) * 2 * j
  start = let a = div-add-mod' from (2 * j) in let b = mul_assoc (from / (2 * j)) 2 j in omega arith

  pub digit_low : (i : ℕ) → from ≤ i → i < from + j → digit j i ≡ 0
  unfolding digit
  digit_low i a b =
      let q = from / (2 * j) in
      let s = start in
      let m = add-mul (q * 2) 1 j in
      let e : i / j ≡ q * 2 = div-eq_of_lt-le j {m = i} (omega arith) (omega arith) in
      omega arith

  pub digit_high : (i : ℕ) → from + j ≤ i → i < from + 2 * j → digit j i ≡ 1
  unfolding digit
  digit_high i a b =
      let q = from / (2 * j) in
      let s = start in
      let m = add-mul (q * 2) 1 j in
      let n = add-mul (q * 2 + 1) 1 j in
      let e : i / j ≡ q * 2 + 1 = div-eq_of_lt-le j {m = i} (omega arith) (omega arith) in
      omega arith

  pub block_next : (from + 2 * j) % (2 * j) ≡ 0
  block_next = add-mod_right from (2 * j) ∙ block

-- a whole block is left
pub block_fits : (j k size : ℕ) → k % (2 * j) ≡ 0 → size % (2 * j) ≡ 0 → k < size → k + 2 * j ≤ size
block_fits j k size hk hs l =
    let a = div-add-mod' k (2 * j) in
    let b = div-add-mod' size (2 * j) in
    ⊎_elim
    (λ (q : k / (2 * j) < size / (2 * j)). let m = mul-le-mul {n₁ = k / (2 * j) + 1} {m₁ = 2 * j} {n₂ = size / (2 * j)} {m₂ = 2 * j} (omega arith) (omega arith) in let d = add-mul (k / (2 * j)) 1 (2 * j) in omega arith)
    (λ (q : size / (2 * j) ≤ k / (2 * j)). let m = mul-le-mul {n₁ = size / (2 * j)} {m₁ = 2 * j} {m₂ = 2 * j} q (omega arith) in absurd (omega arith))
    (below (k / (2 * j)) (size / (2 * j)))

-- ---- a number with another's digit
pub one_reaches : (j i : ℕ) → digit j i ≡ 1 → j ≤ i
unfolding digit
one_reaches j i h = ⊎_elim (λ (q : i < j). let e = div-eq_of_lt q in absurd (omega arith)) (λ (q : j ≤ i). q) (below i j)

pub with_same : (j i c : ℕ) → digit j i ≡ digit j c → with_digit j i c ≡ i
unfolding with_digit
with_same j i c h = ⊎_elim
    (λ (p : digit j i ≡ 0). rw (sym h, p) (omega arith))
    (λ (p : digit j i ≡ 1). let l = one_reaches j i p in rw (sym h, p) (omega arith))
    (digit? j i)

pub with_up : (j i c : ℕ) → digit j i ≡ 0 → digit j c ≡ 1 → with_digit j i c ≡ i + j
unfolding with_digit
with_up j i c p q = rw (p, q) (omega arith)

pub with_down : (j i c : ℕ) → digit j i ≡ 1 → digit j c ≡ 0 → with_digit j i c ≡ i - j
unfolding with_digit
with_down j i c p q = rw (p, q) (omega arith)

-- a number stays in its block
pub with_block : (j k i c : ℕ) → 0 < j → k % (2 * j) ≡ 0 → k ≤ i → i < k + 2 * j → (k ≤ with_digit j i c) × (with_digit j i c < k + 2 * j)
with_block j k i c some block a b = ⊎_elim
    (λ (p : digit j i ≡ 0). ⊎_elim
    (λ (q : digit j c ≡ 0). let e = with_same j i c (p ∙ sym q) in (omega arith, omega arith))
    (λ (q : digit j c ≡ 1). let e = with_up j i c p q in ⊎_elim
    (λ (l : i < k + j). (omega arith, omega arith))
    (λ (l : k + j ≤ i). let z = digit_high j k some block i l b in absurd (omega arith))
    (below i (k + j)))
    (digit? j c))
    (λ (p : digit j i ≡ 1). ⊎_elim
    (λ (q : digit j c ≡ 0). let e = with_down j i c p q in ⊎_elim
    (λ (l : i < k + j). let z = digit_low j k some block i a l in absurd (omega arith))
    (λ (l : k + j ≤ i). (omega arith, omega arith))
    (below i (k + j)))
    (λ (q : digit j c ≡ 1). let e = with_same j i c (p ∙ sym q) in (omega arith, omega arith))
    (digit? j c))
    (digit? j i)

-- and so below a number of whole blocks
pub with_below : (j s i c : ℕ) → 0 < j → s % (2 * j) ≡ 0 → i < s → with_digit j i c < s
with_below j s i c some blocks l =
    let k = i / (2 * j) * (2 * j) in
    let a = div-add-mod' i (2 * j) in
    let b : i % (2 * j) < 2 * j = mod-lt i (omega arith) in
    let start : k % (2 * j) ≡ 0 = mul-mod_left (i / (2 * j)) (2 * j) in
    let w = with_block j k i c some start (omega arith) (omega arith) in
    let f = block_fits j k s start blocks (omega arith) in
    omega arith

-- the digits below j stay, those above too
with_mod : (j i c : ℕ) → with_digit j i c % j ≡ i % j
with_mod j i c = ⊎_elim
    (λ (p : digit j i ≡ 0). ⊎_elim
    (λ (q : digit j c ≡ 0). rw (with_same j i c (p ∙ sym q)))
    (λ (q : digit j c ≡ 1). rw (with_up j i c p q) (add-mod_right i j))
    (digit? j c))
    (λ (p : digit j i ≡ 1). ⊎_elim
    (λ (q : digit j c ≡ 0). rw (with_down j i c p q) (sym (mod-eq-sub-mod (one_reaches j i p))))
    (λ (q : digit j c ≡ 1). rw (with_same j i c (p ∙ sym q)))
    (digit? j c))
    (digit? j i)

with_div : (j i c : ℕ) → 0 < j → with_digit j i c / j + digit j i ≡ i / j + digit j c
with_div j i c some = ⊎_elim
    (λ (p : digit j i ≡ 0). ⊎_elim
    (λ (q : digit j c ≡ 0). rw (with_same j i c (p ∙ sym q), p, q))
    (λ (q : digit j c ≡ 1). let d = add-div_right i some in rw (with_up j i c p q, p, q) (omega arith))
    (digit? j c))
    (λ (p : digit j i ≡ 1). ⊎_elim
    (λ (q : digit j c ≡ 0). let d = div-eq-sub-div some (one_reaches j i p) in rw (with_down j i c p q, p, q) (omega arith))
    (λ (q : digit j c ≡ 1). rw (with_same j i c (p ∙ sym q), p, q))
    (digit? j c))
    (digit? j i)

two_digits : (j n : ℕ) → 0 < j → n % (2 * j) ≡ digit j n * j + n % j
unfolding digit
two_digits j n some = mod-mul n (lit< tt) some

pub with_mix : (j i c : ℕ) → 0 < j → with_digit j i c / j * j + with_digit j c i % j ≡ i / (2 * j) * (2 * j) + c % (2 * j)
with_mix j i c some =
    let d = ap (λ (x : ℕ). x * j) (with_div j i c some) in
    let l = add-mul (with_digit j i c / j) (digit j i) j in
    let r = add-mul (i / j) (digit j c) j in
    let m = with_mod j c i in
    let ai = div-add-mod' i j in
    let bi = div-add-mod' i (2 * j) in
    let ci : i % (2 * j) ≡ digit j i * j + i % j = two_digits j i some in
    let ce : c % (2 * j) ≡ digit j c * j + c % j = two_digits j c some in
    omega arith

-- ---- the columns of the mask, and those j columns on
module _ (j mask : ℕ) (some : 0 < j) (columns : LowColumns j mask) where
  pub mask_low : (c : ℕ) → c < 32 → digit j c ≡ 0 → bit mask c ≡ true
  mask_low c l h = columns.same c ∙ rw (lt-ltb c 32 l, h)

  pub mask_high : (c : ℕ) → c < 32 → digit j c ≡ 1 → bit mask c ≡ false
  mask_high c l h = columns.same c ∙ rw (lt-ltb c 32 l, h)

  back_digit : (c : ℕ) → j ≤ c → digit j c ≡ (digit j (c - j) + 1) % 2
  unfolding digit
  back_digit c l = let e = div-eq-sub-div some l in omega arith

  pub moved_high : (c : ℕ) → c < 32 → digit j c ≡ 1 → (leb j c && bit mask (c - j)) ≡ true
  moved_high c l h =
      let r = one_reaches j c h in
      let z : digit j (c - j) ≡ 0 = ⊎_elim (λ p. p) (λ (p : digit j (c - j) ≡ 1). let b = back_digit c r in absurd (omega arith)) (digit? j (c - j)) in
      rw (le-leb j c r) (mask_low (c - j) (omega arith) z)

  pub moved_low : (c : ℕ) → c < 32 → digit j c ≡ 0 → (leb j c && bit mask (c - j)) ≡ false
  moved_low c l h = ⊎_elim
      (λ (q : c < j). rw (lt-leb j c q))
      (λ (q : j ≤ c).
      let z : digit j (c - j) ≡ 1 = ⊎_elim (λ (p : digit j (c - j) ≡ 0). let b = back_digit c q in absurd (omega arith)) (λ p. p) (digit? j (c - j)) in
      rw (le-leb j c q) (mask_high (c - j) (omega arith) z))
      (below c j)
