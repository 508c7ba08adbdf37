-- Rows and columns exchanged, one digit after the other. Assumes nothing.
use mathlib.Core.Path.{◌≡◌, refl, sym, ap₂, ◌∙◌, subst}
use mathlib.Core.Logic.{⊎_elim}
use mathlib.Core.Bool.{Bool, true, false, not, ◌&&◌}
use mathlib.Core.List.{List}
use Prim.Native.Nat.{ℕ, zero, suc, ◌+◌, ◌*◌, ◌/◌, ◌%◌, ◌^◌, ◌≤◌, ◌<◌}
use native.Mathlib.Nat.{mod-eq_of_lt, div-eq_of_lt, mul-le-mul, le-div_iff_mul-le}
use native.Mathlib.Omega.{arith}
use lib.Dec.{eqb}
use lib.ListN.{length}
use borrow.Author.Tests.{lt-ltb, le-ltb}
use Rattle.masks.specs.Masks.{bit}
use Rattle.rows.specs.Rows.{picks}
use Rattle.facts.specs.Counting.{between}
use Rattle.facts.proofs.Cases.{same?, below, not_so, and_left, and_right}
use Rattle.facts.proofs.Spans.{between_in, between_past}
use Rattle.masks.proofs.Masks.{bit_past}
use Rattle.rows.specs.Exchange.{digit, with_digit, LowColumns, Exchanged, Square, Within, Transposed}
use Rattle.rows.proofs.Digits.{with_below, with_mix}

-- ---- the masks, by computing below 32
every : (ℕ → Bool) → ℕ → Bool
every P zero = true
every P (suc n) = P n && every P n

every_at : (P : ℕ → Bool) (n i : ℕ) → every P n ≡ true → i < n → P i ≡ true
unfolding every
every_at P zero i h l = absurd (omega arith)
every_at P (suc n) i h l = ⊎_elim
    (λ (q : i ≡ n). subst (λ (k : ℕ). P k ≡ true) (sym q) (and_left (P n) (every P n) h))
    (λ (q : i ≡ n → ⊥). every_at P n i (and_right (P n) (every P n) h) (omega arith))
    (same? i n)

abbrev alike : Bool → Bool → Bool
alike true b = b
alike false b = not b

alike_same : (a b : Bool) → alike a b ≡ true → a ≡ b
alike_same true true h = refl
alike_same true false h = sym h
alike_same false true h = h
alike_same false false h = refl

low_columns : (j mask : ℕ) → mask % 2 ^ 32 ≡ mask → every (λ c. alike (bit mask c) (eqb (digit j c) 0)) 32 ≡ true → LowColumns j mask
low_columns j mask w h = record {
  same = λ c. ⊎_elim
      (λ (l : c < 32). rw (lt-ltb c 32 l) (alike_same (bit mask c) (eqb (digit j c) 0) (every_at (λ c. alike (bit mask c) (eqb (digit j c) 0)) 32 c h l)))
      (λ (l : 32 ≤ c). rw (le-ltb c 32 l) (subst (λ (n : ℕ). bit n c ≡ false) w (bit_past 32 mask c l)))
      (below c 32);
}

-- the masks of the exchanges
pub low_masks : LowColumns 1 1431655765 × LowColumns 2 858993459 × LowColumns 4 252645135 × LowColumns 8 16711935 × LowColumns 16 65535
unfolding every bit digit
low_masks =
    (low_columns 1 1431655765 refl refl, low_columns 2 858993459 refl refl, low_columns 4 252645135 refl refl, low_columns 8 16711935 refl refl, low_columns 16 65535 refl refl)

-- ---- the digits below w are exchanged in the first s rows
pub record Mixed (w s : ℕ) (a b : List ℕ) : Type 0 where
  pub inside : (i c : ℕ) → i < s → c < 32 → picks b i c ≡ picks a (i / w * w + c % w) (c / w * w + i % w)
  pub outside : (i c : ℕ) → s ≤ i → picks b i c ≡ picks a i c
  pub beyond : (i c : ℕ) → 32 ≤ c → picks b i c ≡ picks a i c

pub mixed_none : {s : ℕ} {a : List ℕ} → Mixed 1 s a a
mixed_none {s} {a} = record {
  inside = λ i c l k. ap₂ (picks a) (omega arith) (omega arith);
  outside = λ i c l. refl;
  beyond = λ i c l. refl;
}

pub mixed_more : {w s : ℕ} {a b d : List ℕ} → 0 < w → s % (2 * w) ≡ 0 → 32 % (2 * w) ≡ 0 → Mixed w s a b → Exchanged w (between 0 s) b d → Mixed (2 * w) s a d
mixed_more {w} {s} {a} {b} {d} some rows columns m e = record {
  inside = λ i c l k. e.inside i c (between_in 0 s i (omega arith) l) k
      ∙ m.inside (with_digit w i c) (with_digit w c i) (with_below w s i c some rows l) (with_below w 32 c i some columns k)
      ∙ ap₂ (picks a) (with_mix w i c some) (with_mix w c i some);
  outside = λ i c l. e.outside i c (between_past 0 s i l) ∙ m.outside i c l;
  beyond = λ i c l. e.beyond i c l ∙ m.beyond i c l;
}

-- ---- all digits are exchanged
past_row : (s : ℕ) (a : List ℕ) (i c : ℕ) → Within s a → s ≤ i → picks a i c ≡ false
past_row s a i c n l = not_so (picks a i c) (λ u. let x = n.row i c u in omega arith)

past_column : (s : ℕ) (a : List ℕ) (i c : ℕ) → Within s a → s ≤ c → picks a i c ≡ false
past_column s a i c n l = not_so (picks a i c) (λ u. let x = n.column i c u in omega arith)

whole : (s i c : ℕ) → i < s → c < s → i / s * s + c % s ≡ c
whole s i c l k = rw (div-eq_of_lt l, mod-eq_of_lt k) (omega arith)

mixed_done : {s : ℕ} {a b : List ℕ} → 0 < s → s ≤ 32 → length b ≡ 32 → Within s a → Mixed s s a b → Transposed a b
mixed_done {s} {a} {b} some most size n m = record {
  size = size;
  same = λ i c. ⊎_elim
      (λ (l : i < s). ⊎_elim
      (λ (k : c < s). m.inside i c l (omega arith) ∙ ap₂ (picks a) (whole s i c l k) (whole s c i k l))
      (λ (k : s ≤ c). ⊎_elim (λ (u : c < 32). m.inside i c l u ∙ past_column s a _ (c / s * s + i % s) n (far c i k)) (λ (u : 32 ≤ c). m.beyond i c u ∙ past_column s a i c n k) (below c 32)
      ∙ sym (past_row s a c i n k))
      (below c s))
      (λ (l : s ≤ i). m.outside i c l ∙ past_row s a i c n l ∙ sym (past_column s a c i n l))
      (below i s);
}
  where
    far : (c i : ℕ) → s ≤ c → s ≤ c / s * s + i % s
    far c i k = let q = le-div_iff_mul-le {x = 1} {y = c} some in let r : 1 ≤ c / s = q.1 (omega arith) in let t = mul-le-mul {n₁ = 1} {m₁ = s} {m₂ = s} r (omega arith) in omega arith

-- ---- the sizes, as facts on numbers
pub sizes : (s : ℕ) → Square s → (8 ≤ s) × (s ≤ 32) × (s % 8 ≡ 0) × (8 < s → s % 16 ≡ 0) × (16 < s → s ≡ 32)
sizes s q =
    ⊎_elim
    (λ (e : s ≡ 8). (omega arith, omega arith, omega arith, λ l. absurd (omega arith), λ l. absurd (omega arith)))
    (λ q. ⊎_elim
    (λ (e : s ≡ 16). (omega arith, omega arith, omega arith, λ l. omega arith, λ l. absurd (omega arith)))
    (λ (e : s ≡ 32). (omega arith, omega arith, omega arith, λ l. omega arith, λ l. e))
    q)
    q

pub mixed_all : {w s : ℕ} {a b : List ℕ} → Square s → length b ≡ 32 → Within s a → s ≡ w → Mixed w s a b → Transposed a b
mixed_all {w} {s} {a} {b} q size n e m =
    let t = sizes s q in
    mixed_done (omega arith) t.1 size n (subst (λ (v : ℕ). Mixed v s a b) (sym e) m)
