-- The exchange of two rows, bit by bit. Assumes nothing.
use mathlib.Core.Path.{◌≡◌, refl, ap, ◌∙◌, subst}
use mathlib.Core.Logic.{⊎_elim}
use mathlib.Core.Bool.{Bool, true, false, cond, ◌&&◌}
use Prim.Native.Nat.{ℕ, suc, ◌+◌, ◌-◌, ◌*◌, ◌/◌, ◌%◌, ◌^◌, ◌≤◌, ◌<◌}
use native.Mathlib.Omega.{arith}
use lib.Dec.{leb}
use lib.Bits.{bit_and, bit_xor}
use borrow.Author.Tests.{le-leb, lt-leb}
use Rattle.masks.specs.Masks.{bit}
use Rattle.facts.proofs.Cases.{below}
use Rattle.masks.proofs.Masks.{odd, bit_and_lem, bit_xor_lem, bit_past}
use Rattle.masks.proofs.Shifted.{bit_shr, bit_shl, bit_shl_low, bit_cut}
use Rattle.rows.specs.Exchange.{LowerRow, UpperRow}

-- ---- the two rows
taken_high : (h l m : Bool) → odd (odd h l && m) l ≡ cond m h l
taken_high true true true = refl
taken_high true true false = refl
taken_high true false true = refl
taken_high true false false = refl
taken_high false true true = refl
taken_high false true false = refl
taken_high false false true = refl
taken_high false false false = refl

taken_low : (h l m : Bool) → odd (odd h l && m) h ≡ cond m l h
taken_low true true true = refl
taken_low true true false = refl
taken_low true false true = refl
taken_low true false false = refl
taken_low false true true = refl
taken_low false true false = refl
taken_low false false true = refl
taken_low false false false = refl

module _ (low high j mask : ℕ) where
  abbrev crossing : ℕ
  crossing = bit_and (bit_xor (low / 2 ^ j) high) mask

  bit_crossing : (c : ℕ) → bit crossing c ≡ (odd (bit high c) (bit low (c + j)) && bit mask c)
  bit_crossing c = rw (bit_and_lem, bit_xor_lem, bit_shr)

  pub lower_row : LowerRow low high j mask (bit_xor low (crossing * 2 ^ j % 2 ^ 32))
  lower_row = record {
    inside = λ c l. ⊎_elim (λ (q : c < j). under c l q) (λ (q : j ≤ c). over c l q) (below c j);
    beyond = λ c l. rw (bit_xor_lem, bit_past 32 (crossing * 2 ^ j) c l);
  }
    where
      under : (c : ℕ) → c < 32 → c < j → bit (bit_xor low (crossing * 2 ^ j % 2 ^ 32)) c ≡ cond (leb j c && bit mask (c - j)) (bit high (c - j)) (bit low c)
      under c l q =
          let none : bit (crossing * 2 ^ j) c ≡ false = subst (λ (k : ℕ). bit (crossing * 2 ^ k) c ≡ false) (omega arith) (bit_shl_low crossing (j - suc c) c) in
          rw (bit_xor_lem, bit_cut 32 (crossing * 2 ^ j) c l, none, lt-leb j c q)

      over : (c : ℕ) → c < 32 → j ≤ c → bit (bit_xor low (crossing * 2 ^ j % 2 ^ 32)) c ≡ cond (leb j c && bit mask (c - j)) (bit high (c - j)) (bit low c)
      over c l q =
          let back : c - j + j ≡ c = omega arith in
          let here : bit (crossing * 2 ^ j) c ≡ (odd (bit high (c - j)) (bit low c) && bit mask (c - j)) =
          subst (λ (k : ℕ). bit (crossing * 2 ^ j) k ≡ (odd (bit high (c - j)) (bit low k) && bit mask (c - j))) back (bit_shl crossing j (c - j) ∙ bit_crossing (c - j)) in
          rw (bit_xor_lem, bit_cut 32 (crossing * 2 ^ j) c l, here, le-leb j c q) (taken_high (bit high (c - j)) (bit low c) (bit mask (c - j)))

  pub upper_row : UpperRow low high j mask (bit_xor high crossing)
  upper_row = record { same = λ c. bit_xor_lem high crossing c ∙ ap (λ b. odd b (bit high c)) (bit_crossing c) ∙ taken_low (bit high c) (bit low (c + j)) (bit mask c) }
