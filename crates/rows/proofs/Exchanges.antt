-- Pairs of rows and blocks of rows exchanged, one after the other. Assumes nothing.
use mathlib.Core.Path.{◌≡◌, refl, sym, ap, ap₂, ◌∙◌, subst}
use mathlib.Core.Logic.{⊎_elim}
use mathlib.Core.Bool.{Bool, true, ◌||◌}
use mathlib.Core.List.{List}
use Prim.Native.Nat.{ℕ, ◌+◌, ◌-◌, ◌*◌, ◌%◌, ◌≤◌, ◌<◌}
use native.Mathlib.Omega.{arith}
use lib.ListN.{length, get_or, set, length-set}
use lib.Seq.{get_or-set_same, get_or-set_other}
use borrow.Author.Tests.{le-ltb}
use Rattle.masks.specs.Masks.{bit}
use Rattle.rows.specs.Rows.{picks}
use Rattle.facts.specs.Counting.{between}
use Rattle.facts.proofs.Cases.{same?, below, clash, one_of, or_left, or_right}
use Rattle.facts.proofs.Spans.{between_in, between_from, between_to, between_below, between_past, between_other}
use Rattle.rows.proofs.Rows.{row_picks}
use Rattle.rows.specs.Exchange.{digit, with_digit, LowColumns, LowerRow, UpperRow, Exchanged}
use Rattle.rows.proofs.Digits.{digit?, digit_low, digit_high, with_same, with_up, with_down, with_block, mask_low, mask_high, moved_low, moved_high}

-- ---- the pairs of a block, one after the other

-- the rows before i, and those j rows on
abbrev pub pairs : ℕ → ℕ → ℕ → ℕ → Bool
pairs j from i r = between from i r || between (from + j) (i + j) r

pub pairs_none : {j : ℕ} {a : List ℕ} (from : ℕ) → length a ≡ 32 → Exchanged j (pairs j from from) a a
pairs_none {j} {a} from h = record {
  size = h;
  inside = λ r c p l. absurd (⊎_elim
      (λ (q : between from from r ≡ true). let x = between_from from from r q in let y = between_to from from r q in omega arith)
      (λ (q : between (from + j) (from + j) r ≡ true). let x = between_from (from + j) (from + j) r q in let y = between_to (from + j) (from + j) r q in omega arith)
      (one_of (between from from r) (between (from + j) (from + j) r) p));
  outside = λ r c p. refl;
  beyond = λ r c l. refl;
}

pairs_all : (j from r : ℕ) → pairs j from (from + j) r ≡ between from (from + 2 * j) r
pairs_all j from r = ⊎_elim
    (λ (p : r < from). rw (between_below from (from + j) r p, between_below (from + j) (from + j + j) r (omega arith), between_below from (from + 2 * j) r p))
    (λ (p : from ≤ r). ⊎_elim
    (λ (q : r < from + j). rw (between_in from (from + j) r p q, between_in from (from + 2 * j) r p (omega arith)))
    (λ (q : from + j ≤ r). ⊎_elim
    (λ (t : r < from + 2 * j). rw (between_past from (from + j) r q, between_in (from + j) (from + j + j) r q (omega arith), between_in from (from + 2 * j) r p t))
    (λ (t : from + 2 * j ≤ r). rw (between_past from (from + j) r q, between_past (from + j) (from + j + j) r (omega arith), between_past from (from + 2 * j) r t))
    (below r (from + 2 * j)))
    (below r (from + j)))
    (below r from)

pub pairs_done : {j : ℕ} {a b : List ℕ} (from : ℕ) → Exchanged j (pairs j from (from + j)) a b → Exchanged j (between from (from + 2 * j)) a b
pairs_done {j} {a} {b} from e = record {
  size = e.size;
  inside = λ r c p l. e.inside r c (pairs_all j from r ∙ p) l;
  outside = λ r c p. e.outside r c (pairs_all j from r ∙ p);
  beyond = e.beyond;
}

module _ {j mask x y : ℕ} {a b : List ℕ} (from i : ℕ) (some : 0 < j) (block : from % (2 * j) ≡ 0) (fits : from + 2 * j ≤ 32) (columns : LowColumns j mask)
    (lower : from ≤ i) (upper : i < from + j) (e : Exchanged j (pairs j from i) a b)
    (low : LowerRow (get_or b i 0) (get_or b (i + j) 0) j mask x) (high : UpperRow (get_or b i 0) (get_or b (i + j) 0) j mask y) where
  abbrev new : List ℕ
  new = set (set b i x) (i + j) y

  -- the rows of the pair were as at the start
  was_low : (c : ℕ) → bit (get_or b i 0) c ≡ picks a i c
  was_low c = row_picks b i c ∙ e.outside i c (rw (between_past from i i (omega arith), between_below (from + j) (i + j) i upper))

  was_high : (c : ℕ) → bit (get_or b (i + j) 0) c ≡ picks a (i + j) c
  was_high c = row_picks b (i + j) c ∙ e.outside (i + j) c (rw (between_past from i (i + j) (omega arith), between_past (from + j) (i + j) (i + j) (omega arith)))

  -- the rows now
  is_low : (c : ℕ) → picks new i c ≡ bit x c
  is_low c =
      let s = e.size in
      sym (row_picks new i c) ∙ ap (λ (n : ℕ). bit n c) (get_or-set_other (set b i x) (i + j) i y 0 (λ q. omega arith) ∙ get_or-set_same b i x 0 (omega arith))

  is_high : (c : ℕ) → picks new (i + j) c ≡ bit y c
  is_high c =
      let s = length-set b i x ∙ e.size in
      sym (row_picks new (i + j) c) ∙ ap (λ (n : ℕ). bit n c) (get_or-set_same (set b i x) (i + j) y 0 (omega arith))

  is_other : (r c : ℕ) → (r ≡ i → ⊥) → (r ≡ i + j → ⊥) → picks new r c ≡ picks b r c
  is_other r c p q =
      sym (row_picks new r c) ∙ ap (λ (n : ℕ). bit n c) (get_or-set_other (set b i x) (i + j) r y 0 q ∙ get_or-set_other b i r x 0 p) ∙ row_picks b r c

  digit_i : digit j i ≡ 0
  digit_i = digit_low j from some block i lower upper

  digit_ij : digit j (i + j) ≡ 1
  digit_ij = digit_high j from some block (i + j) (omega arith) (omega arith)

  low_cell : (c : ℕ) → c < 32 → bit x c ≡ picks a (with_digit j i c) (with_digit j c i)
  low_cell c l = ⊎_elim
      (λ (p : digit j c ≡ 0). low.inside c l
      ∙ rw (moved_low j mask some columns c l p, with_same j i c (digit_i ∙ sym p), with_same j c i (p ∙ sym digit_i)) (was_low c))
      (λ (p : digit j c ≡ 1). low.inside c l
      ∙ rw (moved_high j mask some columns c l p, with_up j i c digit_i p, with_down j c i p digit_i) (was_high (c - j)))
      (digit? j c)

  high_cell : (c : ℕ) → c < 32 → bit y c ≡ picks a (with_digit j (i + j) c) (with_digit j c (i + j))
  high_cell c l = ⊎_elim
      (λ (p : digit j c ≡ 0). let back : i + j - j ≡ i = omega arith in high.same c
      ∙ rw (mask_low j mask some columns c l p, with_down j (i + j) c digit_ij p, with_up j c (i + j) p digit_ij, back) (was_low (c + j)))
      (λ (p : digit j c ≡ 1). high.same c
      ∙ rw (mask_high j mask some columns c l p, with_same j (i + j) c (digit_ij ∙ sym p), with_same j c (i + j) (p ∙ sym digit_ij)) (was_high c))
      (digit? j c)

  high_beyond : (c : ℕ) → 32 ≤ c → bit y c ≡ bit (get_or b (i + j) 0) c
  high_beyond c l = high.same c ∙ rw (columns.same c, le-ltb c 32 l)

  pairs_same : (r : ℕ) → (r ≡ i → ⊥) → (r ≡ i + j → ⊥) → pairs j from i r ≡ pairs j from (i + 1) r
  pairs_same r p q =
      let next : i + j + 1 ≡ i + 1 + j = omega arith in
      ap₂ (λ s t. s || t) (between_other from i r p) (between_other (from + j) (i + j) r q ∙ ap (λ (n : ℕ). between (from + j) n r) next)

  pub pairs_more : Exchanged j (pairs j from (i + 1)) a (set (set b i x) (i + j) y)
  pairs_more = record {
    size = length-set (set b i x) (i + j) y ∙ length-set b i x ∙ e.size;
    inside = λ r c p l. ⊎_elim
        (λ (q : r ≡ i). subst (λ (r : ℕ). picks new r c ≡ picks a (with_digit j r c) (with_digit j c r)) (sym q) (is_low c ∙ low_cell c l))
        (λ (q : r ≡ i → ⊥). ⊎_elim
        (λ (t : r ≡ i + j). subst (λ (r : ℕ). picks new r c ≡ picks a (with_digit j r c) (with_digit j c r)) (sym t) (is_high c ∙ high_cell c l))
        (λ (t : r ≡ i + j → ⊥). is_other r c q t ∙ e.inside r c (pairs_same r q t ∙ p) l)
        (same? r (i + j)))
        (same? r i);
    outside = λ r c p. ⊎_elim
        (λ (q : r ≡ i). absurd (clash (or_left (between from (i + 1) r) (between (from + j) (i + 1 + j) r) (between_in from (i + 1) r (omega arith) (omega arith))) p))
        (λ (q : r ≡ i → ⊥). ⊎_elim
        (λ (t : r ≡ i + j). absurd (clash (or_right (between from (i + 1) r) (between (from + j) (i + 1 + j) r) (between_in (from + j) (i + 1 + j) r (omega arith) (omega arith))) p))
        (λ (t : r ≡ i + j → ⊥). is_other r c q t ∙ e.outside r c (pairs_same r q t ∙ p))
        (same? r (i + j)))
        (same? r i);
    beyond = λ r c l. ⊎_elim
        (λ (q : r ≡ i). subst (λ (r : ℕ). picks new r c ≡ picks a r c) (sym q) (is_low c ∙ low.beyond c l ∙ was_low c))
        (λ (q : r ≡ i → ⊥). ⊎_elim
        (λ (t : r ≡ i + j). subst (λ (r : ℕ). picks new r c ≡ picks a r c) (sym t) (is_high c ∙ high_beyond c l ∙ was_high c))
        (λ (t : r ≡ i + j → ⊥). is_other r c q t ∙ e.beyond r c l)
        (same? r (i + j)))
        (same? r i);
  }

-- ---- the blocks, one after the other
pub blocks_none : {j : ℕ} {a : List ℕ} → length a ≡ 32 → Exchanged j (between 0 0) a a
blocks_none {j} {a} h = record {
  size = h;
  inside = λ r c p l. let x = between_to 0 0 r p in absurd (omega arith);
  outside = λ r c p. refl;
  beyond = λ r c l. refl;
}

pub blocks_more : {j : ℕ} {a b d : List ℕ} (k : ℕ) → 0 < j → k % (2 * j) ≡ 0 → Exchanged j (between 0 k) a b → Exchanged j (between k (k + 2 * j)) b d
    → Exchanged j (between 0 (k + 2 * j)) a d
blocks_more {j} {a} {b} {d} k some block e f = record {
  size = f.size;
  inside = λ r c p l. let t = between_to 0 (k + 2 * j) r p in ⊎_elim
      (λ (q : r < k). f.outside r c (between_below k (k + 2 * j) r q) ∙ e.inside r c (between_in 0 k r (omega arith) q) l)
      (λ (q : k ≤ r). f.inside r c (between_in k (k + 2 * j) r q t) l
      ∙ e.outside (with_digit j r c) (with_digit j c r) (between_past 0 k (with_digit j r c) (with_block j k r c some block q t).0))
      (below r k);
  outside = λ r c p. ⊎_elim
      (λ (q : r < k + 2 * j). absurd (clash (between_in 0 (k + 2 * j) r (omega arith) q) p))
      (λ (q : k + 2 * j ≤ r). f.outside r c (between_past k (k + 2 * j) r q) ∙ e.outside r c (between_past 0 k r (omega arith)))
      (below r (k + 2 * j));
  beyond = λ r c l. f.beyond r c l ∙ e.beyond r c l;
}
