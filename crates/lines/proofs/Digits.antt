-- The digits of a number: a step of a division, how many there are, and what a store of the last one gives. Assumes nothing.
use mathlib.Core.Path.{◌≡◌, sym, ap, ◌∙◌}
use mathlib.Core.Bool.{true, false}
use mathlib.Core.List.{List, [], ◌∷◌, ◌++◌}
use Prim.Native.Nat.{ℕ, zero, suc, ◌+◌, ◌*◌, ◌/◌, ◌%◌, ◌≤◌, ◌<◌}
use native.Mathlib.Omega.{arith}
use lib.Dec.{ltb}
use lib.ListN.{length, length-append, set}
use borrow.Author.Tests.{ltb-true, ltb-false, lt-ltb, le-ltb}
use Rattle.facts.proofs.Cases.{by-test}
use Rattle.lines.specs.Line.{glyph, digits_by, decimal}
use Rattle.lines.specs.Contract.{placed}
use Rattle.lines.proofs.Places.{placed_set, placed_then, length_placed}

small_by : (f n : ℕ) → n < 10 → digits_by f n ≡ glyph n ∷ []
unfolding digits_by
small_by zero n h = ap (λ (d : ℕ). glyph d ∷ []) (omega arith)
small_by (suc f) n h = rw (lt-ltb n 10 h)

fuel_same : (f g n : ℕ) → n ≤ f → n ≤ g → digits_by f n ≡ digits_by g n
unfolding digits_by
fuel_same zero g n p q = small_by zero n (omega arith) ∙ sym (small_by g n (omega arith))
fuel_same (suc f) zero n p q = small_by (suc f) n (omega arith) ∙ sym (small_by zero n (omega arith))
fuel_same (suc f) (suc g) n p q =
    by-test (ltb n 10)
    (λ (e : ltb n 10 ≡ true). small_by (suc f) n (ltb-true n 10 e) ∙ sym (small_by (suc g) n (ltb-true n 10 e)))
    (λ (e : ltb n 10 ≡ false). let h : 10 ≤ n = ltb-false n 10 e in rw (e, fuel_same f g (n / 10) (omega arith) (omega arith)))

pub decimal_small : (n : ℕ) → n < 10 → decimal n ≡ glyph n ∷ []
unfolding decimal
decimal_small n h = small_by n n h

pub decimal_more : (n : ℕ) → 10 ≤ n → decimal n ≡ decimal (n / 10) ++ (glyph (n % 10) ∷ [])
unfolding decimal digits_by
decimal_more zero h = absurd (omega arith)
decimal_more (suc n) h = rw (le-ltb (suc n) 10 h, fuel_same n (suc n / 10) (suc n / 10) (omega arith) (omega arith))

-- ---- how many digits

abbrev pub most : ℕ → ℕ
most zero = 10
most (suc k) = 10 * most k

pub length_decimal : (k n : ℕ) → n < most k → length (decimal n) ≤ suc k
length_decimal zero n h = let e = ap length (decimal_small n h) in omega arith
length_decimal (suc k) n h =
    by-test (ltb n 10)
    (λ (e : ltb n 10 ≡ true). let f = ap length (decimal_small n (ltb-true n 10 e)) in omega arith)
    (λ (e : ltb n 10 ≡ false).
    let more : 10 ≤ n = ltb-false n 10 e in
    let f : length (decimal n) ≡ length (decimal (n / 10)) + 1 = ap length (decimal_more n more) ∙ length-append (decimal (n / 10)) (glyph (n % 10) ∷ []) in
    let ih : length (decimal (n / 10)) ≤ suc k = length_decimal k (n / 10) (omega arith) in
    omega arith)

-- ---- a store of the last digit

pub last_alone : (o : List ℕ) (at n : ℕ) → n < 10 → at + length (decimal n) ≤ length o → set o at (48 + n) ≡ placed at (decimal n) o
last_alone o at n h fits =
    let e = ap length (decimal_small n h) in
    placed_set o at (48 + n) (omega arith) ∙ ap (λ (l : List ℕ). placed at l o) (sym (decimal_small n h))

pub length_more : (n : ℕ) → 10 ≤ n → length (decimal n) ≡ length (decimal (n / 10)) + 1
length_more n more = ap length (decimal_more n more) ∙ length-append (decimal (n / 10)) (glyph (n % 10) ∷ [])

pub last_after : (o o' : List ℕ) (at n p : ℕ) → 10 ≤ n → at + length (decimal n) ≤ length o → o' ≡ placed at (decimal (n / 10)) o
    → p ≡ at + length (decimal (n / 10)) → set o' p (48 + n % 10) ≡ placed at (decimal n) o
last_after o o' at n p more fits e place =
    let size = length_more n more in
    let same : length o' ≡ length o = ap length e ∙ length_placed o (decimal (n / 10)) at (omega arith) in
    placed_set o' p (48 + n % 10) (omega arith)
    ∙ ap (λ (l : List ℕ). placed p (glyph (n % 10) ∷ []) l) e
    ∙ placed_then o (decimal (n / 10)) (glyph (n % 10) ∷ []) at p (omega arith) place
    ∙ ap (λ (l : List ℕ). placed at l o) (sym (decimal_more n more))

pub inside_alone : (o : List ℕ) (at n : ℕ) → n < 10 → at + length (decimal n) ≤ length o → at < length o
inside_alone o at n h fits = let e = ap length (decimal_small n h) in omega arith

pub next_alone : (at n : ℕ) → n < 10 → at + 1 ≡ at + length (decimal n)
next_alone at n h = let e = ap length (decimal_small n h) in omega arith

pub fits_front : (o : List ℕ) (at n : ℕ) → 10 ≤ n → at + length (decimal n) ≤ length o → at + length (decimal (n / 10)) ≤ length o
fits_front o at n more fits = let size = length_more n more in omega arith

pub falls_by_ten : (n : ℕ) → 10 ≤ n → n / 10 < n
falls_by_ten n more = omega arith

pub same_after : (o o' : List ℕ) (at n : ℕ) → 10 ≤ n → at + length (decimal n) ≤ length o → o' ≡ placed at (decimal (n / 10)) o → length o' ≡ length o
same_after o o' at n more fits e = let size = length_more n more in ap length e ∙ length_placed o (decimal (n / 10)) at (omega arith)

pub inside_after : (o o' : List ℕ) (at n p : ℕ) → 10 ≤ n → at + length (decimal n) ≤ length o → o' ≡ placed at (decimal (n / 10)) o
    → p ≡ at + length (decimal (n / 10)) → p < length o'
inside_after o o' at n p more fits e place =
    let size = length_more n more in
    let same = same_after o o' at n more fits e in
    omega arith

pub next_after : (at n p : ℕ) → 10 ≤ n → p ≡ at + length (decimal (n / 10)) → p + 1 ≡ at + length (decimal n)
next_after at n p more place = let size = length_more n more in omega arith
