-- Where one list comes before another, and byte order from a place on. Assumes nothing.
use mathlib.Core.Path.{◌≡◌, refl, sym, ap, ap₂, ◌∙◌}
use mathlib.Core.Logic.{⊎_elim}
use mathlib.Core.Bool.{true, false, ◌&&◌, ◌||◌, or-false}
use mathlib.Core.List.{List, [], ◌∷◌}
use Prim.Native.Nat.{ℕ, zero, suc, ◌+◌, ◌≤◌, ◌<◌, suc-le-suc}
use native.Mathlib.Nat.{not-suc-le-zero, le_of_suc-le-suc}
use native.Mathlib.Numerals.{add-one}
use native.Mathlib.Omega.{arith}
use lib.Dec.{eqb, ltb}
use lib.ListN.{length, get_or, drop, drop_of_length-le}
use lib.Seq.{drop-cons}
use borrow.Author.Tests.{ltb-true, eqb-true, ne_eqb}
use Rattle.byte_order.specs.ByteOrder.{earlier}
use Rattle.byte_order.proofs.ByteOrder.{head_same, earlier_at, earlier_asymmetric}
use Rattle.facts.proofs.Cases.{clash, one_of, and_left, and_right}
use Rattle.fronts.specs.Fronts.{Later}

-- ---- the first place where two lists differ
pub earlier_where : (a b : List ℕ) → length a ≡ length b → earlier a b ≡ true → Later a b
unfolding earlier
earlier_where [] [] n h = absurd (clash h refl)
earlier_where [] (y ∷ ys) n h = absurd (omega arith)
earlier_where (x ∷ xs) [] n h = absurd (omega arith)
earlier_where (x ∷ xs) (y ∷ ys) n h = ⊎_elim
    (λ (p : ltb x y ≡ true). record { at = 0; left = omega arith; right = omega arith; same = λ i l. absurd (not-suc-le-zero l); less = ltb-true x y p })
    (λ (p : (eqb x y && earlier xs ys) ≡ true).
    let e = eqb-true x y (and_left (eqb x y) (earlier xs ys) p) in
    let r = earlier_where xs ys (omega arith) (and_right (eqb x y) (earlier xs ys) p) in
    record { at = suc r.at; left = suc-le-suc r.left; right = suc-le-suc r.right; same = later_same x y xs ys r.at e r.same; less = r.less })
    (one_of (ltb x y) (eqb x y && earlier xs ys) h)
  where
    later_same : (x y : ℕ) (xs ys : List ℕ) (n : ℕ) → x ≡ y → ((i : ℕ) → i < n → get_or xs i 0 ≡ get_or ys i 0) → (i : ℕ) → i < suc n → get_or (x ∷ xs) i 0 ≡ get_or (y ∷ ys) i 0
    later_same x y xs ys n e s zero l = e
    later_same x y xs ys n e s (suc i) l = s i (le_of_suc-le-suc l)

pub later_not : (a b : List ℕ) → Later a b → earlier b a ≡ false
later_not a b l = earlier_asymmetric a b (earlier_at a b l.at l.left l.right l.same l.less)

-- ---- byte order from a place on
earlier_differ : (x y : ℕ) (xs ys : List ℕ) → (x ≡ y → ⊥) → earlier (x ∷ xs) (y ∷ ys) ≡ ltb x y
unfolding earlier
earlier_differ x y xs ys n = ap (λ t. ltb x y || (t && earlier xs ys)) (ne_eqb x y n) ∙ or-false (ltb x y)

module _ (a b : List ℕ) (n : ℕ) (la : length a ≡ n) (lb : length b ≡ n) where
  pub order_end : (e : ℕ) → n ≤ e → earlier (drop e a) (drop e b) ≡ false
  unfolding earlier
  order_end e l = ap₂ (λ x y. earlier x y) (drop_of_length-le a {i = e} (omega arith)) (drop_of_length-le b {i = e} (omega arith))

  pub order_differ : (e : ℕ) → e < n → (get_or a e 0 ≡ get_or b e 0 → ⊥) → earlier (drop e a) (drop e b) ≡ ltb (get_or a e 0) (get_or b e 0)
  order_differ e l d = ap₂ (λ x y. earlier x y) (drop-cons a e 0 (omega arith)) (drop-cons b e 0 (omega arith)) ∙ earlier_differ (get_or a e 0) (get_or b e 0) (drop (suc e) a) (drop (suc e) b) d

  pub order_agree : (e : ℕ) → e < n → get_or a e 0 ≡ get_or b e 0 → earlier (drop e a) (drop e b) ≡ earlier (drop (e + 1) a) (drop (e + 1) b)
  order_agree e l q = ap₂ (λ x y. earlier x y) (drop-cons a e 0 (omega arith)) (drop-cons b e 0 (omega arith))
      ∙ head_same (get_or a e 0) (get_or b e 0) (drop (suc e) a) (drop (suc e) b) q
      ∙ ap (λ (j : ℕ). earlier (drop j a) (drop j b)) (sym (add-one e))
