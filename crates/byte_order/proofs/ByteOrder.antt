-- Laws of byte order and of firsts, for the crates above. Assumes nothing.
-- earlier is a strict total order on lists of bytes: earlier_irreflexive, earlier_transitive, earlier_asymmetric, earlier_total.
-- It looks at the left parts first where they are of one length: earlier_append_same, earlier_append_left, earlier_append_not.
-- Byte by byte: earlier_at, not_earlier.
-- The first is unique (first_unique); firsts of sets that are the same are the same (first_same).
use mathlib.Core.Path.{◌≡◌, refl, sym, ap, ap₂, ◌∙◌}
use mathlib.Core.Logic.{◌⊎◌, inl, inr, ⊎_elim}
use mathlib.Core.Bool.{true, false, ◌&&◌, ◌||◌}
use mathlib.Core.List.{List, [], ◌∷◌, ◌++◌}
use Prim.Native.Nat.{ℕ, zero, suc, ◌+◌, ◌≤◌, ◌<◌, suc-le-suc}
use native.Mathlib.Nat.{not-suc-le-zero}
use native.Mathlib.Omega.{arith}
use lib.Dec.{eqb, ltb}
use lib.ListN.{length, get_or}
use borrow.Author.Tests.{eq-eqb, lt-ltb, le-ltb, ltb-true, eqb-true}
use Rattle.byte_order.specs.ByteOrder.{earlier, First}
use Rattle.facts.proofs.Cases.{below, holds?, clash, not_so, one_of, and_left, and_right}

-- ---- the heads decide, or the tails do
head_less : (x y : ℕ) (xs ys : List ℕ) → x < y → earlier (x ∷ xs) (y ∷ ys) ≡ true
unfolding earlier
head_less x y xs ys l = ap (λ t. t || (eqb x y && earlier xs ys)) (lt-ltb x y l)

pub head_same : (x y : ℕ) (xs ys : List ℕ) → x ≡ y → earlier (x ∷ xs) (y ∷ ys) ≡ earlier xs ys
unfolding earlier
head_same x y xs ys q = ap₂ (λ t u. t || (u && earlier xs ys)) (le-ltb x y (omega arith)) (eq-eqb x y q)

heads : (x y : ℕ) (xs ys : List ℕ) → earlier (x ∷ xs) (y ∷ ys) ≡ true → (x < y) ⊎ ((x ≡ y) × (earlier xs ys ≡ true))
unfolding earlier
heads x y xs ys h = ⊎_elim
    (λ (p : ltb x y ≡ true). inl (ltb-true x y p))
    (λ (p : (eqb x y && earlier xs ys) ≡ true). inr (eqb-true x y (and_left (eqb x y) (earlier xs ys) p), and_right (eqb x y) (earlier xs ys) p))
    (one_of (ltb x y) (eqb x y && earlier xs ys) h)

-- ---- a strict total order
pub earlier_irreflexive : (a : List ℕ) → earlier a a ≡ false
unfolding earlier
earlier_irreflexive [] = refl
earlier_irreflexive (x ∷ xs) = head_same x x xs xs refl ∙ earlier_irreflexive xs

pub earlier_transitive : (a b c : List ℕ) → earlier a b ≡ true → earlier b c ≡ true → earlier a c ≡ true
unfolding earlier
earlier_transitive [] [] c p q = absurd (clash p refl)
earlier_transitive [] (y ∷ ys) [] p q = absurd (clash q refl)
earlier_transitive [] (y ∷ ys) (z ∷ zs) p q = refl
earlier_transitive (x ∷ xs) [] c p q = absurd (clash p refl)
earlier_transitive (x ∷ xs) (y ∷ ys) [] p q = absurd (clash q refl)
earlier_transitive (x ∷ xs) (y ∷ ys) (z ∷ zs) p q = ⊎_elim
    (λ (l : x < y). ⊎_elim
    (λ (k : y < z). head_less x z xs zs (omega arith))
    (λ (k : (y ≡ z) × (earlier ys zs ≡ true)). head_less x z xs zs (omega arith))
    (heads y z ys zs q))
    (λ (l : (x ≡ y) × (earlier xs ys ≡ true)). ⊎_elim
    (λ (k : y < z). head_less x z xs zs (omega arith))
    (λ (k : (y ≡ z) × (earlier ys zs ≡ true)). head_same x z xs zs (l.0 ∙ k.0) ∙ earlier_transitive xs ys zs l.1 k.1)
    (heads y z ys zs q))
    (heads x y xs ys p)

pub earlier_asymmetric : (a b : List ℕ) → earlier a b ≡ true → earlier b a ≡ false
earlier_asymmetric a b p = not_so (earlier b a) (λ q. clash (earlier_transitive a b a p q) (earlier_irreflexive a))

pub earlier_total : (a b : List ℕ) → earlier a b ≡ false → earlier b a ≡ false → a ≡ b
unfolding earlier
earlier_total [] [] p q = refl
earlier_total [] (y ∷ ys) p q = absurd (clash refl p)
earlier_total (x ∷ xs) [] p q = absurd (clash refl q)
earlier_total (x ∷ xs) (y ∷ ys) p q = ⊎_elim
    (λ (l : x < y). absurd (clash (head_less x y xs ys l) p))
    (λ (l : y ≤ x). ⊎_elim
    (λ (k : y < x). absurd (clash (head_less y x ys xs k) q))
    (λ (k : x ≤ y).
    let e : x ≡ y = omega arith in
    ap₂ (λ h t. h ∷ t) e (earlier_total xs ys (sym (head_same x y xs ys e) ∙ p) (sym (head_same y x ys xs (sym e)) ∙ q)))
    (below y x))
    (below x y)

-- not later, and not later again
pub earlier_not_transitive : (a b c : List ℕ) → earlier b a ≡ false → earlier c b ≡ false → earlier c a ≡ false
earlier_not_transitive a b c p q = not_so (earlier c a) (λ h. ⊎_elim
    (λ (r : earlier a b ≡ true). clash (earlier_transitive c a b h r) q)
    (λ (r : earlier a b ≡ false). clash h (ap (λ l. earlier c l) (earlier_total a b r p) ∙ q))
    (holds? (earlier a b)))

-- ---- concatenations
pub earlier_append_same : (a b c : List ℕ) → earlier (a ++ b) (a ++ c) ≡ earlier b c
earlier_append_same [] b c = refl
earlier_append_same (x ∷ xs) b c = head_same x x (xs ++ b) (xs ++ c) refl ∙ earlier_append_same xs b c

pub earlier_append_left : (a a' b b' : List ℕ) → length a ≡ length a' → earlier a a' ≡ true → earlier (a ++ b) (a' ++ b') ≡ true
unfolding earlier
earlier_append_left [] [] b b' n p = absurd (clash p refl)
earlier_append_left [] (y ∷ ys) b b' n p = absurd (omega arith)
earlier_append_left (x ∷ xs) [] b b' n p = absurd (omega arith)
earlier_append_left (x ∷ xs) (y ∷ ys) b b' n p = ⊎_elim
    (λ (l : x < y). head_less x y (xs ++ b) (ys ++ b') l)
    (λ (l : (x ≡ y) × (earlier xs ys ≡ true)). head_same x y (xs ++ b) (ys ++ b') l.0 ∙ earlier_append_left xs ys b b' (omega arith) l.1)
    (heads x y xs ys p)

pub earlier_append_not : (a a' b b' : List ℕ) → length a ≡ length a' → earlier a a' ≡ false → earlier b b' ≡ false → earlier (a ++ b) (a' ++ b') ≡ false
earlier_append_not a a' b b' n p q = ⊎_elim
    (λ (r : earlier a' a ≡ true). earlier_asymmetric (a' ++ b') (a ++ b) (earlier_append_left a' a b' b (sym n) r))
    (λ (r : earlier a' a ≡ false). ap (λ l. earlier (l ++ b) (a' ++ b')) (earlier_total a a' p r) ∙ earlier_append_same a' b b' ∙ q)
    (holds? (earlier a' a))

-- the smaller byte at the first place where they differ
pub earlier_at : (a b : List ℕ) (d : ℕ) → d < length a → d < length b → ((i : ℕ) → i < d → get_or a i 0 ≡ get_or b i 0) → get_or a d 0 < get_or b d 0 → earlier a b ≡ true
earlier_at [] b d la lb same l = absurd (not-suc-le-zero la)
earlier_at (x ∷ xs) [] d la lb same l = absurd (not-suc-le-zero lb)
earlier_at (x ∷ xs) (y ∷ ys) zero la lb same l = head_less x y xs ys l
earlier_at (x ∷ xs) (y ∷ ys) (suc d) la lb same l =
    head_same x y xs ys (same 0 (omega arith)) ∙ earlier_at xs ys d (omega arith) (omega arith) (λ i h. same (suc i) (suc-le-suc h)) l

-- no byte is smaller than the other list's at its place
pub not_earlier : (a b : List ℕ) → length a ≡ length b → ((i : ℕ) → i < length b → get_or b i 0 ≤ get_or a i 0) → earlier a b ≡ false
unfolding earlier
not_earlier [] [] n l = refl
not_earlier [] (y ∷ ys) n l = absurd (omega arith)
not_earlier (x ∷ xs) [] n l = absurd (omega arith)
not_earlier (x ∷ xs) (y ∷ ys) n l =
    let least : y ≤ x = l 0 (omega arith) in
    ⊎_elim
    (λ (h : y < x). earlier_asymmetric (y ∷ ys) (x ∷ xs) (head_less y x ys xs h))
    (λ (h : x ≤ y). head_same x y xs ys (omega arith) ∙ not_earlier xs ys (omega arith) (λ i h. l (suc i) (suc-le-suc h)))
    (below y x)

-- ---- firsts
pub first_unique : {P : List ℕ → Type 0} {v w : List ℕ} → First P v → First P w → v ≡ w
first_unique {v} {w} p q = earlier_total v w (q.least v p.holds) (p.least w q.holds)

pub first_same : {P Q : List ℕ → Type 0} {w : List ℕ} → ((v : List ℕ) → P v → Q v) → ((v : List ℕ) → Q v → P v) → First P w → First Q w
first_same {w} there back p = record { holds = there w p.holds; least = λ v q. p.least v (back v q) }
