-- Cases on tests and on the order of numbers, and what follows from a test. Assumes nothing.
use mathlib.Core.Path.{◌≡◌, refl, sym, ap, ◌∙◌}
use mathlib.Core.Bool.{Bool, true, false, ◌&&◌, ◌||◌}
use mathlib.Core.Logic.{◌⊎◌, inl, inr, ⊎_elim}
use Prim.Native.Nat.{ℕ, ◌<◌, ◌≤◌}
use native.Mathlib.Decide.{ℕ_discrete}
use native.Mathlib.Omega.{arith}
use lib.Dec.{ltb, leb, eqb}
use borrow.Author.Tests.{ltb-true, ltb-false, lt-ltb, le-ltb, le-leb, lt-leb, eqb-true, eqb-false, eq-eqb, ne_eqb}
use Rattle.facts.specs.Counting.{one_if}

pub by-test {ℓ} : {A : Type ℓ} (t : Bool) → (t ≡ true → A) → (t ≡ false → A) → A
by-test true f g = f refl
by-test false f g = g refl

pub below : (a b : ℕ) → (a < b) ⊎ (b ≤ a)
below a b = by-test (ltb a b) (λ e. inl (ltb-true a b e)) (λ e. inr (ltb-false a b e))

-- two tests are one where what they test is equivalent
pub same_ltb : (a b c d : ℕ) → (a < b → c < d) → (b ≤ a → d ≤ c) → ltb a b ≡ ltb c d
same_ltb a b c d f g = ⊎_elim (λ (h : a < b). lt-ltb a b h ∙ sym (lt-ltb c d (f h))) (λ (h : b ≤ a). le-ltb a b h ∙ sym (le-ltb c d (g h))) (below a b)

pub same_leb : (a b c d : ℕ) → (a ≤ b → c ≤ d) → (b < a → d < c) → leb a b ≡ leb c d
same_leb a b c d f g = ⊎_elim (λ (h : b < a). lt-leb a b h ∙ sym (lt-leb c d (g h))) (λ (h : a ≤ b). le-leb a b h ∙ sym (le-leb c d (f h))) (below b a)

pub same_eqb : (a b c d : ℕ) → (a ≡ b → c ≡ d) → (c ≡ d → a ≡ b) → eqb a b ≡ eqb c d
same_eqb a b c d f g =
    by-test (eqb a b)
    (λ e. e ∙ sym (eq-eqb c d (f (eqb-true a b e))))
    (λ e. e ∙ sym (ne_eqb c d (λ q. eqb-false a b e (g q))))

-- two numbers are equal or not, one is below the other or not, and a test holds or not
pub same? : (a b : ℕ) → (a ≡ b) ⊎ (a ≡ b → ⊥)
same? a b = elim (ℕ_discrete a b) [ yes p ↦ inl p | no n ↦ inr n ]

pub holds? : (b : Bool) → (b ≡ true) ⊎ (b ≡ false)
holds? true = inl refl
holds? false = inr refl

pub clash : {b : Bool} → b ≡ true → b ≡ false → ⊥
clash p q = let z : true ≡ false = sym p ∙ q in let u : ◌≡◌ {A = ℕ} 1 0 = ap one_if z in omega arith

pub not_so : (b : Bool) → (b ≡ true → ⊥) → b ≡ false
not_so true n = absurd (n refl)
not_so false n = refl

-- two tests of which each holds where the other does are one
pub same_test : (a b : Bool) → (a ≡ true → b ≡ true) → (b ≡ true → a ≡ true) → a ≡ b
same_test true b up down = sym (up refl)
same_test false b up down = sym (not_so b (λ t. clash (down t) refl))

-- both tests, and one of two
pub and_left : (a b : Bool) → (a && b) ≡ true → a ≡ true
and_left true b h = refl
and_left false b h = absurd (clash h refl)

pub and_right : (a b : Bool) → (a && b) ≡ true → b ≡ true
and_right true b h = h
and_right false b h = absurd (clash h refl)

pub both : (a b : Bool) → a ≡ true → b ≡ true → (a && b) ≡ true
both a b p q = ap (λ t. t && b) p ∙ q

pub one_of : (a b : Bool) → (a || b) ≡ true → (a ≡ true) ⊎ (b ≡ true)
one_of true b h = inl refl
one_of false b h = inr h

pub or_left : (a b : Bool) → a ≡ true → (a || b) ≡ true
or_left a b p = ap (λ t. t || b) p

pub or_right : (a b : Bool) → b ≡ true → (a || b) ≡ true
or_right true b p = refl
or_right false b p = p

-- a place counts, or does not
pub hit : (a b : ℕ) → a ≡ b → one_if (eqb a b) ≡ 1
hit a b h = ap one_if (eq-eqb a b h)

pub miss : (a b : ℕ) → (a ≡ b → ⊥) → one_if (eqb a b) ≡ 0
miss a b h = ap one_if (ne_eqb a b h)
