-- The bits of a mask of places: cut off, moved, filled. Assumes nothing.
use mathlib.Core.Path.{◌≡◌, refl, sym, ap, ap₂, ◌∙◌, subst}
use mathlib.Core.Logic.{⊎_elim}
use mathlib.Core.Bool.{Bool, true, false, not, ◌&&◌}
use Prim.Native.Nat.{ℕ, zero, suc, ◌+◌, ◌-◌, ◌*◌, ◌/◌, ◌%◌, ◌^◌, ◌≤◌, ◌<◌}
use native.Mathlib.Omega.{arith}
use lib.Dec.{leb, ltb, eqb}
use lib.Pow.{pow_pos}
use native.Mathlib.Nat.{pow-suc}
use lib.Bits.{bit_and}
use borrow.Author.Tests.{le-leb, lt-leb, lt-ltb, le-ltb, eqb-true, eqb-false, eq-eqb, ne_eqb}
use Rattle.masks.specs.Masks.{bit}
use Rattle.facts.proofs.Cases.{by-test, below, clash, not_so}
use Rattle.facts.proofs.Spans.{between_in}
use Rattle.masks.proofs.Masks.{bit_and_lem, bit_past, bit_none, ones_bits, bit_inside, bit_low, bit_half}
use Rattle.masks.proofs.Shifted.{bit_shr, bit_shl, bit_shl_low, bit_cut}

pub bit_outside : (n x e : ℕ) → x < 2 ^ n → n ≤ e → bit x e ≡ false
bit_outside n x e l k = not_so (bit x e) (λ h. let z = bit_inside n x e l h in omega arith)

-- a mask with a bit is not 0
pub bit_pos : (x e : ℕ) → bit x e ≡ true → 0 < x
bit_pos zero e h = absurd (clash h (bit_none e))
bit_pos (suc x) e h = omega arith

-- ---- cut off
pub cut_all : (x p e : ℕ) → x < 2 ^ 64 → 63 ≤ p → bit x e ≡ (leb e p && bit x e)
cut_all x p e l h = ⊎_elim
    (λ (q : p < e). bit_outside 64 x e l (omega arith) ∙ sym (ap (λ t. t && bit x e) (lt-leb e p q)))
    (λ (q : e ≤ p). sym (ap (λ t. t && bit x e) (le-leb e p q)))
    (below p e)

pub cut_to_lem : (x p e : ℕ) → bit (x % 2 ^ suc p) e ≡ (leb e p && bit x e)
cut_to_lem x p e = ⊎_elim
    (λ (q : p < e). bit_past (suc p) x e (omega arith) ∙ sym (ap (λ t. t && bit x e) (lt-leb e p q)))
    (λ (q : e ≤ p). bit_cut (suc p) x e (omega arith) ∙ sym (ap (λ t. t && bit x e) (le-leb e p q)))
    (below p e)

pub cut_none : (x p e : ℕ) → x < 2 ^ 64 → 63 < p → bit 0 e ≡ (leb p e && bit x e)
cut_none x p e l h = bit_none e ∙ sym (⊎_elim
    (λ (q : e < p). ap (λ t. t && bit x e) (lt-leb p e q))
    (λ (q : p ≤ e). ap₂ (λ t u. t && u) (le-leb p e q) (bit_outside 64 x e l (omega arith)))
    (below e p))

-- ---- moved
pub moved_up : (n x s e : ℕ) → bit (x * 2 ^ s % 2 ^ n) e ≡ (ltb e n && (leb s e && bit x (e - s)))
moved_up n x s e = ⊎_elim
    (λ (k : e < n). bit_cut n (x * 2 ^ s) e k ∙ ⊎_elim
    (λ (q : e < s).
    let none : bit (x * 2 ^ s) e ≡ false = subst (λ (z : ℕ). bit (x * 2 ^ z) e ≡ false) (omega arith) (bit_shl_low x (s - suc e) e) in
    none ∙ sym (ap₂ (λ t u. t && (u && bit x (e - s))) (lt-ltb e n k) (lt-leb s e q)))
    (λ (q : s ≤ e).
    let here : bit (x * 2 ^ s) e ≡ bit x (e - s) = subst (λ (z : ℕ). bit (x * 2 ^ s) z ≡ bit x (e - s)) (omega arith) (bit_shl x s (e - s)) in
    here ∙ sym (ap₂ (λ t u. t && (u && bit x (e - s))) (lt-ltb e n k) (le-leb s e q)))
    (below e s))
    (λ (k : n ≤ e). bit_past n (x * 2 ^ s) e k ∙ sym (ap (λ t. t && (leb s e && bit x (e - s))) (le-ltb e n k)))
    (below e n)

pub cut_from : (n x p e : ℕ) → x < 2 ^ n → bit (x / 2 ^ p * 2 ^ p % 2 ^ n) e ≡ (leb p e && bit x e)
cut_from n x p e l = moved_up n (x / 2 ^ p) p e ∙ ⊎_elim
    (λ (k : e < n). ap (λ t. t && (leb p e && bit (x / 2 ^ p) (e - p))) (lt-ltb e n k) ∙ ⊎_elim
    (λ (q : e < p). ap (λ t. t && bit (x / 2 ^ p) (e - p)) (lt-leb p e q) ∙ sym (ap (λ t. t && bit x e) (lt-leb p e q)))
    (λ (q : p ≤ e). let back : e - p + p ≡ e = omega arith in
    ap (λ t. leb p e && t) (bit_shr x p (e - p) ∙ ap (λ (z : ℕ). bit x z) back))
    (below e p))
    (λ (k : n ≤ e).
    ap (λ t. t && (leb p e && bit (x / 2 ^ p) (e - p))) (le-ltb e n k)
    ∙ sym (ap (λ t. leb p e && t) (bit_outside n x e l k) ∙ and_none (leb p e)))
    (below e n)
  where
    and_none : (b : Bool) → (b && false) ≡ false
    and_none true = refl
    and_none false = refl

-- ---- every place below n
pub bit_ones : (n e : ℕ) → e < n → bit (2 ^ n - 1) e ≡ true
bit_ones n e l = ones_bits n e ∙ between_in 0 n e (omega arith) l

-- ---- the places that a mask has not
other_digit : (x y : ℕ) → x + y ≡ 1 → eqb x 1 ≡ not (eqb y 1)
other_digit x y s = by-test (eqb y 1)
    (λ h. let z = eqb-true y 1 h in ne_eqb x 1 (λ q. omega arith) ∙ sym (ap not h))
    (λ h. let z = eqb-false y 1 h in eq-eqb x 1 (omega arith) ∙ sym (ap not h))

bit_not : (n b e : ℕ) → b < 2 ^ n → e < n → bit (2 ^ n - 1 - b) e ≡ not (bit b e)
bit_not zero b e l k = absurd (omega arith)
bit_not (suc n) b zero l k =
    let p = pow-suc 2 n in
    let q = pow_pos n in
    bit_low (2 ^ suc n - 1 - b) ∙ other_digit ((2 ^ suc n - 1 - b) % 2) (b % 2) (omega arith) ∙ sym (ap not (bit_low b))
bit_not (suc n) b (suc e) l k =
    let p = pow-suc 2 n in
    let q = pow_pos n in
    let half : (2 ^ suc n - 1 - b) / 2 ≡ 2 ^ n - 1 - b / 2 = omega arith in
    bit_half (2 ^ suc n - 1 - b) e ∙ ap (λ (x : ℕ). bit x e) half ∙ bit_not n (b / 2) e (omega arith) (omega arith) ∙ sym (ap not (bit_half b e))

pub without_bits : (n a b e : ℕ) → a < 2 ^ n → b < 2 ^ n → bit (bit_and a (2 ^ n - 1 - b)) e ≡ (bit a e && not (bit b e))
without_bits n a b e l m = bit_and_lem a (2 ^ n - 1 - b) e ∙ ⊎_elim
    (λ (k : e < n). ap (λ t. bit a e && t) (bit_not n b e m k))
    (λ (k : n ≤ e). ap (λ t. t && bit (2 ^ n - 1 - b) e) (bit_outside n a e l k) ∙ sym (ap (λ t. t && not (bit b e)) (bit_outside n a e l k)))
    (below e n)
