-- Rows as masks: a row is its element's members, or its member's elements. Assumes nothing.
use mathlib.Core.Path.{◌≡◌, refl, sym, ap, ap₂, ◌∙◌}
use mathlib.Core.Bool.{true, false, ◌&&◌, and-true}
use mathlib.Core.List.{List}
use Prim.Native.Nat.{ℕ, zero, suc, ◌+◌}
use lib.Bits.{bit_and}
use lib.ListN.{get_or, replicate}
use Rattle.masks.specs.Masks.{bit}
use Rattle.facts.specs.Counting.{between}
use Rattle.rows.specs.Rows.{may, picks}
use Rattle.rows.specs.Columns.{Turned}
use Rattle.masks.proofs.Masks.{bit_none, and_none, and_bits}

-- the same of the choices of a member: what they have in common with a mask
module _ (cols : List ℕ) (m row : ℕ) (choices : (e : ℕ) → bit row e ≡ picks cols m e) where
  pub row_bits : (b e : ℕ) → bit (bit_and row b) e ≡ true → (picks cols m e ≡ true) × (bit b e ≡ true)
  row_bits b e h = let k = and_bits row b e h in (sym (choices e) ∙ k.0, k.1)

  pub row_none : (b e : ℕ) → bit_and row b ≡ 0 → picks cols m e ≡ true → bit b e ≡ true → ⊥
  row_none b e h p q = and_none row b e h (choices e ∙ p) q

-- a row of elements has the members of its element, and a row of members the elements of its member
pub row_may : (rows : List ℕ) (m e : ℕ) → bit (get_or rows e 0) m ≡ may rows m e
unfolding may
row_may rows m e = refl

pub row_picks : (cols : List ℕ) (m e : ℕ) → bit (get_or cols m 0) e ≡ picks cols m e
unfolding picks
row_picks cols m e = refl

-- rows of zeros have nobody
zero_at : (n m : ℕ) → ◌≡◌ {A = ℕ} (get_or {A = ℕ} (replicate n 0) m 0) 0
zero_at zero m = refl
zero_at (suc n) zero = refl
zero_at (suc n) (suc m) = zero_at n m

pub zeros_may : (m e : ℕ) → may (replicate 32 0) m e ≡ false
zeros_may m e = sym (row_may (replicate 32 0) m e) ∙ ap (λ (n : ℕ). bit n m) (zero_at 32 e) ∙ bit_none m

-- the columns of the block on the piece say what the rows say
pub turned_says : {rows cols : List ℕ} {first k from to : ℕ} → Turned rows first k from to cols
    → (m e : ℕ) → between first (first + k) m ≡ true → between from to e ≡ true → picks cols m e ≡ may rows m e
turned_says {rows} t m e b p = t.same m e ∙ ap₂ (λ s u. may rows m e && (s && u)) b p ∙ and-true (may rows m e)
