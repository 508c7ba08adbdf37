-- The number of a family and a type says both; what is known of the leaves of a sort is known of those of its family and type. Assumes nothing.
use mathlib.Core.Path.{◌≡◌, refl, sym, ap, ap₂, ◌∙◌, subst, subst₂}
use mathlib.Core.Bool.{false, true≢false}
use mathlib.Core.List.{List}
use Prim.Native.Nat.{ℕ, ◌+◌, ◌*◌, ◌/◌, ◌%◌, ◌<◌}
use native.Mathlib.Omega.{arith}
use lib.Dec.{eqb}
use lib.IntN.{ℤ}
use lib.Signed.{lt_z}
use borrow.Author.Tests.{eqb-true}
use Rattle.facts.proofs.Cases.{by-test}
use Rattle.format.specs.declared.Family.{Family}
use Rattle.integers.specs.Integer.{Word, least, greatest, signed, bits}
use Rattle.integers.proofs.FourBytes.{bits_word, signed_bits}
use Rattle.grammar.specs.Record.{Head}
use Rattle.grammar.specs.Family.{LeafOf, leaves_in}
use Rattle.sorts.specs.declared.Sort.{Sort}
use Rattle.sorts.specs.Sorts.{floats_word, word_of, family_of, lower_of, upper_of, leaves_for, Sorted, of_integers, of_floats}

-- the halves of a number
high : (a b : ℕ) → b < 4294967296 → (a * 4294967296 + b) / 4294967296 ≡ a
high a b p = omega arith

low : (a b : ℕ) → b < 4294967296 → (a * 4294967296 + b) % 4294967296 ≡ b
low a b p = omega arith

greatest_read : signed (floats_word / 4294967296) ≡ greatest
unfolding signed
greatest_read = refl

least_read : signed (floats_word % 4294967296) ≡ least
unfolding signed
least_read = refl

module _ (lo hi : ℤ) (p : Word lo) (q : Word hi) (k : Sort) (w : k.word ≡ word_of Family.Integers lo hi) where
  pub lower_said : lower_of k ≡ lo
  lower_said = ap (λ (n : ℕ). signed (n / 4294967296)) w ∙ ap signed (high (bits lo) (bits hi) (bits_word hi q)) ∙ signed_bits lo p

  pub upper_said : upper_of k ≡ hi
  upper_said = ap (λ (n : ℕ). signed (n % 4294967296)) w ∙ ap signed (low (bits lo) (bits hi) (bits_word hi q)) ∙ signed_bits hi q

  -- the floats' number is that of bounds that are reversed
  pub integers_said : lt_z hi lo ≡ false → family_of k ≡ Family.Integers
  integers_said o =
      by-test (eqb k.word floats_word)
      (λ e.
      let f : k.word ≡ floats_word = eqb-true k.word floats_word e in
      let l : lo ≡ greatest = sym lower_said ∙ ap (λ (n : ℕ). signed (n / 4294967296)) f ∙ greatest_read in
      let h : hi ≡ least = sym upper_said ∙ ap (λ (n : ℕ). signed (n % 4294967296)) f ∙ least_read in
      absurd (true≢false (ap₂ lt_z (sym h) (sym l) ∙ o)))
      (λ e. rw e)

  pub typed_said : lt_z hi lo ≡ false → Sorted Family.Integers lo hi k
  typed_said o = of_integers refl (integers_said o) lower_said upper_said

pub said : (fam : Family) (lo hi : ℤ) → Word lo → Word hi → lt_z hi lo ≡ false → (k : Sort) → k.word ≡ word_of fam lo hi → Sorted fam lo hi k
said Family.Integers lo hi p q o k w = typed_said lo hi p q k w o
said Family.Floats lo hi p q o k w = of_floats refl (rw w)

-- a sort without a type
pub untyped_said : (fam : Family) (k : Sort) → k.word ≡ word_of fam least greatest → Sorted fam least greatest k
untyped_said fam k w = said fam least greatest (omega arith) (omega arith) refl k w

-- what holds of the leaves of the sort
pub carried : (P : (g : Family) → (List ℕ → Head (LeafOf g)) → Type 0) (fam : Family) (lo hi : ℤ) (k : Sort) → Sorted fam lo hi k → P (family_of k) (leaves_for k) → P fam (leaves_in fam lo hi)
carried P fam lo hi k (of_integers f e l h) p =
    let at : P Family.Integers (leaves_in Family.Integers (lower_of k) (upper_of k)) = subst (λ (g : Family). P g (leaves_in g (lower_of k) (upper_of k))) e p in
    let mine : P Family.Integers (leaves_in Family.Integers lo hi) = subst₂ (λ (a b : ℤ). P Family.Integers (leaves_in Family.Integers a b)) l h at in
    subst (λ (g : Family). P g (leaves_in g lo hi)) (sym f) mine
carried P fam lo hi k (of_floats f e) p =
    let at : P Family.Floats (leaves_in Family.Floats lo hi) = subst (λ (g : Family). P g (leaves_in g (lower_of k) (upper_of k))) e p in
    subst (λ (g : Family). P g (leaves_in g lo hi)) (sym f) at
