-- The asked elements gone through one by one. Assumes nothing.
use mathlib.Core.Path.{◌≡◌, refl, sym, ap, ◌∙◌}
use mathlib.Core.Bool.{Bool, true, false, not, ◌&&◌}
use mathlib.Core.Logic.{⊎_elim}
use Prim.Native.Nat.{ℕ}
use Rattle.facts.proofs.Cases.{same?, clash, by-test}
use Rattle.masks.specs.Masks.{bit, Flipped}
use Rattle.masks.proofs.Masks.{bit_none, odd}
use Rattle.masks.proofs.OneByOne.{flipped_down, flipped_out}
use Rattle.element_match.specs.Contract.{Tells}

-- the elements of `left` are still to be tested; `rest` has them and those of which the test said no
pub record Sifting (Test : ℕ → Bool → Type 0) (asked left rest : ℕ) : Type 0 where
  pub from : (j : ℕ) → bit left j ≡ true → bit asked j ≡ true
  pub waiting : (j : ℕ) → bit left j ≡ true → bit rest j ≡ true
  pub tested : (j : ℕ) → bit asked j ≡ true → bit left j ≡ false → Test j (not (bit rest j))
  pub others : (j : ℕ) → bit asked j ≡ false → bit rest j ≡ false

module _ (Test : ℕ → Bool → Type 0) (asked left rest : ℕ) (g : Sifting Test asked left rest) (e next : ℕ) (here : bit left e ≡ true) (f : Flipped (bit left) e (bit next)) where
  -- the test said no of e: it stays
  pub sifting_kept : Test e false → Sifting Test asked next rest
  sifting_kept out = record {
    from = λ j q. g.from j (flipped_down f here j q);
    waiting = λ j q. g.waiting j (flipped_down f here j q);
    tested = λ j q n. ⊎_elim
        (λ (z : j ≡ e). rw (z, g.waiting e here) out)
        (λ (z : j ≡ e → ⊥). g.tested j q (sym (f.other j z) ∙ n))
        (same? j e);
    others = g.others;
  }

  -- it said yes: e goes
  pub sifting_gone : (after : ℕ) → Test e true → Flipped (bit rest) e (bit after) → Sifting Test asked next after
  sifting_gone after in' h = record {
    from = λ j q. g.from j (flipped_down f here j q);
    waiting = λ j q. ⊎_elim
        (λ (z : j ≡ e). absurd (clash (rw z at q) (flipped_out f here)))
        (λ (z : j ≡ e → ⊥). h.other j z ∙ g.waiting j (flipped_down f here j q))
        (same? j e);
    tested = λ j q n. ⊎_elim
        (λ (z : j ≡ e). rw (z, h.self, g.waiting e here) in')
        (λ (z : j ≡ e → ⊥). rw (h.other j z) (g.tested j q (sym (f.other j z) ∙ n)))
        (same? j e);
    others = λ j q. ⊎_elim
        (λ (z : j ≡ e). absurd (clash (g.from e here) (rw z at q)))
        (λ (z : j ≡ e → ⊥). h.other j z ∙ g.others j q)
        (same? j e);
  }

pub none_left : (left : ℕ) → left ≡ 0 → (j : ℕ) → bit left j ≡ false
none_left left z j = ap (λ (n : ℕ). bit n j) z ∙ bit_none j

-- the mask of what failed, by the answer of each test
pub told_by : (asked mask : ℕ) (test : ℕ → Bool) → ((j : ℕ) → bit asked j ≡ true → not (bit mask j) ≡ test j) → ((j : ℕ) → bit asked j ≡ false → bit mask j ≡ false) → Tells asked (λ j. not (test j)) mask
told_by asked mask test tested others = record {
  told = λ j. by-test (bit asked j)
      (λ q. rw q (sym (not_not (bit mask j)) ∙ ap not (tested j q)))
      (λ q. rw q (others j q));
}
  where
    not_not : (b : Bool) → not (not b) ≡ b
    not_not true = refl
    not_not false = refl

-- the others of the asked ones
pub other_bits : (a t : Bool) → odd (a && not t) a ≡ (a && t)
other_bits true true = refl
other_bits true false = refl
other_bits false t = refl
