-- Cuts by plain blocks: the numbers of the members one after the other, where each matches its element, and nothing else. Assumes nothing.
use mathlib.Core.Path.{◌≡◌, refl, ap, ◌∙◌}
use mathlib.Core.Bool.{Bool, true, false}
use mathlib.Core.Logic.{⊎_elim}
use mathlib.Core.List.{List}
use Prim.Native.Nat.{ℕ, ◌+◌, ◌-◌, ◌≤◌, ◌<◌}
use native.Mathlib.Omega.{arith}
use lib.ListN.{length, get_or, take, set, replicate, length-set, get_or-replicate}
use lib.Seq.{get_or-set_same, get_or-set_other}
use Rattle.byte_order.proofs.ByteOrder.{earlier_irreflexive}
use Rattle.facts.proofs.Cases.{same?, clash}
use Rattle.blocks.specs.Numbers.{blocks_in}
use Rattle.blocks.specs.Pieces.{Cuts, Cutting}
use Rattle.blocks.proofs.LentBlocks.{cuts_lent, lent_cuts}
use Rattle.plain.specs.Plain.{Plain, up_from}
use Rattle.plain.proofs.UpFrom.{up_take}
use Rattle.plain.proofs.PlainCuts.{plain_cuts, cuts_plain}
use Rattle.blocks.proofs.FirstLists.{none_best}

-- ---- the loop over the elements

pub record Tested (ok : ℕ → ℕ → Bool) (e : ℕ) (w : List ℕ) : Type 0 where
  pub pairs : (i : ℕ) → i < e → ok i i ≡ true
  pub bytes : (i : ℕ) → i < e → get_or w i 0 ≡ i
  pub blank : (i : ℕ) → e ≤ i → i < 32 → get_or w i 0 ≡ 255
  pub size : length w ≡ 32

pub tested_start : (ok : ℕ → ℕ → Bool) → Tested ok 0 (replicate 32 255)
tested_start ok = record { pairs = λ i l. absurd (omega arith); bytes = λ i l. absurd (omega arith); blank = λ i l u. get_or-replicate 32 i 255 0 u; size = refl }

pub tested_step : (ok : ℕ → ℕ → Bool) (e : ℕ) (w : List ℕ) → e < 32 → ok e e ≡ true → Tested ok e w → Tested ok (e + 1) (set w e e)
tested_step ok e w low h g = record {
  pairs = λ i l. ⊎_elim (λ (z : i ≡ e). rw z h) (λ (z : i ≡ e → ⊥). g.pairs i (omega arith)) (same? i e);
  bytes = λ i l. ⊎_elim (λ (z : i ≡ e). rw z (get_or-set_same w e e 0 (omega (arith, g.size)))) (λ (z : i ≡ e → ⊥). get_or-set_other w e i e 0 z ∙ g.bytes i (omega arith)) (same? i e);
  blank = λ i l u. get_or-set_other w e i e 0 (λ z. omega arith) ∙ g.blank i (omega arith) u;
  size = length-set w e e ∙ g.size;
}

module _ (ok : ℕ → ℕ → Bool) (n : ℕ) (count : ℕ) (vs : List ℕ) (plain : Plain count vs) (few : count ≤ 32) where
  -- every cut is the same list
  only : (v : List ℕ) → Cuts ok (blocks_in (take count vs)) 0 n v → (n ≡ count) × (v ≡ up_from 0 count) × ((i : ℕ) → 0 ≤ i → i < count → ok i i ≡ true)
  only v c = plain_cuts ok count vs plain few count 0 n v (omega arith) (cuts_lent ok count vs 0 n v c)

  pub other_length : (w : List ℕ) → w ≡ replicate 32 255 → (n ≡ count → ⊥) → Cutting ok (blocks_in (take count vs)) n false w
  other_length w q n = none_best q (λ v c. n (only v c).0)

  pub one_missed : (w : List ℕ) (e : ℕ) → w ≡ replicate 32 255 → e < count → ok e e ≡ false → Cutting ok (blocks_in (take count vs)) n false w
  one_missed w e q l h = none_best q (λ v c. clash ((only v c).2 e (omega arith) l) h)

  pub all_tested : (w : List ℕ) → n ≡ count → Tested ok count w → Cutting ok (blocks_in (take count vs)) n true w
  all_tested w z g =
      let up : take n w ≡ up_from 0 count = ap (λ (x : ℕ). take x w) z ∙ up_take count w (omega (arith, g.size)) g.bytes in
      let cut : Cuts ok (blocks_in (take count vs)) 0 n (up_from 0 count) =
      rw z (lent_cuts ok count vs 0 count (up_from 0 count) (cuts_plain ok count vs plain few count 0 (omega arith) (λ i l u. g.pairs i u))) in
      record {
        best = λ f. rw up (record { holds = cut; least = λ v c. rw (only v c).1 (earlier_irreflexive (up_from 0 count)) });
        none = λ f. absurd (clash refl f);
        size = g.size;
        outside = λ i l u. g.blank i (omega arith) u;
        blank = λ f. absurd (clash refl f);
      }
