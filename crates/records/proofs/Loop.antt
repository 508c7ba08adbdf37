-- All blocks, from the last to the first: the places from which those from j on go on to the end, and the rows of the groups among them. Assumes nothing.
use mathlib.Core.Path.{◌≡◌, refl, sym, ap, ◌∙◌, subst}
use mathlib.Core.Bool.{Bool, true, false}
use mathlib.Core.Logic.{⊎_elim}
use mathlib.Core.List.{List, [], ◌∷◌}
use Prim.Native.Nat.{ℕ, zero, suc, ◌+◌, ◌≤◌, ◌<◌}
use native.Mathlib.Omega.{arith}
use lib.ListN.{length, get_or, take, drop, set, replicate}
use lib.Seq.{get_or-set_same, get_or-set_other}
use Rattle.facts.specs.Counting.{between}
use Rattle.facts.proofs.Cases.{same?, clash}
use Rattle.masks.specs.Masks.{bit, Plus}
use Rattle.rows.specs.Rows.{may}
use Rattle.rows.proofs.Rows.{zeros_may}
use Rattle.blocks.specs.declared.Block.{Block}
use Rattle.blocks.specs.Numbers.{block_in, blocks_in}
use Rattle.blocks.specs.Pieces.{Cutting, Inside, is_one}
use Rattle.blocks.proofs.LentBlocks.{lent}
use Rattle.places.specs.Ways.{Ways}
use Rattle.places.proofs.LentPlaces.{lent_end, lent_back, lent_never}
use Rattle.blocks.proofs.FirstLists.{none_best}
use Rattle.plain.specs.Plain.{Plain}
use Rattle.fronts.specs.Given.{Known, Prepares}
use Rattle.records.specs.Records.{Below, Sound, Joined, Before}
use Rattle.records.proofs.Blocks.{joined_agree}

-- ---- the members of each block

pub below_inside : (k : ℕ) (bs : List Block) → k ≤ 32 → Below k bs → Inside bs
unfolding Below Inside
below_inside k [] l h = tt
below_inside k (b ∷ bs) l h = (omega (arith, h.0), below_inside k bs l h.1)

-- the block that is read of lent numbers
pub below_at : (k count : ℕ) (vs : List ℕ) (j : ℕ) → j < count → Below k (blocks_in (take count vs)) → (block_in (get_or vs j 0)).first + (block_in (get_or vs j 0)).k ≤ k
unfolding Below blocks_in block_in
below_at k zero vs j l h = absurd (omega arith)
below_at k (suc count) [] j l h = omega arith
below_at k (suc count) (v ∷ vs) zero l h = h.0
below_at k (suc count) (v ∷ vs) (suc j) l h = below_at k count vs j (omega arith) h.1

-- plain blocks are no more than the members
pub plain_few : (k count : ℕ) (vs : List ℕ) → Plain count vs → Below k (blocks_in (take count vs)) → count ≤ k
plain_few k zero vs plain h = omega arith
plain_few k (suc c) vs plain h =
    let b = below_at k (suc c) vs c (omega arith) h in
    let q = plain.at c (omega arith) in
    let f : (block_in (get_or vs c 0)).first ≡ c = ap (λ (x : Block). x.first) q in
    let o : (block_in (get_or vs c 0)).k ≡ 1 = ap (λ (x : Block). x.k) q in
    omega arith

-- ---- from block to block

module _ (ok : ℕ → ℕ → Bool) (n count : ℕ) (vs : List ℕ) where
  -- the rows of the groups from j on, and the places from which the blocks after each go on
  pub record Gone (j : ℕ) (ends rows : List ℕ) : Type 0 where
    pub after : (i : ℕ) → j ≤ i → i < count → Ways ok (drop (suc i) (lent count vs)) n (get_or ends i 0)
    pub sound : Sound ok n rows
    pub done : (i : ℕ) → j ≤ i → i < count → is_one (block_in (get_or vs i 0)) ≡ false
        → (m e : ℕ) → between (block_in (get_or vs i 0)).first ((block_in (get_or vs i 0)).first + (block_in (get_or vs i 0)).k) m ≡ true → e < n → ok m e ≡ true → may rows m e ≡ true
    pub size : length rows ≡ 32

  pub record Going (j good : ℕ) (ends rows : List ℕ) : Type 0 where
    pub ways : Ways ok (drop j (lent count vs)) n good
    pub gone : Gone j ends rows

  pub going_start : {good : ℕ} (ends : List ℕ) → Plus (bit 0) n (bit good) → Going count good ends (replicate 32 0)
  going_start ends p = record {
    ways = lent_end ok count vs n p;
    gone = record { after = λ i l u. absurd (omega arith); sound = record { right = λ m e l h. absurd (clash h (zeros_may m e)) }; done = λ i l u. absurd (omega arith); size = refl };
  }

  module _ (j i good : ℕ) (ends rows : List ℕ) (g : Going j good ends rows) (b : Block) (is : b ≡ block_in (get_or vs i 0)) (q : j ≡ suc i) (l : j ≤ count) (wide : length ends ≡ 32) (few : count ≤ 32) where
    pub gone_step : (rows' : List ℕ) → Joined ok n b rows rows' → Gone i (set ends i good) rows'
    gone_step rows' h = record {
      after = λ k a u. ⊎_elim
          (λ (z : k ≡ i). rw (z, get_or-set_same ends i good 0 (omega arith), sym q) g.ways)
          (λ (z : k ≡ i → ⊥). rw (get_or-set_other ends i k good 0 z) (g.gone.after k (omega arith) u))
          (same? k i);
      sound = h.sound g.gone.sound;
      done = λ k a u o m e c e' p. ⊎_elim
          (λ (z : k ≡ i).
          let z' : block_in (get_or vs k 0) ≡ b = ap (λ (x : ℕ). block_in (get_or vs x 0)) z ∙ sym is in
          h.group (ap is_one (sym z') ∙ o) m e (subst (λ (d : Block). between d.first (d.first + d.k) m ≡ true) z' c) e' p)
          (λ (z : k ≡ i → ⊥). h.kept m e e' (g.gone.done k (omega arith) u o m e c e' p))
          (same? k i);
      size = h.size;
    }

    pub going_step : (r : ℕ) (rows' : List ℕ) → Before ok n b good rows rows' r → Going i r (set ends i good) rows'
    going_step r rows' h = record { ways = lent_back count vs j i is q l (h.back g.gone.sound) g.ways; gone = gone_step rows' h.rows }

  pub gone_known : (ends rows : List ℕ) → Gone 0 ends rows → Known ok rows count vs ends n
  gone_known ends rows g = record { told = record { at = λ j l o. joined_agree ok n (block_in (get_or vs j 0)) g.sound (g.done j (omega arith) l o) }; ways = λ j l. g.after j (omega arith) l }

  module _ (good : ℕ) (ends rows : List ℕ) (g : Going 0 good ends rows) where
    pub prepares : bit good 0 ≡ true → Prepares ok rows count vs ends n
    prepares h = record { known = gone_known ends rows g.gone; start = g.ways.some 0 h }

    pub no_cut : bit good 0 ≡ false → (w : List ℕ) → w ≡ replicate 32 255 → Cutting ok (blocks_in (take count vs)) n false w
    no_cut h w blank = none_best blank (lent_never count vs g.ways h)
