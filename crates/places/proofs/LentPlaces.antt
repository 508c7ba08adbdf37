-- Blocks that are read of lent numbers, from the last to the first. Assumes nothing.
-- lent_end, lent_back: the places of no blocks, and of one block more in front. lent_never: no cut where the first place is not among them.
use mathlib.Core.Path.{◌≡◌, sym, ◌∙◌, subst}
use mathlib.Core.Bool.{Bool, false}
use mathlib.Core.List.{List, ◌∷◌}
use Prim.Native.Nat.{ℕ, suc, ◌≤◌}
use native.Mathlib.Omega.{arith}
use lib.ListN.{get_or, take, drop}
use Rattle.masks.specs.Masks.{bit, Plus}
use Rattle.blocks.specs.declared.Block.{Block}
use Rattle.blocks.specs.Numbers.{block_in, blocks_in}
use Rattle.blocks.specs.Pieces.{Cuts}
use Rattle.blocks.proofs.LentBlocks.{lent, lent_none, lent_at, cuts_lent}
use Rattle.places.specs.Ways.{Ways, Back}
use Rattle.places.proofs.Backward.{ways_end, ways_back, ways_never}

pub lent_end : (may : ℕ → ℕ → Bool) (count : ℕ) (vs : List ℕ) (n : ℕ) {good : ℕ} → Plus (bit 0) n (bit good) → Ways may (drop count (lent count vs)) n good
lent_end may count vs n {good} one = subst (λ (bs : List Block). Ways may bs n good) (sym (lent_none count vs)) (ways_end may n one)

pub lent_back : {may : ℕ → ℕ → Bool} (count : ℕ) (vs : List ℕ) (j i : ℕ) {n good r : ℕ} {b : Block} → b ≡ block_in (get_or vs i 0) → j ≡ suc i → j ≤ count
    → Back may b good r → Ways may (drop j (lent count vs)) n good → Ways may (drop i (lent count vs)) n r
lent_back {may} count vs j i {n} {good} {r} {b} is q l f g =
    let e : drop i (lent count vs) ≡ b ∷ drop j (lent count vs) = lent_at count vs i (omega arith) ∙ rw (is, q) in
    subst (λ (bs : List Block). Ways may bs n r) (sym e) (ways_back f g)

-- ---- no cut
pub lent_never : {may : ℕ → ℕ → Bool} (count : ℕ) (vs : List ℕ) {n good : ℕ} → Ways may (lent count vs) n good → bit good 0 ≡ false → (w : List ℕ) → Cuts may (blocks_in (take count vs)) 0 n w → ⊥
lent_never {may} count vs {n} g f w c = ways_never g 0 f w (cuts_lent may count vs 0 n w c)
