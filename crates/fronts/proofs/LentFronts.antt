-- The blocks that are read of lent numbers, from the first to the last. Assumes nothing.
use mathlib.Core.Path.{◌≡◌, sym, ap, ◌∙◌, subst}
use mathlib.Core.Logic.{⊎_elim}
use mathlib.Core.Bool.{Bool, true, false, not}
use mathlib.Core.List.{List, [], ◌∷◌}
use Prim.Native.Nat.{ℕ, suc, ◌+◌, ◌≤◌, ◌<◌}
use native.Mathlib.Numerals.{add-one}
use native.Mathlib.Omega.{arith}
use lib.Dec.{eqb}
use lib.ListN.{length, get_or, take, drop, replicate}
use borrow.Author.Tests.{eqb-false, not-true}
use Rattle.facts.proofs.Cases.{below, and_left, and_right}
use Rattle.masks.specs.Masks.{bit, Plus}
use Rattle.rows.specs.Rows.{may as may_rows}
use Rattle.blocks.specs.declared.Block.{Block}
use Rattle.blocks.specs.Numbers.{block_in, blocks_in}
use Rattle.blocks.specs.Pieces.{Cutting, is_one}
use Rattle.blocks.proofs.FirstLists.{best_same, none_best}
use Rattle.blocks.proofs.LentBlocks.{lent, lent_none, lent_at, cuts_lent, lent_cuts}
use Rattle.places.specs.Ways.{Way, Low, Leads, Agrees}
use Rattle.places.proofs.Backward.{ways_low, leads_way, way_leads, agrees_turn, leads_agree}
use Rattle.fronts.specs.Fronts.{Moved, Underway}
use Rattle.fronts.specs.Given.{Ready, Known, Prepares, Halfway, is_group}
use Rattle.fronts.proofs.Moves.{moved_agree}
use Rattle.fronts.proofs.Steps.{underway_start, underway_leading, underway_step, underway_end}

module _ {may : ℕ → ℕ → Bool} {rows : List ℕ} {count : ℕ} {vs ends : List ℕ} {n : ℕ} (p : Known may rows count vs ends n) where
  -- the rows tell of a group
  told_at : (j : ℕ) → j < count → {b : Block} → b ≡ block_in (get_or vs j 0) → is_one b ≡ false → Agrees (may_rows rows) may b n
  told_at j l is f = subst (λ (x : Block). Agrees (may_rows rows) may x n) (sym is) (p.told.at j l (ap (λ (x : Block). is_one x) (sym is) ∙ f))

  module _ (j : ℕ) (l : j < count) {b : Block} (is : b ≡ block_in (get_or vs j 0)) {Q from : ℕ} {w : List ℕ} (u : Underway may (lent count vs) (drop j (lent count vs)) n Q from w) where
    -- the next block stands in front
    here : Underway may (lent count vs) (b ∷ drop (suc j) (lent count vs)) n Q from w
    here =
        let e : drop j (lent count vs) ≡ b ∷ drop (suc j) (lent count vs) = lent_at count vs j l ∙ ap (λ (x : Block). x ∷ drop (suc j) (lent count vs)) (sym is) in
        subst (λ (bs : List Block). Underway may (lent count vs) bs n Q from w) e u

    pub ready_at : Ready may rows b (get_or ends j 0) Q n
    ready_at = record {
      leading = underway_leading (p.ways j l) here;
      told = told_at j l is;
      low = ways_low (p.ways j l);
    }

    pub step_at : {next from' : ℕ} {w' : List ℕ} → Moved may b (get_or ends j 0) Q from w next from' w' → Underway may (lent count vs) (drop (j + 1) (lent count vs)) n next from' w'
    step_at {next} {from'} {w'} m = subst (λ (i : ℕ). Underway may (lent count vs) (drop i (lent count vs)) n next from' w') (sym (add-one j)) (underway_step (p.ways j l) here m)

  pub end_at : {Q from : ℕ} {w : List ℕ} (j : ℕ) → j ≡ count → n ≤ 32 → Underway may (lent count vs) (drop j (lent count vs)) n Q from w → Cutting may (blocks_in (take count vs)) n true w
  end_at {Q} {from} {w} j q h u =
      let e : drop j (lent count vs) ≡ [] = ap (λ (i : ℕ). drop i (lent count vs)) q ∙ lent_none count vs in
      best_same (lent_cuts may count vs 0 n) (cuts_lent may count vs 0 n) (underway_end h (subst (λ (bs : List Block). Underway may (lent count vs) bs n Q from w) e u))

-- ---- all blocks are to come
pub start_halfway : {may : ℕ → ℕ → Bool} {rows : List ℕ} {count : ℕ} {vs ends : List ℕ} {n Q from : ℕ} (w : List ℕ) → Prepares may rows count vs ends n → length w ≡ 32 → ((i : ℕ) → i < 32 → get_or w i 0 ≡ 255)
    → Plus (bit 0) 0 (bit Q) → from ≡ 0 → Halfway may rows count vs ends n 0 Q from w
start_halfway {may} {rows} {count} {vs} {ends} {n} {Q} {from} w p size blank one zero =
    record { known = p.known; underway = subst (λ (z : ℕ). Underway may (lent count vs) (lent count vs) n Q z w) (sym zero) (underway_start w size blank one p.start) }

-- ---- the first block is a group, searched for by the rows
pub group_parts : (b : Block) → is_group b ≡ true → (0 < b.k) × (is_one b ≡ false)
unfolding is_group
group_parts b h =
    let some = eqb-false b.k 0 (not-true (eqb b.k 0) (and_left (not (eqb b.k 0)) (not (is_one b)) h)) in
    (⊎_elim (λ (z : 0 < b.k). z) (λ (z : b.k ≤ 0). absurd (some (omega arith))) (below 0 b.k), not-true (is_one b) (and_right (not (eqb b.k 0)) (not (is_one b)) h))

module _ {may : ℕ → ℕ → Bool} {rows : List ℕ} {count : ℕ} {vs ends : List ℕ} {n : ℕ} (p : Known may rows count vs ends n) (l : 0 < count) {b : Block} (is : b ≡ block_in (get_or vs 0 0)) (group : is_one b ≡ false) where
  agrees : Agrees (may_rows rows) may b n
  agrees = told_at p 0 l is group

  low : Low (get_or ends 0 0) n
  low = ways_low (p.ways 0 l)

  front : lent count vs ≡ b ∷ drop 1 (lent count vs)
  front = lent_at count vs 0 l ∙ ap (λ (x : Block). x ∷ drop 1 (lent count vs)) (sym is)

  pub group_never : (Leads (may_rows rows) b (get_or ends 0 0) 0 → ⊥) → {w : List ℕ} → w ≡ replicate 32 255 → Cutting may (blocks_in (take count vs)) n false w
  group_never never blank = none_best blank (λ v c.
      never (leads_agree (agrees_turn agrees) low (way_leads (p.ways 0 l) (subst (λ (bs : List Block). Way may bs 0 n) front (record { list = v; cut = cuts_lent may count vs 0 n v c })))))

  pub group_halfway : {Q from next from' : ℕ} (w : List ℕ) {w' : List ℕ} → length w ≡ 32 → ((i : ℕ) → i < 32 → get_or w i 0 ≡ 255) → Plus (bit 0) 0 (bit Q) → from ≡ 0 → Leads (may_rows rows) b (get_or ends 0 0) 0
      → Moved (may_rows rows) b (get_or ends 0 0) Q from w next from' w' → Halfway may rows count vs ends n 1 next from' w'
  group_halfway {Q} {from} {next} {from'} w {w'} size blank one zero lead m =
      let way : Way may (lent count vs) 0 n = subst (λ (bs : List Block). Way may bs 0 n) (sym front) (leads_way (p.ways 0 l) (leads_agree agrees low lead)) in
      record { known = p; underway = step_at p 0 l is (subst (λ (z : ℕ). Underway may (lent count vs) (lent count vs) n Q z w) (sym zero) (underway_start w size blank one way)) (moved_agree agrees low m) }
