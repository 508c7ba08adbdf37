-- Blocks as they are read of a lent list of numbers. Nothing says how long the list is: past its end 0 is read, the number of a block that takes no element. Assumes nothing.
-- lent n vs == the first n blocks that are read of vs. lent_none, lent_at: the blocks from a place on. lent_more: one block more.
-- lent_inside: the members of each are below 32. cuts_lent, lent_cuts: they cut as the blocks of vs do.
use mathlib.Core.Path.{◌≡◌, refl, sym, ap, ◌∙◌, subst}
use mathlib.Core.Bool.{Bool}
use mathlib.Core.List.{List, [], ◌∷◌, ◌++◌}
use Prim.Native.Nat.{ℕ, zero, suc, ◌+◌, ◌≤◌, ◌<◌}
use native.Mathlib.Omega.{arith}
use lib.ListN.{get_or, take, drop}
use Rattle.facts.proofs.Slices.{nil_of_length}
use Rattle.blocks.specs.declared.Block.{Block}
use Rattle.blocks.specs.Numbers.{block_in, blocks_in}
use Rattle.blocks.specs.Pieces.{Cuts, Inside}
use Rattle.blocks.proofs.Cutting.{cuts_order}

unfoldable pub lent : ℕ → List ℕ → List Block
lent zero vs = []
lent (suc n) [] = block_in 0 ∷ lent n []
lent (suc n) (v ∷ vs) = block_in v ∷ lent n vs

pub lent_none : (n : ℕ) (vs : List ℕ) → drop n (lent n vs) ≡ []
unfolding lent
lent_none zero vs = refl
lent_none (suc n) [] = lent_none n []
lent_none (suc n) (v ∷ vs) = lent_none n vs

pub lent_at : (n : ℕ) (vs : List ℕ) (i : ℕ) → i < n → drop i (lent n vs) ≡ block_in (get_or vs i 0) ∷ drop (suc i) (lent n vs)
unfolding lent
lent_at zero vs i l = absurd (omega arith)
lent_at (suc n) [] zero l = refl
lent_at (suc n) [] (suc i) l = lent_at n [] i (omega arith)
lent_at (suc n) (v ∷ vs) zero l = refl
lent_at (suc n) (v ∷ vs) (suc i) l = lent_at n vs i (omega arith)

pub lent_more : (n : ℕ) (vs : List ℕ) → lent (suc n) vs ≡ lent n vs ++ (block_in (get_or vs n 0) ∷ [])
unfolding lent
lent_more zero [] = refl
lent_more zero (v ∷ vs) = refl
lent_more (suc n) [] = ap (λ (bs : List Block). block_in 0 ∷ bs) (lent_more n [])
lent_more (suc n) (v ∷ vs) = ap (λ (bs : List Block). block_in v ∷ bs) (lent_more n vs)

inside_here : (n : ℕ) (vs : List ℕ) (i : ℕ) → i < n → Inside (blocks_in (take n vs)) → (block_in (get_or vs i 0)).first + (block_in (get_or vs i 0)).k ≤ 32
unfolding blocks_in block_in Inside
inside_here zero vs i l h = absurd (omega arith)
inside_here (suc n) [] i l h = omega arith
inside_here (suc n) (v ∷ vs) zero l h = h.0
inside_here (suc n) (v ∷ vs) (suc i) l h = inside_here n vs i (omega arith) h.1

pub lent_inside : (n : ℕ) (vs : List ℕ) (i : ℕ) {b : Block} → b ≡ block_in (get_or vs i 0) → i < n → Inside (blocks_in (take n vs)) → b.first + b.k ≤ 32
lent_inside n vs i is l h = subst (λ (b : Block). b.first + b.k ≤ 32) (sym is) (inside_here n vs i l h)

-- ---- the block of 0 takes no element
cuts_none : (may : ℕ → ℕ → Bool) (bs : List Block) (from to : ℕ) (w : List ℕ) → from ≤ to → Cuts may bs from to w → Cuts may (block_in 0 ∷ bs) from to w
unfolding Cuts block_in
cuts_none may bs from to w l c = record {
  mid = from;
  after = omega arith;
  inside = l;
  parts = record {
    left = [];
    right = w;
    whole = refl;
    on_left = record {
      assigned = record { size = omega arith; right = λ i k. absurd (omega arith); once = λ m k h. absurd (omega arith) };
      enough = omega arith;
      few = omega arith;
    };
    on_right = c;
  };
}

none_cuts : (may : ℕ → ℕ → Bool) (bs : List Block) (from to : ℕ) (w : List ℕ) → Cuts may (block_in 0 ∷ bs) from to w → Cuts may bs from to w
unfolding Cuts block_in
none_cuts may bs from to w c =
    let j = c.parts in
    let after = c.after in
    let few = j.on_left.few in
    let size = j.on_left.assigned.size in
    let q : c.mid ≡ from = omega arith in
    let whole : j.right ≡ w = sym (j.whole ∙ ap (λ (x : List ℕ). x ++ j.right) (nil_of_length j.left (omega arith))) in
    subst (λ (x : List ℕ). Cuts may bs from to x) whole (subst (λ (x : ℕ). Cuts may bs x to j.right) q j.on_right)

-- ---- so what is read past the end cuts nothing off
past_end : (may : ℕ → ℕ → Bool) (n from to : ℕ) (w : List ℕ) → Cuts may [] from to w → Cuts may (lent n []) from to w
unfolding lent
past_end may zero from to w c = c
past_end may (suc n) from to w c = cuts_none may (lent n []) from to w (cuts_order may [] from to w c) (past_end may n from to w c)

end_past : (may : ℕ → ℕ → Bool) (n from to : ℕ) (w : List ℕ) → Cuts may (lent n []) from to w → Cuts may [] from to w
unfolding lent
end_past may zero from to w c = c
end_past may (suc n) from to w c = end_past may n from to w (none_cuts may (lent n []) from to w c)

-- where all that the blocks bs cut is cut by bs', a block before both changes nothing
cuts_tail : (may : ℕ → ℕ → Bool) (b : Block) (bs bs' : List Block) (from to : ℕ) (w : List ℕ) → ((mid : ℕ) (v : List ℕ) → Cuts may bs mid to v → Cuts may bs' mid to v) → Cuts may (b ∷ bs) from to w → Cuts may (b ∷ bs') from to w
unfolding Cuts
cuts_tail may b bs bs' from to w f c =
    let j = c.parts in
    record {
      mid = c.mid;
      after = c.after;
      inside = c.inside;
      parts = record { left = j.left; right = j.right; whole = j.whole; on_left = j.on_left; on_right = f c.mid j.right j.on_right };
    }

pub cuts_lent : (may : ℕ → ℕ → Bool) (n : ℕ) (vs : List ℕ) (from to : ℕ) (w : List ℕ) → Cuts may (blocks_in (take n vs)) from to w → Cuts may (lent n vs) from to w
unfolding lent blocks_in
cuts_lent may zero vs from to w c = c
cuts_lent may (suc n) [] from to w c = past_end may (suc n) from to w c
cuts_lent may (suc n) (v ∷ vs) from to w c = cuts_tail may (block_in v) (blocks_in (take n vs)) (lent n vs) from to w (λ mid u. cuts_lent may n vs mid to u) c

pub lent_cuts : (may : ℕ → ℕ → Bool) (n : ℕ) (vs : List ℕ) (from to : ℕ) (w : List ℕ) → Cuts may (lent n vs) from to w → Cuts may (blocks_in (take n vs)) from to w
unfolding lent blocks_in
lent_cuts may zero vs from to w c = c
lent_cuts may (suc n) [] from to w c = end_past may (suc n) from to w c
lent_cuts may (suc n) (v ∷ vs) from to w c = cuts_tail may (block_in v) (lent n vs) (blocks_in (take n vs)) from to w (λ mid u. lent_cuts may n vs mid to u) c
