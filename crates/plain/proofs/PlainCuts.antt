-- Cuts by plain blocks: the numbers of the members one after the other, where each may take its element, and nothing else. Assumes nothing.
-- plain_cuts, cuts_plain: from any block on. plain_passing: a list that is those numbers is a cut, and no other is.
use mathlib.Core.Path.{◌≡◌, refl, sym, ap, ap₂, ◌∙◌, subst}
use mathlib.Core.Bool.{Bool, true}
use mathlib.Core.Logic.{⊎_elim}
use mathlib.Core.List.{List, [], ◌∷◌, ◌++◌}
use Prim.Native.Nat.{ℕ, zero, suc, ◌+◌, ◌≤◌, ◌<◌}
use native.Mathlib.Omega.{arith}
use lib.ListN.{length, get_or, take, drop}
use Rattle.facts.proofs.Cases.{same?}
use Rattle.blocks.specs.declared.Block.{Block}
use Rattle.blocks.specs.Numbers.{block_in, blocks_in}
use Rattle.blocks.specs.Pieces.{Takes, Cuts, Passing, is_one}
use Rattle.blocks.proofs.OneMember.{one_taken, taken_one}
use Rattle.blocks.proofs.LentBlocks.{lent, lent_none, lent_at, cuts_lent, lent_cuts}
use Rattle.plain.specs.Plain.{Plain, up_from}
use Rattle.plain.proofs.UpFrom.{up_length}

module _ (may : ℕ → ℕ → Bool) (count : ℕ) (vs : List ℕ) (plain : Plain count vs) (few : count ≤ 32) where
  one_here : (j : ℕ) → j < count → is_one (block_in (get_or vs j 0)) ≡ true
  unfolding is_one
  one_here j l = rw (plain.at j l) refl

  first_here : (j : ℕ) → j < count → (block_in (get_or vs j 0)).first ≡ j
  first_here j l = ap (λ (b : Block). b.first) (plain.at j l)

  -- what the blocks from j on take, from the same place on
  pub plain_cuts : (d j n : ℕ) (v : List ℕ) → j + d ≡ count → Cuts may (drop j (lent count vs)) j n v → (n ≡ count) × (v ≡ up_from j d) × ((i : ℕ) → j ≤ i → i < count → may i i ≡ true)
  unfolding Cuts up_from
  plain_cuts zero j n v q c =
      let e : drop j (lent count vs) ≡ [] = ap (λ (x : ℕ). drop x (lent count vs)) (let z : j ≡ count = omega arith in z) ∙ lent_none count vs in
      let d : Cuts may [] j n v = subst (λ (bs : List Block). Cuts may bs j n v) e c in
      (omega (arith, d.0), d.1, λ i l u. absurd (omega arith))
  plain_cuts (suc d) j n v q c =
      let here : j < count = omega arith in
      let b = block_in (get_or vs j 0) in
      let f = first_here j here in
      let a : Cuts may (b ∷ drop (suc j) (lent count vs)) j n v = subst (λ (bs : List Block). Cuts may bs j n v) (lent_at count vs j here) c in
      let t = taken_one a.parts.left (one_here j here) (omega arith) a.after a.parts.on_left in
      let z : a.mid ≡ suc j = omega (arith, t.0) in
      let r = plain_cuts d (suc j) n a.parts.right (omega arith) (subst (λ (x : ℕ). Cuts may (drop (suc j) (lent count vs)) x n a.parts.right) z a.parts.on_right) in (
        r.0,
        a.parts.whole ∙ ap₂ (λ (x y : List ℕ). x ++ y) (t.1 ∙ ap (λ (x : ℕ). x ∷ []) f) r.1,
        λ i l u. ⊎_elim (λ (y : i ≡ j). rw y (subst (λ (x : ℕ). may x j ≡ true) f t.2)) (λ (y : i ≡ j → ⊥). r.2 i (omega arith) u) (same? i j),
      )

  pub cuts_plain : (d j : ℕ) → j + d ≡ count → ((i : ℕ) → j ≤ i → i < count → may i i ≡ true) → Cuts may (drop j (lent count vs)) j count (up_from j d)
  unfolding Cuts up_from
  cuts_plain zero j q h =
      let z : j ≡ count = omega arith in
      let e : drop j (lent count vs) ≡ [] = ap (λ (x : ℕ). drop x (lent count vs)) z ∙ lent_none count vs in
      subst (λ (bs : List Block). Cuts may bs j count []) (sym e) (z, refl)
  cuts_plain (suc d) j q h =
      let here : j < count = omega arith in
      let b = block_in (get_or vs j 0) in
      let f = first_here j here in
      let z : j + 1 ≡ suc j = omega arith in
      subst (λ (bs : List Block). Cuts may bs j count (j ∷ up_from (suc j) d)) (sym (lent_at count vs j here))
      (record {
        mid = suc j;
        after = omega arith;
        inside = omega arith;
        parts = record {
          left = j ∷ [];
          right = up_from (suc j) d;
          whole = refl;
          on_left = rw z at (subst (λ (x : ℕ). Takes may b j (j + 1) (x ∷ [])) f (one_taken may b j (one_here j here) (subst (λ (x : ℕ). may x j ≡ true) (sym f) (h j (omega arith) here))));
          on_right = cuts_plain d (suc j) (omega arith) (λ i l u. h i (omega arith) u);
        };
      })

  -- whether a list is those numbers says whether it is a cut, where each member may take its element
  pub plain_passing : (w : List ℕ) (r : Bool) → ((i : ℕ) → may i i ≡ true) → Passing (w ≡ up_from 0 count) r → Passing (Cuts may (blocks_in (take count vs)) 0 (length w) w) r
  plain_passing w r all p = record {
    passed = λ h.
        let up = p.passed h in
        let size : length w ≡ count = ap length up ∙ up_length 0 count in
        rw (size, up) (lent_cuts may count vs 0 count (up_from 0 count) (cuts_plain count 0 (omega arith) (λ i l u. all i)));
    failed = λ h c. p.failed h (plain_cuts count 0 (length w) w (omega arith) (cuts_lent may count vs 0 (length w) w c)).1;
  }
