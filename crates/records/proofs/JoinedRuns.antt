-- Runs of 20s as one 20, block by block. Assumes nothing.
-- same_more, same_run: one block more, by itself or in one with the last. Joining: the loop over the blocks.
use mathlib.Core.Path.{◌≡◌, refl, sym, ap, ◌∙◌, subst}
use mathlib.Core.Bool.{Bool, true, false, ◌&&◌}
use mathlib.Core.Logic.{⊎_elim}
use mathlib.Core.List.{List, [], ◌∷◌, ◌++◌, append_assoc}
use Prim.Native.Nat.{ℕ, zero, suc, ◌+◌, ◌-◌, ◌≤◌, ◌<◌, min}
use native.Mathlib.Numerals.{add-one}
use native.Mathlib.Omega.{arith}
use borrow.Author.Tests.{eqb-true, leb-true}
use lib.Dec.{eqb, leb}
use lib.ListN.{length, get_or, take, set, replicate, length-set, replicate-append-replicate}
use lib.Seq.{get_or-set_same, get_or-set_other}
use Rattle.facts.proofs.Cases.{below, same?, clash, and_left, and_right}
use Rattle.blocks.specs.declared.Block.{Block}
use Rattle.blocks.specs.Numbers.{block_in, blocks_in}
use Rattle.blocks.specs.Pieces.{Takes, Cuts}
use Rattle.blocks.proofs.Cutting.{cuts_snoc, cuts_unsnoc}
use Rattle.blocks.proofs.SpareBlocks.{spares_taken, spares_only}
use Rattle.blocks.proofs.LentBlocks.{lent, lent_more, cuts_lent, lent_cuts}
use Rattle.records.specs.Records.{Below}
use Rattle.records.specs.Runs.{joinable, in_one, SameCuts, RunsJoined}
use Rattle.records.proofs.Loop.{below_at}

-- ---- what two 20s take

record Parts (a b : Block) : Type 0 where
  left : a.k ≡ 0
  right : b.k ≡ 0
  first : a.min ≤ a.max
  second : b.min ≤ b.max

parts : (a b : Block) → joinable a b ≡ true → Parts a b
unfolding joinable
parts a b h =
    let k = and_left (eqb a.k 0 && eqb b.k 0) (leb a.min a.max && leb b.min b.max) h in
    let m = and_right (eqb a.k 0 && eqb b.k 0) (leb a.min a.max && leb b.min b.max) h in
    record {
      left = eqb-true a.k 0 (and_left (eqb a.k 0) (eqb b.k 0) k);
      right = eqb-true b.k 0 (and_right (eqb a.k 0) (eqb b.k 0) k);
      first = leb-true a.min a.max (and_left (leb a.min a.max) (leb b.min b.max) m);
      second = leb-true b.min b.max (and_right (leb a.min a.max) (leb b.min b.max) m);
    }

module _ (may : ℕ → ℕ → Bool) (a b : Block) (q : Parts a b) where
  both_taken : (from mid to : ℕ) (u v : List ℕ) → from ≤ mid → mid ≤ to → to ≤ 32 → Takes may a from mid u → Takes may b mid to v → Takes may (in_one a b) from to (u ++ v)
  both_taken from mid to u v x y l s t =
      let e = s.enough in
      let f = s.few in
      let g = t.enough in
      let h = t.few in
      let ka = q.left in
      let kb = q.right in
      let sum : (mid - from) + (to - mid) ≡ to - from = omega arith in
      let gap : u ++ v ≡ replicate (to - from) 255 = rw (spares_only ka s, spares_only kb t) (replicate-append-replicate (mid - from) (to - mid) 255 ∙ ap (λ (n : ℕ). replicate {A = ℕ} n 255) sum) in
      subst (λ (p : List ℕ). Takes may (in_one a b) from to p) (sym gap) (spares_taken may (in_one a b) from to refl (omega arith) (omega arith) (omega arith))

  -- cut at a place where each has as many as it takes
  record Halves (from to : ℕ) (p : List ℕ) : Type 0 where
    mid : ℕ
    low : from ≤ mid
    high : mid ≤ to
    u : List ℕ
    v : List ℕ
    whole : p ≡ u ++ v
    on_left : Takes may a from mid u
    on_right : Takes may b mid to v

  halves_at : (from mid to : ℕ) (p : List ℕ) → from ≤ mid → mid ≤ to → from + a.min ≤ mid → mid ≤ from + a.max → mid + b.min ≤ to → to ≤ mid + b.max → p ≡ replicate (to - from) 255 → Halves from to p
  halves_at from mid to p x y e f g h gap =
      let sum : (mid - from) + (to - mid) ≡ to - from = omega arith in
      record {
        mid = mid;
        low = x;
        high = y;
        u = replicate (mid - from) 255;
        v = replicate (to - mid) 255;
        whole = gap ∙ sym (replicate-append-replicate (mid - from) (to - mid) 255 ∙ ap (λ (n : ℕ). replicate {A = ℕ} n 255) sum);
        on_left = spares_taken may a from mid q.left x e f;
        on_right = spares_taken may b mid to q.right y g h;
      }

  halves : (from to : ℕ) (p : List ℕ) → from ≤ to → to ≤ 32 → Takes may (in_one a b) from to p → Halves from to p
  halves from to p o l t =
      let e = t.enough in
      let f = t.few in
      let x = q.first in
      let y = q.second in
      let gap = spares_only {b = in_one a b} refl t in
      ⊎_elim
      (λ (z : to - b.max < from + a.min). halves_at from (from + a.min) to p (omega arith) (omega arith) (omega arith) (omega arith) (omega arith) (omega arith) gap)
      (λ (z : from + a.min ≤ to - b.max). halves_at from (to - b.max) to p (omega arith) (omega arith) (omega arith) (omega arith) (omega arith) (omega arith) gap)
      (below (to - b.max) (from + a.min))

-- ---- one block more

same_none : SameCuts [] []
same_none = record { there = λ may from to w l c. c; back = λ may from to w l c. c }

one_more : (bs cs : List Block) (b : Block) → ((may : ℕ → ℕ → Bool) (from to : ℕ) (w : List ℕ) → to ≤ 32 → Cuts may bs from to w → Cuts may cs from to w)
    → (may : ℕ → ℕ → Bool) (from to : ℕ) (w : List ℕ) → to ≤ 32 → Cuts may (bs ++ (b ∷ [])) from to w → Cuts may (cs ++ (b ∷ [])) from to w
one_more bs cs b f may from to w l c =
    let e = cuts_unsnoc may bs b from to w c in
    let i = e.inside in
    let j = e.parts in
    subst (λ (v : List ℕ). Cuts may (cs ++ (b ∷ [])) from to v) (sym j.whole) (cuts_snoc may cs b from e.mid to j.left j.right (f may from e.mid j.left (omega arith) j.on_left) i j.on_right)

pub same_more : {bs cs : List Block} (b : Block) → SameCuts bs cs → SameCuts (bs ++ (b ∷ [])) (cs ++ (b ∷ []))
same_more {bs} {cs} b s = record { there = one_more bs cs b s.there; back = one_more cs bs b s.back }

pub same_run : {bs : List Block} (cs : List Block) (a b : Block) → joinable a b ≡ true → SameCuts bs (cs ++ (a ∷ [])) → SameCuts (bs ++ (b ∷ [])) (cs ++ (in_one a b ∷ []))
same_run {bs} cs a b h s = record {
  there = λ may from to w l c.
      let e = cuts_unsnoc may bs b from to w c in
      let i = e.inside in
      let j = e.parts in
      let d = cuts_unsnoc may cs a from e.mid j.left (s.there may from e.mid j.left (omega arith) j.on_left) in
      let k = d.parts in
      let x = d.inside in
      let whole : w ≡ k.left ++ (k.right ++ j.right) = j.whole ∙ ap (λ (v : List ℕ). v ++ j.right) k.whole ∙ append_assoc k.left k.right j.right in
      subst (λ (v : List ℕ). Cuts may (cs ++ (in_one a b ∷ [])) from to v) (sym whole)
      (cuts_snoc may cs (in_one a b) from d.mid to k.left (k.right ++ j.right) k.on_left (omega arith)
      (both_taken may a b (parts a b h) d.mid e.mid to k.right j.right x i l k.on_right j.on_right));
  back = λ may from to w l c.
      let e = cuts_unsnoc may cs (in_one a b) from to w c in
      let i = e.inside in
      let j = e.parts in
      let d = halves may a b (parts a b h) e.mid to j.right i l j.on_right in
      let x = d.low in
      let y = d.high in
      let whole : w ≡ (j.left ++ d.u) ++ d.v = j.whole ∙ ap (λ (v : List ℕ). j.left ++ v) d.whole ∙ sym (append_assoc j.left d.u d.v) in
      subst (λ (v : List ℕ). Cuts may (bs ++ (b ∷ [])) from to v) (sym whole)
      (cuts_snoc may bs b from d.mid to (j.left ++ d.u) d.v
      (s.back may from d.mid (j.left ++ d.u) (omega arith) (cuts_snoc may cs a from e.mid d.mid j.left d.u j.on_left x d.on_left))
      y d.on_right);
}

-- ---- the loop

-- what is written after the blocks does not change them
lent_set : (r : ℕ) (vs : List ℕ) (i v : ℕ) → r ≤ i → lent r (set vs i v) ≡ lent r vs
unfolding lent
lent_set zero vs i v l = refl
lent_set (suc r) [] i v l = refl
lent_set (suc r) (x ∷ vs) zero v l = absurd (omega arith)
lent_set (suc r) (x ∷ vs) (suc i) v l = ap (λ (bs : List Block). block_in x ∷ bs) (lent_set r vs i v (omega arith))

written : (vs : List ℕ) (i v : ℕ) → i < length vs → lent (suc i) (set vs i v) ≡ lent i vs ++ (block_in v ∷ [])
written vs i v l = lent_more i (set vs i v) ∙ rw (lent_set i vs i v (omega arith), get_or-set_same vs i v 0 l)

-- members below k
abbrev pub Under : ℕ → ℕ → List ℕ → Type 0
Under k n vs = (i : ℕ) → i < n → (block_in (get_or vs i 0)).first + (block_in (get_or vs i 0)).k ≤ k

under_below : (k n : ℕ) (vs : List ℕ) → Under k n vs → Below k (blocks_in (take n vs))
unfolding Below blocks_in
under_below k zero vs u = tt
under_below k (suc n) [] u = tt
under_below k (suc n) (v ∷ vs) u = (u 0 (omega arith), under_below k n vs (λ i l. u (suc i) (omega arith)))

pub record Joining (vs : List ℕ) (j : ℕ) (joined : List ℕ) (r before : ℕ) : Type 0 where
  pub size : length joined ≡ 32
  pub few : r ≤ j
  pub same : SameCuts (lent j vs) (lent r joined)
  pub under : (k : ℕ) → Under k j vs → Under k r joined
  pub last : 0 < r → before ≡ get_or joined (r - 1) 0
  pub some : joinable (block_in before) (block_in (get_or vs j 0)) ≡ true → 0 < r

-- the same under other names
pub joining_as : {vs : List ℕ} {j : ℕ} {joined joined' : List ℕ} {r r' before before' : ℕ} → joined' ≡ joined → r' ≡ r → before' ≡ before → Joining vs j joined r before → Joining vs j joined' r' before'
joining_as p q s g = rw (p, q, s) g

pub joining_start : (vs : List ℕ) {joined : List ℕ} → length joined ≡ 32 → Joining vs 0 joined 0 256
unfolding lent joinable block_in
joining_start vs size = record {
  size = size;
  few = omega arith;
  same = same_none;
  under = λ k u i l. absurd (omega arith);
  last = λ l. absurd (omega arith);
  some = λ h. absurd (clash h refl);
}

module _ (vs : List ℕ) (j : ℕ) (joined : List ℕ) (r before number : ℕ) (g : Joining vs j joined r before) (low : j < 32) (is : number ≡ get_or vs j 0) where
  more : lent (suc j) vs ≡ lent j vs ++ (block_in number ∷ [])
  more = lent_more j vs ∙ rw is

  -- by itself
  pub joining_other : joinable (block_in before) (block_in number) ≡ false → Joining vs (j + 1) (set joined r number) (r + 1) number
  joining_other h =
      let f = g.few in
      let room : r < length joined = omega (arith, g.size) in
      record {
        size = length-set joined r number ∙ g.size;
        few = omega arith;
        same = rw (add-one j, add-one r, more, written joined r number room) (same_more (block_in number) g.same);
        under = λ k u i l. ⊎_elim
            (λ (z : i ≡ r). rw (z, get_or-set_same joined r number 0 room, is) (u j (omega arith)))
            (λ (z : i ≡ r → ⊥). rw (get_or-set_other joined r i number 0 z) (g.under k (λ v m. u v (omega arith)) i (omega arith)))
            (same? i r);
        last = λ l. sym (ap (λ (i : ℕ). get_or (set joined r number) i 0) (let y : r + 1 - 1 ≡ r = omega arith in y) ∙ get_or-set_same joined r number 0 room);
        some = λ q. omega arith;
      }

  -- in one with the last
  pub joining_run : (one : ℕ) → joinable (block_in before) (block_in number) ≡ true → block_in one ≡ in_one (block_in before) (block_in number) → Joining vs (j + 1) (set joined (r - 1) one) r one
  joining_run one h q =
      let f = g.few in
      let low_r = g.some (subst (λ (v : ℕ). joinable (block_in before) (block_in v) ≡ true) is h) in
      let room : r - 1 < length joined = omega (arith, g.size) in
      let here : suc (r - 1) ≡ r = omega arith in
      let old : lent r joined ≡ lent (r - 1) joined ++ (block_in before ∷ []) = ap (λ (i : ℕ). lent i joined) (sym here) ∙ lent_more (r - 1) joined ∙ rw (sym (g.last low_r)) in
      let new : lent r (set joined (r - 1) one) ≡ lent (r - 1) joined ++ (in_one (block_in before) (block_in number) ∷ []) =
      ap (λ (i : ℕ). lent i (set joined (r - 1) one)) (sym here) ∙ written joined (r - 1) one room ∙ rw q in
      record {
        size = length-set joined (r - 1) one ∙ g.size;
        few = omega arith;
        same = rw (add-one j, more, new) (same_run (lent (r - 1) joined) (block_in before) (block_in number) h (rw old at g.same));
        under = λ k u i l. ⊎_elim
            (λ (z : i ≡ r - 1). rw (z, get_or-set_same joined (r - 1) one 0 room, q) (let w = g.under k (λ v m. u v (omega arith)) (r - 1) (omega arith) in let y = ap (λ (v : ℕ). (block_in v).first) (g.last low_r) in omega arith))
            (λ (z : i ≡ r - 1 → ⊥). rw (get_or-set_other joined (r - 1) i one 0 z) (g.under k (λ v m. u v (omega arith)) i (omega arith)))
            (same? i (r - 1));
        last = λ l. sym (get_or-set_same joined (r - 1) one 0 room);
        some = λ _. low_r;
      }

pub joining_end : (vs : List ℕ) (count : ℕ) (joined : List ℕ) (r before : ℕ) → count ≤ 32 → Joining vs count joined r before → (k : ℕ) → Below k (blocks_in (take count vs)) → RunsJoined k count vs r joined
joining_end vs count joined r before l g k h = record {
  few = omega (arith, g.few);
  below = under_below k r joined (g.under k (λ i m. below_at k count vs i m h));
  same = record {
    there = λ may from to w u c. lent_cuts may r joined from to w (g.same.there may from to w u (cuts_lent may count vs from to w c));
    back = λ may from to w u c. lent_cuts may count vs from to w (g.same.back may from to w u (cuts_lent may r joined from to w c));
  };
}
