-- The places that the blocks so far reach, one block more at a time. Assumes nothing.
use mathlib.Core.Path.{◌≡◌, refl, sym, ap, ◌∙◌, subst}
use mathlib.Core.Logic.{⊎_elim}
use mathlib.Core.Bool.{Bool, true, false, not, ◌&&◌, and-true}
use mathlib.Core.List.{List, [], ◌∷◌, ◌++◌}
use Prim.Native.Nat.{ℕ, ◌+◌, ◌≤◌, ◌<◌}
use native.Mathlib.Numerals.{add-one}
use native.Mathlib.Omega.{arith}
use lib.ListN.{length, get_or, take, drop, take-append-drop}
use lib.Seq.{slice, take-take, take_at, drop_at, take-length}
use Rattle.masks.specs.Masks.{bit, Plus}
use Rattle.facts.specs.Counting.{count}
use Rattle.facts.proofs.Cases.{same?, below, holds?, clash, and_left}
use Rattle.facts.proofs.Counting.{count_less}
use Rattle.masks.proofs.Masks.{bit_none}
use Rattle.blocks.specs.declared.Block.{Block}
use Rattle.blocks.specs.Numbers.{block_in, blocks_in}
use Rattle.blocks.specs.Pieces.{Takes, Cuts, Passing}
use Rattle.judging.specs.Reach.{Reached, Ends, Begun, Extended}
use Rattle.blocks.proofs.FirstLists.{passing_true, passing_false, passing_same}
use Rattle.blocks.proofs.Cutting.{cuts_length, cuts_snoc, Ended, cuts_unsnoc}
use Rattle.blocks.proofs.LentBlocks.{lent, lent_more, cuts_lent, lent_cuts}

-- ---- no blocks
none_start : (may : ℕ → ℕ → Bool) (w : List ℕ) → Passing (Cuts may [] 0 0 (take 0 w)) true
unfolding Cuts
none_start may w = passing_true (refl, refl)

none_later : (may : ℕ → ℕ → Bool) (w : List ℕ) (p : ℕ) → (p ≡ 0 → ⊥) → Passing (Cuts may [] 0 p (take p w)) false
unfolding Cuts
none_later may w p n = passing_false (λ c. n (sym c.0))

pub reached_start : {reach : ℕ} → Plus (bit 0) 0 (bit reach) → (may : ℕ → ℕ → Bool) (w : List ℕ) → Reached may [] w reach
reached_start {reach} one may w =
    let clear : (p : ℕ) → (p ≡ 0 → ⊥) → bit reach p ≡ false = λ p n. one.other p n ∙ bit_none p in
    record {
      at = λ p l. ⊎_elim
          (λ (q : p ≡ 0). subst (λ (x : ℕ). Passing (Cuts may [] 0 x (take x w)) (bit reach x)) (sym q)
          (subst (λ (t : Bool). Passing (Cuts may [] 0 0 (take 0 w)) t) (sym one.self) (none_start may w)))
          (λ (q : p ≡ 0 → ⊥). subst (λ (t : Bool). Passing (Cuts may [] 0 p (take p w)) t) (sym (clear p q)) (none_later may w p q))
          (same? p 0);
      outside = λ p l. clear p (λ q. omega arith);
    }

-- the parts of a list that is cut at a middle place
left_part : (to mid : ℕ) (w u v : List ℕ) → mid ≤ to → take to w ≡ u ++ v → length u ≡ mid → u ≡ take mid w
left_part to mid w u v l q n = sym (take_at u v mid n) ∙ ap (λ (x : List ℕ). take mid x) (sym q) ∙ take-take mid to w l

right_part : (to mid : ℕ) (w u v : List ℕ) → take to w ≡ u ++ v → length u ≡ mid → v ≡ slice mid to w
right_part to mid w u v q n = sym (drop_at u v mid n) ∙ ap (λ (x : List ℕ). drop mid x) (sym q)

-- ---- all walks that begin at a reached place which is not left

pub record Extending (may : ℕ → ℕ → Bool) (b : Block) (reach : ℕ) (w : List ℕ) (left next : ℕ) : Type 0 where
  pub fewer : (p : ℕ) → bit left p ≡ true → bit reach p ≡ true
  pub found : (p : ℕ) (h : Begun may b reach w p) → bit left h.start ≡ false → bit next p ≡ true
  pub only : (p : ℕ) → bit next p ≡ true → Begun may b reach w p

pub extending_start : (may : ℕ → ℕ → Bool) (b : Block) (reach : ℕ) (w : List ℕ) → Extending may b reach w reach 0
extending_start may b reach w = record { fewer = λ p h. h; found = λ p h n. absurd (clash h.reached n); only = λ p h. absurd (clash h (bit_none p)) }

module _ {may : ℕ → ℕ → Bool} {b : Block} {reach : ℕ} {w : List ℕ} {left next : ℕ} (g : Extending may b reach w left next) (from one after : ℕ) (here : bit left from ≡ true) (single : Plus (bit 0) from (bit one))
    (out : (e : ℕ) → bit after e ≡ (bit left e && not (bit one e))) where
  gone : (p : ℕ) → bit after p ≡ true → bit left p ≡ true
  gone p h = and_left (bit left p) (not (bit one p)) (sym (out p) ∙ h)

  stays : (p : ℕ) → (p ≡ from → ⊥) → bit after p ≡ bit left p
  stays p n = out p ∙ ap (λ (v : Bool). bit left p && not v) (single.other p n ∙ bit_none p) ∙ and-true (bit left p)

  pub extending_step : {more : ℕ} → Ends may b from (length w + 1) w next more → Extending may b reach w after more
  extending_step {more} e = record {
    fewer = λ p h. g.fewer p (gone p h);
    found = λ p h n. ⊎_elim
        (λ (q : h.start ≡ from).
        e.found p (subst (λ (x : ℕ). x ≤ p) q h.inside) (let k = h.end in omega arith) (subst (λ (x : ℕ). Takes may b x p (slice x p w)) q h.taken))
        (λ (q : h.start ≡ from → ⊥). e.kept p (g.found p h (sym (stays h.start q) ∙ n)))
        (same? h.start from);
    only = λ p h. ⊎_elim
        (λ (o : bit next p ≡ true). g.only p o)
        (λ (o : bit next p ≡ false).
        let y = e.only p h o in
        record { start = from; reached = g.fewer from here; inside = y.0; end = omega arith; taken = y.2 })
        (holds? (bit next p));
  }

  -- one place fewer is left
  pub left_fewer : from < 64 → count (bit after) 64 < count (bit left) 64
  left_fewer low = count_less {P = bit after} {S = bit left} gone from (out from ∙ rw (here, single.self) refl) here 64 low

pub extending_end : {may : ℕ → ℕ → Bool} {b : Block} {reach : ℕ} {w : List ℕ} {left next : ℕ} → left ≡ 0 → Extending may b reach w left next → Extended may b reach w next
extending_end {may} {b} {reach} {w} {left} {next} z g = record { found = λ p h. g.found p h (ap (λ (n : ℕ). bit n h.start) z ∙ bit_none h.start); only = g.only }

module _ {may : ℕ → ℕ → Bool} {bs : List Block} {b : Block} {reach : ℕ} {w : List ℕ} (g : Reached may bs w reach) where
  begun_cuts : {p : ℕ} → Begun may b reach w p → Cuts may (bs ++ (b ∷ [])) 0 p (take p w)
  begun_cuts {p} h =
      let i = h.start in
      let l = h.inside in
      let k = h.end in
      let whole : take p w ≡ take i w ++ slice i p w = sym (take-append-drop i (take p w)) ∙ ap (λ (x : List ℕ). x ++ slice i p w) (take-take i p w l) in
      subst (λ (x : List ℕ). Cuts may (bs ++ (b ∷ [])) 0 p x) (sym whole)
      (cuts_snoc may bs b 0 i p (take i w) (slice i p w) ((g.at i (omega arith)).passed h.reached) l h.taken)

  -- a cut that ends in a piece of b begins that piece at a place that is reached
  cuts_begun : {p : ℕ} → p ≤ length w → Ended may bs b 0 p (take p w) → Begun may b reach w p
  cuts_begun {p} end e =
      let j = e.parts in
      let m = e.mid in
      let k = e.inside in
      let n : length j.left ≡ m = cuts_length may bs 0 m j.left j.on_left ∙ omega arith in
      let c : Cuts may bs 0 m (take m w) = subst (λ (x : List ℕ). Cuts may bs 0 m x) (left_part p m w j.left j.right k j.whole n) j.on_left in
      record {
        start = m;
        reached = ⊎_elim (λ (y : bit reach m ≡ true). y) (λ (y : bit reach m ≡ false). absurd ((g.at m (omega arith)).failed y c)) (holds? (bit reach m));
        inside = k;
        end = end;
        taken = subst (λ (x : List ℕ). Takes may b m p x) (right_part p m w j.left j.right j.whole n) j.on_right;
      }

  pub extended_end : {next : ℕ} → Extended may b reach w next → Reached may (bs ++ (b ∷ [])) w next
  extended_end {next} e = record {
    at = λ p l. record {
      passed = λ h. begun_cuts (e.only p h);
      failed = λ h c. clash (e.found p (cuts_begun l (cuts_unsnoc may bs b 0 p (take p w) c))) h;
    };
    outside = λ p l. ⊎_elim (λ (y : bit next p ≡ true). let k = (e.only p y).end in absurd (omega arith)) (λ (y : bit next p ≡ false). y) (holds? (bit next p));
  }

-- ---- all blocks
pub reached_low : {may : ℕ → ℕ → Bool} {bs : List Block} {w : List ℕ} {reach : ℕ} → Reached may bs w reach → (p : ℕ) → bit reach p ≡ true → p ≤ length w
reached_low {may} {bs} {w} {reach} g p h = ⊎_elim (λ (l : p < length w + 1). omega arith) (λ (l : length w + 1 ≤ p). absurd (clash h (g.outside p (omega arith)))) (below p (length w + 1))

pub reached_more : {may : ℕ → ℕ → Bool} (vs : List ℕ) {w : List ℕ} {reach : ℕ} (j : ℕ) {b : Block} → b ≡ block_in (get_or vs j 0)
    → Reached may (lent j vs ++ (b ∷ [])) w reach → Reached may (lent (j + 1) vs) w reach
reached_more {may} vs {w} {reach} j {b} is g =
    let e : lent (j + 1) vs ≡ lent j vs ++ (b ∷ []) = ap (λ (i : ℕ). lent i vs) (add-one j) ∙ lent_more j vs ∙ ap (λ (x : Block). lent j vs ++ (x ∷ [])) (sym is) in
    subst (λ (bs : List Block). Reached may bs w reach) (sym e) g

reached_end : {may : ℕ → ℕ → Bool} {bs : List Block} {w : List ℕ} {reach : ℕ} {r : Bool} → Reached may bs w reach → r ≡ bit reach (length w) → Passing (Cuts may bs 0 (length w) w) r
reached_end {may} {bs} {w} {reach} g q =
    subst (λ (t : Bool). Passing (Cuts may bs 0 (length w) w) t) (sym q)
    (subst (λ (x : List ℕ). Passing (Cuts may bs 0 (length w) x) (bit reach (length w))) (take-length w) (g.at (length w) (omega arith)))

pub reached_all : {may : ℕ → ℕ → Bool} (count : ℕ) (vs : List ℕ) {w : List ℕ} {reach : ℕ} {r : Bool} → Reached may (lent count vs) w reach → r ≡ bit reach (length w)
    → Passing (Cuts may (blocks_in (take count vs)) 0 (length w) w) r
reached_all {may} count vs {w} g q = passing_same (lent_cuts may count vs 0 (length w) w) (cuts_lent may count vs 0 (length w) w) (reached_end g q)
