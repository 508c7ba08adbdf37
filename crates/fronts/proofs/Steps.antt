-- The first cut, one block more: what is settled stays, and the first list of the rest makes it whole. Assumes nothing.
use mathlib.Core.Path.{◌≡◌, refl, sym, ap, ap₂, ◌∙◌, subst}
use mathlib.Core.Logic.{⊎_elim}
use mathlib.Core.Bool.{Bool, true, false}
use mathlib.Core.List.{List, [], ◌∷◌, ◌++◌, append_assoc, append-nil}
use Prim.Native.Nat.{ℕ, ◌+◌, ◌-◌, ◌≤◌, ◌<◌}
use native.Mathlib.Omega.{arith}
use lib.ListN.{length, get_or, take, replicate, length-append, length-replicate, get_or-replicate, length-take, get_or-append}
use lib.Seq.{get_or-take, get_or-append-add, ext_get_or}
use Rattle.masks.specs.Masks.{bit, Plus}
use Rattle.masks.proofs.Masks.{bit_none}
use Rattle.facts.proofs.Cases.{same?, below, clash}
use Rattle.byte_order.specs.ByteOrder.{earlier, First}
use Rattle.byte_order.proofs.ByteOrder.{earlier_append_same, earlier_irreflexive}
use Rattle.blocks.specs.declared.Block.{Block}
use Rattle.blocks.specs.Pieces.{Cuts, Best}
use Rattle.blocks.proofs.Cutting.{cuts_order}
use Rattle.places.specs.Ways.{Way, Ways}
use Rattle.places.proofs.Backward.{way_leads}
use Rattle.fronts.specs.Fronts.{Onward, Later, Pieced, Reached, Step, Leading, Moved, Underway}
use Rattle.fronts.proofs.Orders.{later_not}

-- a list that comes later than g comes later than g and anything behind it
later_more : (g x y v : List ℕ) → Later g x → Later (g ++ y) (x ++ v)
later_more g x y v l =
    let a = l.left in
    let b = l.right in
    let n = length-append g y in
    let m = length-append x v in
    record {
      at = l.at;
      left = omega arith;
      right = omega arith;
      same = λ i h. get_or-append g y 0 i (omega arith) ∙ l.same i h ∙ sym (get_or-append x v 0 i (omega arith));
      less = let p = get_or-append g y 0 l.at a in let q = get_or-append x v 0 l.at b in let r = l.less in omega arith;
    }

-- ---- one block more
module _ {may : ℕ → ℕ → Bool} {b : Block} {bs : List Block} {n ends Q l : ℕ} {g : List ℕ} {next l' : ℕ} (ways : Ways may bs n ends) (s : Step may b ends Q l g next l') where
  onward_whole : (y : List ℕ) → Onward may bs n next l' y → Onward may (b ∷ bs) n Q l (g ++ y)
  unfolding Cuts
  onward_whole y o =
      let m = s.made o.place o.here in
      let gap : List ℕ = replicate (o.place - l') 255 in
      record {
        place = m.place;
        here = m.here;
        rest = m.piece ++ o.rest;
        cut = record {
          mid = o.place;
          after = m.inside;
          inside = cuts_order may bs o.place n o.rest o.cut;
          parts = record { left = m.piece; right = o.rest; whole = refl; on_left = m.taken; on_right = o.cut };
        };
        whole = ap (λ (z : List ℕ). g ++ z) o.whole ∙ sym (append_assoc g gap o.rest) ∙ ap (λ (z : List ℕ). z ++ o.rest) m.whole
            ∙ append_assoc (replicate (m.place - l) 255) m.piece o.rest;
      }

  onward_later : {y : List ℕ} → First (Onward may bs n next l') y → (v : List ℕ) → Onward may (b ∷ bs) n Q l v → earlier v (g ++ y) ≡ false
  unfolding Cuts
  onward_later {y} f v o =
      let c = o.cut in
      let j = c.parts in
      let e = c.mid in
      let gap : List ℕ = replicate (o.place - l) 255 in
      let x = gap ++ j.left in
      let good = ways.all e (record { list = j.right; cut = j.on_right }) in
      let p : Pieced may b Q l e x = record { place = o.place; here = o.here; inside = c.after; piece = j.left; taken = j.on_left; whole = refl } in
      let is : v ≡ x ++ j.right = o.whole ∙ ap (λ (z : List ℕ). gap ++ z) j.whole ∙ sym (append_assoc gap j.left j.right) in
      ap (λ z. earlier z (g ++ y)) is ∙ ⊎_elim
      (λ (k : Later g x). later_not (g ++ y) (x ++ j.right) (later_more g x y j.right k))
      (λ (k : Reached g next l' e x).
      let tail : List ℕ = replicate (e - l') 255 ++ j.right in
      let same : x ++ j.right ≡ g ++ tail = ap (λ (z : List ℕ). z ++ j.right) k.same ∙ append_assoc g (replicate (e - l') 255) j.right in
      ap (λ z. earlier z (g ++ y)) same ∙ earlier_append_same g tail y ∙ f.least tail (record { place = e; here = k.here; rest = j.right; cut = j.on_right; whole = refl }))
      (s.least e x good p)

  pub step_first : {y : List ℕ} → First (Onward may bs n next l') y → First (Onward may (b ∷ bs) n Q l) (g ++ y)
  step_first {y} f = record { holds = onward_whole y f.holds; least = onward_later f }

-- ---- how far the cut by all blocks is settled
-- one place only
pub only_start : (Q : ℕ) → Plus (bit 0) 0 (bit Q) → (q : ℕ) → bit Q q ≡ true → q ≡ 0
only_start Q one q h = ⊎_elim (λ (z : q ≡ 0). z) (λ (z : q ≡ 0 → ⊥). absurd (clash h (one.other q z ∙ bit_none q))) (same? q 0)

pub underway_start : {may : ℕ → ℕ → Bool} {all : List Block} {n Q : ℕ} (w : List ℕ) → length w ≡ 32 → ((i : ℕ) → i < 32 → get_or w i 0 ≡ 255) → Plus (bit 0) 0 (bit Q) → Way may all 0 n
    → Underway may all all n Q 0 w
underway_start {may} {all} {n} {Q} w size blank one way =
    let only = only_start Q one in
    record {
      standing = record { size = size; blank = λ i _ l. blank i l; after = λ q h. omega arith };
      one = 0;
      here = one.self;
      each = λ q h. subst (λ (z : ℕ). Way may all z n) (sym (only q h)) way;
      first = λ y f. record {
        holds =
            let o = f.holds in
            let z = only o.place o.here in
            let gap : replicate {A = ℕ} (o.place - 0) 255 ≡ [] = ap (λ (k : ℕ). replicate {A = ℕ} (k - 0) 255) z in
            subst (λ (v : List ℕ). Cuts may all 0 n v) (sym (o.whole ∙ ap (λ (v : List ℕ). v ++ o.rest) gap)) (subst (λ (k : ℕ). Cuts may all k n o.rest) z o.cut);
        least = λ v c. f.least v (record { place = 0; here = one.self; rest = v; cut = c; whole = refl });
      };
    }

pub underway_leading : {may : ℕ → ℕ → Bool} {all : List Block} {b : Block} {bs : List Block} {n ends Q l : ℕ} {w : List ℕ} → Ways may bs n ends → Underway may all (b ∷ bs) n Q l w → Leading may b ends Q
underway_leading ways u = record { one = u.one; here = u.here; each = λ q h. way_leads ways (u.each q h) }

pub underway_step : {may : ℕ → ℕ → Bool} {all : List Block} {b : Block} {bs : List Block} {n ends Q l : ℕ} {w : List ℕ} {next l' : ℕ} {w' : List ℕ}
    → Ways may bs n ends → Underway may all (b ∷ bs) n Q l w → Moved may b ends Q l w next l' w' → Underway may all bs n next l' w'
underway_step {may} {all} {b} {bs} {n} {ends} {Q} {l} {w} {next} {l'} {w'} ways u m =
    let s = m.step in
    record {
      standing = m.standing;
      one = s.one;
      here = s.here;
      each = λ q h. ways.some q (s.good q h);
      first = λ y f. subst (λ (v : List ℕ). First (Cuts may all 0 n) v) (sym (ap (λ (v : List ℕ). v ++ y) m.whole ∙ append_assoc (take l w) m.added y)) (u.first (m.added ++ y) (step_first ways s f));
    }

-- ---- no block to come
pub underway_end : {may : ℕ → ℕ → Bool} {all : List Block} {n Q l : ℕ} {w : List ℕ} → n ≤ 32 → Underway may all [] n Q l w → Best (Cuts may all 0 n) n true w
unfolding Cuts
underway_end {may} {all} {n} {Q} {l} {w} high u =
    let size = u.standing.size in
    let blank = u.standing.blank in
    let last : (q : ℕ) → bit Q q ≡ true → q ≡ n = λ q h. (u.each q h).cut.0 in
    let end = last u.one u.here in
    let before = u.standing.after u.one u.here in
    let y : List ℕ = replicate (n - l) 255 in
    let f : First (Onward may [] n Q l) y = record {
      holds = record { place = n; here = subst (λ (z : ℕ). bit Q z ≡ true) end u.here; rest = []; cut = (refl, refl); whole = sym (append-nil y) };
      least = λ v o.
          let is : v ≡ y = o.whole ∙ ap₂ (λ (z : ℕ) (r : List ℕ). replicate (z - l) 255 ++ r) o.cut.0 o.cut.1 ∙ append-nil y in
          ap (λ (z : List ℕ). earlier z y) is ∙ earlier_irreflexive y;
    } in
    let a = length-take l w in
    let c = length-take n w in
    let d = length-replicate {A = ℕ} (n - l) 255 in
    let t = length-append (take l w) y in
    let whole : take l w ++ y ≡ take n w = ext_get_or 0 (take l w ++ y) (take n w) (omega arith) (λ i h. ⊎_elim
    (λ (k : i < l). get_or-append (take l w) y 0 i (omega arith) ∙ get_or-take l w i 0 k ∙ sym (get_or-take n w i 0 (omega arith)))
    (λ (k : l ≤ i).
    let j = i - l in
    let q : i ≡ length (take l w) + j = omega arith in
    ap (λ (z : ℕ). get_or (take l w ++ y) z 0) q ∙ get_or-append-add (take l w) y j 0 ∙ get_or-replicate {A = ℕ} (n - l) j 255 0 (omega arith)
    ∙ sym (get_or-take n w i 0 (omega arith) ∙ blank i k (omega arith)))
    (below i l)) in
    record {
      best = λ _. subst (λ (v : List ℕ). First (Cuts may all 0 n) v) whole (u.first y f);
      none = λ t. absurd (clash refl t);
      size = size;
      outside = λ i h k. blank i (omega arith) k;
      blank = λ t. absurd (clash refl t);
    }
