-- The places from which blocks go on, one block more at a time. Assumes nothing.
use mathlib.Core.Path.{◌≡◌, refl, sym, ◌∙◌, subst}
use mathlib.Core.Logic.{⊎_elim}
use mathlib.Core.Bool.{Bool, true, false}
use mathlib.Core.List.{List, [], ◌∷◌, ◌++◌}
use Prim.Native.Nat.{ℕ, ◌+◌, ◌-◌, ◌≤◌, ◌<◌}
use native.Mathlib.Omega.{arith}
use lib.ListN.{replicate}
use Rattle.masks.specs.Masks.{bit, Plus}
use Rattle.masks.proofs.Masks.{bit_none}
use Rattle.facts.proofs.Cases.{same?, clash}
use Rattle.facts.proofs.Spans.{between_to}
use Rattle.place_masks.specs.Places.{Before}
use Rattle.blocks.specs.declared.Block.{Block}
use Rattle.blocks.specs.Pieces.{Takes, Cuts, is_one}
use Rattle.blocks.proofs.Assignments.{assigns_rows}
use Rattle.blocks.proofs.Cutting.{cuts_order}
use Rattle.blocks.proofs.OneMember.{one_taken, taken_one}
use Rattle.blocks.proofs.SpareBlocks.{spares_taken}
use Rattle.places.specs.Ways.{Way, Ways, Low, Leads, Back, Agrees}

-- ---- the places are those of the list
pub ways_low : {may : ℕ → ℕ → Bool} {bs : List Block} {n good : ℕ} → Ways may bs n good → Low good n
ways_low {may} {bs} {n} {good} g e h = let w = g.some e h in cuts_order may bs e n w.list w.cut

-- a place that is not among them has no cut
pub ways_never : {may : ℕ → ℕ → Bool} {bs : List Block} {n good : ℕ} → Ways may bs n good → (p : ℕ) → bit good p ≡ false → (w : List ℕ) → Cuts may bs p n w → ⊥
ways_never g p f w c = clash (g.all p (record { list = w; cut = c })) f

-- ---- no blocks: the end, and no other place
pub ways_end : (may : ℕ → ℕ → Bool) (n : ℕ) {good : ℕ} → Plus (bit 0) n (bit good) → Ways may [] n good
unfolding Cuts
ways_end may n {good} one = record {
  some = λ p h. ⊎_elim
      (λ (q : p ≡ n). record { list = []; cut = (q, refl) })
      (λ (q : p ≡ n → ⊥). absurd (clash h (one.other p q ∙ bit_none p)))
      (same? p n);
  all = λ p w. subst (λ (z : ℕ). bit good z ≡ true) (sym w.cut.0) one.self;
}

-- ---- one block more in front
module _ {may : ℕ → ℕ → Bool} {b : Block} {bs : List Block} {n good p : ℕ} (g : Ways may bs n good) where
  pub leads_way : Leads may b good p → Way may (b ∷ bs) p n
  unfolding Cuts
  leads_way l =
      let w = g.some l.place l.here in
      record {
        list = l.piece ++ w.list;
        cut = record {
          mid = l.place;
          after = l.after;
          inside = ways_low g l.place l.here;
          parts = record { left = l.piece; right = w.list; whole = refl; on_left = l.taken; on_right = w.cut };
        };
      }

  pub way_leads : Way may (b ∷ bs) p n → Leads may b good p
  unfolding Cuts
  way_leads w =
      let c = w.cut in
      let j = c.parts in
      record { place = c.mid; here = g.all c.mid (record { list = j.right; cut = j.on_right }); after = c.after; piece = j.left; taken = j.on_left }

pub ways_back : {may : ℕ → ℕ → Bool} {b : Block} {bs : List Block} {n good r : ℕ} → Back may b good r → Ways may bs n good → Ways may (b ∷ bs) n r
ways_back f g = record { some = λ p h. leads_way g (f.some p h); all = λ p w. f.all p (way_leads g w) }

-- ---- two relations that agree on the block's members
pub agrees_turn : {may may' : ℕ → ℕ → Bool} {b : Block} {n : ℕ} → Agrees may may' b n → Agrees may' may b n
agrees_turn a = record { same = λ m e b l. sym (a.same m e b l) }

pub takes_agree : {may may' : ℕ → ℕ → Bool} {b : Block} {n from to : ℕ} {p : List ℕ} → Agrees may may' b n → to ≤ n → Takes may b from to p → Takes may' b from to p
takes_agree {may} {may'} {b} {n} {from} {to} {p} a l t = record {
  assigned = assigns_rows (λ m e i j o. let z = between_to from to e j in sym (a.same m e i (omega arith)) ∙ o) t.assigned;
  enough = t.enough;
  few = t.few;
}

pub leads_agree : {may may' : ℕ → ℕ → Bool} {b : Block} {n good p : ℕ} → Agrees may may' b n → Low good n → Leads may b good p → Leads may' b good p
leads_agree a low l = record { place = l.place; here = l.here; after = l.after; piece = l.piece; taken = takes_agree a (low l.place l.here) l.taken }

pub back_agree : {may may' : ℕ → ℕ → Bool} {b : Block} {n good r : ℕ} → Agrees may may' b n → Low good n → Back may b good r → Back may' b good r
back_agree a low f = record { some = λ p h. leads_agree a low (f.some p h); all = λ p l. f.all p (leads_agree (agrees_turn a) low l) }

-- ---- a block with no members
pub back_spares : (may : ℕ → ℕ → Bool) (b : Block) {good r : ℕ} → b.k ≡ 0 → Before good b.min b.max r → Back may b good r
back_spares may b {good} {r} z f = record {
  some = λ p h.
      let a = f.some p h in
      let n = a.near in
      let x = a.far in
      record { place = a.place; here = a.here; after = omega arith; piece = replicate (a.place - p) 255; taken = spares_taken may b p a.place z (omega arith) n x };
  all = λ p l.
      let o = l.after in
      let t = l.taken in
      let e = t.enough in
      let x = t.few in
      f.all p (record { place = l.place; here = l.here; near = omega arith; far = omega arith });
}

-- ---- one member and no spare element

-- the member may take the element at each place before a good one, where r says so
pub record Tested (may : ℕ → ℕ → Bool) (b : Block) (good r : ℕ) : Type 0 where
  pub some : (p : ℕ) → bit r p ≡ true → (bit good (p + 1) ≡ true) × (may b.first p ≡ true)
  pub all : (p : ℕ) → bit good (p + 1) ≡ true → may b.first p ≡ true → bit r p ≡ true

pub back_one : {may : ℕ → ℕ → Bool} {b : Block} {good r : ℕ} → is_one b ≡ true → b.first < 32 → Tested may b good r → Back may b good r
back_one {may} {b} {good} {r} h l f = record {
  some = λ p x. let t = f.some p x in record { place = p + 1; here = t.0; after = omega arith; piece = b.first ∷ []; taken = one_taken may b p h t.1 };
  all = λ p x. let t = taken_one x.piece h l x.after x.taken in f.all p (subst (λ (z : ℕ). bit good z ≡ true) t.0 x.here) t.2;
}
