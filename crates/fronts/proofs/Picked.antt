-- The first of the lists that a group takes from one of several places, one place after the other: a search up to the furthest end serves every later place and every
-- nearer end; and a list that begins after the first member's place comes later. Assumes nothing.
use mathlib.Core.Path.{◌≡◌, sym, ap, ◌∙◌, subst}
use mathlib.Core.Logic.{inl, inr, ⊎_elim}
use mathlib.Core.Bool.{Bool, true, false, ◌&&◌}
use mathlib.Core.List.{List}
use Prim.Native.Nat.{ℕ, ◌+◌, ◌-◌, ◌≤◌, ◌<◌}
use native.Mathlib.Omega.{arith}
use lib.Dec.{leb}
use lib.ListN.{get_or}
use lib.Seq.{slice, length-slice}
use borrow.Author.Tests.{le-leb, leb-true}
use Rattle.masks.specs.Masks.{bit, Lowest, Highest}
use Rattle.masks.proofs.Masks.{bit_none, lowest_first, highest_last}
use Rattle.facts.specs.Counting.{between, count}
use Rattle.facts.proofs.Cases.{same?, below, clash, not_so, and_left, and_right, both}
use Rattle.facts.proofs.Counting.{cnt_place, count_less}
use Rattle.facts.proofs.Spans.{between_to}
use Rattle.facts.proofs.Slices.{slice_at}
use Rattle.byte_order.specs.ByteOrder.{earlier}
use Rattle.byte_order.proofs.ByteOrder.{earlier_not_transitive, earlier_asymmetric}
use Rattle.place_masks.proofs.PlaceBits.{bit_pos}
use Rattle.blocks.specs.declared.Block.{Block}
use Rattle.blocks.specs.Assignment.{takes}
use Rattle.blocks.proofs.Assignments.{takes_inv}
use Rattle.assign.specs.Answer.{Answer}
use Rattle.assign.proofs.Answers.{answer_complete}
use Rattle.places.specs.Ways.{Low, Leads}
use Rattle.places.specs.Bytes.{Held}
use Rattle.places.proofs.Windows.{lone_inside, lone_wider, lone_before, held_assigned, lone_order}
use Rattle.places.proofs.GroupPlaces.{Furthest, furthest_assigned}
use Rattle.fronts.specs.Picks.{FirstMember, Picking, Tried}
use Rattle.fronts.specs.Fronts.{Leading}
use Rattle.fronts.proofs.Orders.{later_not}

-- ---- the bytes of what a block takes
module _ {may : ℕ → ℕ → Bool} {b : Block} {from to : ℕ} {w : List ℕ} (block : b.first + b.k ≤ 32) (h : Held may b from to w) where
  -- a byte is 255, or a member that may take the element
  pub held_byte : (i : ℕ) → i < 32 → (get_or w i 0 ≡ 255 → ⊥) → (from ≤ i) × (i < to) × (between b.first (b.first + b.k) (get_or w i 0) ≡ true)
  held_byte i l n =
      let z = lone_inside h.lone i l n in
      let a = h.taken.assigned in
      let size = h.lone.size in
      let high = h.high in
      let m = length-slice from to w (omega arith) in
      let j = i - from in
      let back : from + j ≡ i = omega arith in
      let at : get_or (slice from to w) j 0 ≡ get_or w i 0 = slice_at from to w j (omega arith) ∙ ap (λ (d : ℕ). get_or w d 0) back in
      let r : takes may b.first b.k (from + j) (get_or w i 0) ≡ true = subst (λ (x : ℕ). takes may b.first b.k (from + j) x ≡ true) at (a.right j (omega arith)) in (
        z.0,
        z.1,
        ⊎_elim
            (λ (q : get_or w i 0 ≡ 255). absurd (n q))
            (λ (q : (between b.first (b.first + b.k) (get_or w i 0) ≡ true) × (may (get_or w i 0) (from + j) ≡ true)). q.0)
            (takes_inv may b.first b.k (from + j) (get_or w i 0) r),
      )

  pub held_le : (i : ℕ) → i < 32 → get_or w i 0 ≤ 255
  held_le i l = ⊎_elim
      (λ (q : get_or w i 0 ≡ 255). omega arith)
      (λ (q : get_or w i 0 ≡ 255 → ⊥). let z = between_to b.first (b.first + b.k) (get_or w i 0) (held_byte i l q).2 in omega arith)
      (same? (get_or w i 0) 255)

  -- there is a member
  pub held_member : 0 < b.k → (i : ℕ) × (from ≤ i) × (i < to) × (get_or w i 0 ≡ 255 → ⊥)
  held_member k =
      let a = h.taken.assigned in
      let size = h.lone.size in
      let high = h.high in
      let m = length-slice from to w (omega arith) in
      let o = a.once b.first (omega arith) (omega arith) in
      let s = cnt_place b.first (slice from to w) (omega arith) in
      let e = s.early in
      let is = slice_at from to w s.place (omega arith) in
      let it = s.here in
      (from + s.place, omega arith, omega arith, λ q. omega arith)

-- where b leads from p to one of the ends, one of them is near enough
pub lead_cut : {may : ℕ → ℕ → Bool} {b : Block} {ends p : ℕ} (cut : ℕ) → Leads may b ends p → ((e : ℕ) → bit cut e ≡ (leb e (p + (b.k + b.max)) && bit ends e)) → 0 < cut
lead_cut {may} {b} {ends} {p} cut l is =
    let few = l.taken.few in
    let o = l.after in
    bit_pos cut l.place (is l.place ∙ both (leb l.place (p + (b.k + b.max))) (bit ends l.place) (le-leb l.place (p + (b.k + b.max)) (omega arith)) l.here)

-- and the furthest of these makes a piece of one of b's lengths
pub lead_order : {may : ℕ → ℕ → Bool} {b : Block} {ends p t : ℕ} → Leads may b ends p → Furthest ends (p + (b.k + b.max)) t → p + (b.k + b.min) ≤ t
lead_order {may} {b} {ends} {p} {t} lead f =
    let l = lead.taken in
    let x = l.enough in
    let y = l.few in
    let o = lead.after in
    let g = f.greatest lead.place lead.here (omega arith) in
    omega arith

-- ---- the ends within b's lengths from p
pub record Within (b : Block) (ends p near : ℕ) : Type 0 where
  pub some : (e : ℕ) → bit near e ≡ true → (p + (b.k + b.min) ≤ e) × (e ≤ p + (b.k + b.max)) × (bit ends e ≡ true)
  pub all : (e : ℕ) → p + (b.k + b.min) ≤ e → e ≤ p + (b.k + b.max) → bit ends e ≡ true → bit near e ≡ true

pub within_is : {b : Block} {ends p near : ℕ} (from : ℕ) → ((e : ℕ) → bit from e ≡ (leb (p + (b.k + b.min)) e && bit ends e)) → ((e : ℕ) → bit near e ≡ (leb e (p + (b.k + b.max)) && bit from e)) → Within b ends p near
within_is {b} {ends} {p} {near} from on is = record {
  some = λ e h.
      let x = sym (is e) ∙ h in
      let y = sym (on e) ∙ and_right (leb e (p + (b.k + b.max))) (bit from e) x in
      (leb-true (p + (b.k + b.min)) e (and_left (leb (p + (b.k + b.min)) e) (bit ends e) y), leb-true e (p + (b.k + b.max)) (and_left (leb e (p + (b.k + b.max))) (bit from e) x), and_right (leb (p + (b.k + b.min)) e) (bit ends e) y);
  all = λ e x y h.
      is e ∙ both (leb e (p + (b.k + b.max))) (bit from e) (le-leb e (p + (b.k + b.max)) y) (on e ∙ both (leb (p + (b.k + b.min)) e) (bit ends e) (le-leb (p + (b.k + b.min)) e x) h);
}

-- where b leads on from p there is one
pub near_lead : {may : ℕ → ℕ → Bool} {b : Block} {ends p near : ℕ} → Within b ends p near → Leads may b ends p → 0 < near
near_lead {may} {b} {ends} {p} {near} n l =
    let enough = l.taken.enough in
    let few = l.taken.few in
    let o = l.after in
    bit_pos near l.place (n.all l.place (omega arith) (omega arith) l.here)

-- the furthest of them makes a piece of one of b's lengths, and is the furthest of all ends up to the greatest
pub near_long : {b : Block} {ends p near t : ℕ} → Within b ends p near → Highest 64 near t → p + (b.k + b.min) ≤ t
near_long {b} {ends} {p} {near} {t} n h = (n.some t h.inside).0

pub near_furthest : {b : Block} {ends p near t : ℕ} → Within b ends p near → Highest 64 near t → Furthest ends (p + (b.k + b.max)) t
near_furthest {b} {ends} {p} {near} {t} n h =
    let s = n.some t h.inside in
    let long = s.0 in
    record {
      here = s.2;
      near = s.1;
      greatest = λ e x l. ⊎_elim
          (λ (z : e < p + (b.k + b.min)). omega arith)
          (λ (z : p + (b.k + b.min) ≤ e). highest_last h e (n.all e z l x))
          (below e (p + (b.k + b.min)));
    }

-- ---- one search, from p to t
-- b leads there where it finds a list
module _ {may : ℕ → ℕ → Bool} {b : Block} {ends p t : ℕ} {found : Bool} {w : List ℕ} (block : b.first + b.k ≤ 32) (low : Low ends 32) (f : Furthest ends (p + (b.k + b.max)) t)
    (a : Answer may b.first b.k p t found w) where
  pub found_leads : p + (b.k + b.min) ≤ t → found ≡ true → Leads may b ends p
  found_leads enough y = let near = f.near in record { place = t; here = f.here; after = omega arith; piece = slice p t w; taken = record { assigned = (a.best y).holds; enough = omega arith; few = omega arith } }

  pub leads_found : found ≡ false → Leads may b ends p → ⊥
  leads_found n l = let x = furthest_assigned block low f l in a.none n x.0 x.1

module _ {may : ℕ → ℕ → Bool} {b : Block} {ends p t : ℕ} {found : Bool} {w : List ℕ} (block : b.first + b.k ≤ 32) (low : Low ends 32) (lead : Leads may b ends p)
    (f : Furthest ends (p + (b.k + b.max)) t) (a : Answer may b.first b.k p t found w) where
  search_found : found ≡ true
  search_found = let x = furthest_assigned block low f lead in answer_complete a x.0 x.1

  pub search_held : Held may b p t w
  search_held =
      let s = lead_order lead f in
      let n = f.near in
      record {
        lone = record { size = a.size; outside = a.outside };
        order = omega arith;
        high = low t f.here;
        taken = record { assigned = (a.best search_found).holds; enough = omega arith; few = omega arith };
      }

  -- it serves every later place and every nearer end
  pub search_covers : {q e : ℕ} {x : List ℕ} → p ≤ q → e ≤ t → Held may b q e x → earlier x w ≡ false
  search_covers {q} {e} {x} l k h =
      let top = low t f.here in
      let g = search_held in
      lone_order g.order top (lone_wider p t l k h.lone) g.lone ((a.best search_found).least (slice p t x) (held_assigned p t block l k top h))

  -- and what begins after its first member comes later
  pub search_past : {head q e : ℕ} {x : List ℕ} → 0 < b.k → FirstMember w p t head → head < q → Held may b q e x → earlier x w ≡ false
  search_past {head} {q} {e} {x} k m l h =
      let g = search_held in
      let top = low t f.here in
      let mem = held_member block g k in
      let hl = m.low in
      let inside : head < t = ⊎_elim
      (λ (z : head < t). z)
      (λ (z : t ≤ head). absurd (mem.3 (m.blank mem.0 mem.1 (let u = mem.2 in omega arith))))
      (below head t) in
      let byte = between_to b.first (b.first + b.k) (get_or w head 0) (held_byte block g head (omega arith) (m.first inside)).2 in
      let sx = h.lone.size in
      let sw = g.lone.size in
      let blank : get_or x head 0 ≡ 255 = lone_before h.lone head (omega arith) l in
      later_not w x (record {
        at = head;
        left = omega arith;
        right = omega arith;
        same = λ i z. ⊎_elim
            (λ (u : i < p). lone_before g.lone i (omega arith) u)
            (λ (u : p ≤ i). m.blank i u z)
            (below i p)
            ∙ sym (lone_before h.lone i (omega arith) (omega arith));
        less = omega arith;
      })

-- ---- the start: from the least place
module _ {may : ℕ → ℕ → Bool} {b : Block} {ends Q p t : ℕ} {found : Bool} {w : List ℕ} (block : b.first + b.k ≤ 32) (k : 0 < b.k) (low : Low ends 32) (least : Lowest 64 Q p) (lead : Leads may b ends p)
    (f : Furthest ends (p + (b.k + b.max)) t) (a : Answer may b.first b.k p t found w) where
  pick_start : {head rest : ℕ} (after : ℕ) → FirstMember w p t head → ((e : ℕ) → bit after e ≡ (leb (p + 1) e && bit Q e)) → ((e : ℕ) → bit rest e ≡ (leb e head && bit after e)) → Picking may b ends Q w t rest
  pick_start {head} {rest} after m is cut = record {
    chosen = record { from = p; to = t; here = least.inside; end = f.here; held = search_held block low lead f a };
    window = omega arith;
    high = low t f.here;
    inside = λ q h. and_right (leb (p + 1) q) (bit Q q) (sym (is q) ∙ and_right (leb q head) (bit after q) (sym (cut q) ∙ h));
    least = λ q e x here end h.
        let pq = lowest_first least q here in
        let few = h.taken.few in
        let o = h.order in
        ⊎_elim
        (λ (z : t < e). ⊎_elim
        (λ (y : head < q). inl (search_past block low lead f a k m y h))
        (λ (y : q ≤ head).
        let d : p < q = ⊎_elim
        (λ (u : p < q). u)
        (λ (u : q ≤ p). let g = f.greatest e end (omega arith) in absurd (omega arith))
        (below p q) in
        inr (cut q ∙ both (leb q head) (bit after q) (le-leb q head y) (is q ∙ both (leb (p + 1) q) (bit Q q) (le-leb (p + 1) q (omega arith)) here), z))
        (below head q))
        (λ (z : e ≤ t). inl (search_covers block low lead f a pq z h))
        (below t e);
  }

  pub tried_start : {head rest : ℕ} (after : ℕ) → FirstMember w p t head → ((e : ℕ) → bit after e ≡ (leb (p + 1) e && bit Q e)) → ((e : ℕ) → bit rest e ≡ (leb e head && bit after e)) → Tried may b ends Q w t rest
  tried_start {head} {rest} after m is cut = record {
    some = λ _. pick_start after m is cut;
    later = λ q h. let z = leb-true (p + 1) q (and_left (leb (p + 1) q) (bit Q q) (sym (is q) ∙ and_right (leb q head) (bit after q) (sym (cut q) ∙ h))) in (p, least.inside, omega arith);
    none = λ z. let long = lead_order lead f in absurd (omega arith);
  }

-- there is none
pub tried_none : {may : ℕ → ℕ → Bool} {b : Block} {ends Q p : ℕ} {g : List ℕ} → bit Q p ≡ true → (Leads may b ends p → ⊥) → Tried may b ends Q g 0 0
tried_none {may} {b} {ends} {Q} {p} here never = record { some = λ z. absurd (omega arith); later = λ q h. absurd (clash h (bit_none q)); none = λ _. (p, here, never) }

-- where b leads on from each place, the search finds a list
pub tried_leading : {may : ℕ → ℕ → Bool} {b : Block} {ends Q to rest : ℕ} {g : List ℕ} → Leading may b ends Q → Tried may b ends Q g to rest → Picking may b ends Q g to rest
tried_leading {may} {b} {ends} {Q} {to} l t = ⊎_elim
    (λ (z : 0 < to). t.some z)
    (λ (z : to ≤ 0). let n = t.none (omega arith) in absurd (n.2 (l.each n.0 n.1)))
    (below 0 to)

-- and where there is one place only, no place is left
pub tried_one : {may : ℕ → ℕ → Bool} {b : Block} {ends Q to rest : ℕ} {g : List ℕ} → ((q : ℕ) → bit Q q ≡ true → q ≡ 0) → Tried may b ends Q g to rest → 0 < to → Picking may b ends Q g to 0
tried_one {may} {b} {ends} {Q} {to} {rest} {g} only t some =
    let p = t.some some in
    record {
      chosen = p.chosen;
      window = p.window;
      high = p.high;
      inside = λ q h. absurd (clash h (bit_none q));
      least = λ q e x here end h. ⊎_elim
          (λ (z : earlier x g ≡ false). inl z)
          (λ (z : (bit rest q ≡ true) × (to < e)). let y = t.later q z.0 in let u = y.2 in let o = only q here in absurd (omega arith))
          (p.least q e x here end h);
    }

pub picked_leads : {may : ℕ → ℕ → Bool} {b : Block} {ends Q to rest : ℕ} {g : List ℕ} → ((q : ℕ) → bit Q q ≡ true → q ≡ 0) → Picking may b ends Q g to rest → Leads may b ends 0
picked_leads {may} {b} {ends} {Q} {to} {rest} {g} only p =
    let c = p.chosen in
    subst (λ (q : ℕ). Leads may b ends q) (only c.from c.here) (record { place = c.to; here = c.end; after = c.held.order; piece = slice c.from c.to g; taken = c.held.taken })

-- ---- one place more
module _ {may : ℕ → ℕ → Bool} {b : Block} {ends Q to rest p t : ℕ} {g : List ℕ} (s : Picking may b ends Q g to rest) (least : Lowest 64 rest p) (f : Furthest ends (p + (b.k + b.max)) t) where
  -- what is left begins later
  left_later : {q e : ℕ} {x : List ℕ} → bit ends e ≡ true → Held may b q e x → bit rest q ≡ true → t < e → p < q
  left_later {q} {e} end h here l =
      let pq = lowest_first least q here in
      let few = h.taken.few in
      let o = h.order in
      ⊎_elim
      (λ (u : p < q). u)
      (λ (u : q ≤ p). let z = f.greatest e end (omega arith) in absurd (omega arith))
      (below p q)

  pub pick_skip : {next : ℕ} → t ≤ to → ((e : ℕ) → bit next e ≡ (leb (p + 1) e && bit rest e)) → Picking may b ends Q g to next
  pick_skip {next} l is = record {
    chosen = s.chosen;
    window = s.window;
    high = s.high;
    inside = λ q h. s.inside q (and_right (leb (p + 1) q) (bit rest q) (sym (is q) ∙ h));
    least = λ q e x here end h. ⊎_elim
        (λ (z : earlier x g ≡ false). inl z)
        (λ (z : (bit rest q ≡ true) × (to < e)).
        let d = left_later end h z.0 (let u = z.1 in omega arith) in
        inr (is q ∙ both (leb (p + 1) q) (bit rest q) (le-leb (p + 1) q (omega arith)) z.0, z.1))
        (s.least q e x here end h);
  }

  module _ {found : Bool} {w : List ℕ} (block : b.first + b.k ≤ 32) (k : 0 < b.k) (low : Low ends 32) (lead : Leads may b ends p) (a : Answer may b.first b.k p t found w) (wider : to < t) where
    pub pick_keep : {next : ℕ} → earlier w g ≡ false → ((e : ℕ) → bit next e ≡ (leb (p + 1) e && bit rest e)) → Picking may b ends Q g t next
    pick_keep {next} no_sooner is = record {
      chosen = s.chosen;
      window = let z = s.window in omega arith;
      high = low t f.here;
      inside = λ q h. s.inside q (and_right (leb (p + 1) q) (bit rest q) (sym (is q) ∙ h));
      least = λ q e x here end h. ⊎_elim
          (λ (z : earlier x g ≡ false). inl z)
          (λ (z : (bit rest q ≡ true) × (to < e)). ⊎_elim
          (λ (y : t < e).
          let d = left_later end h z.0 y in
          inr (is q ∙ both (leb (p + 1) q) (bit rest q) (le-leb (p + 1) q (omega arith)) z.0, y))
          (λ (y : e ≤ t). inl (earlier_not_transitive g w x no_sooner (search_covers block low lead f a (lowest_first least q z.0) y h)))
          (below t e))
          (s.least q e x here end h);
    }

    pub pick_change : {head next : ℕ} (after : ℕ) → earlier w g ≡ true → FirstMember w p t head → ((e : ℕ) → bit after e ≡ (leb (p + 1) e && bit rest e)) → ((e : ℕ) → bit next e ≡ (leb e head && bit after e))
        → Picking may b ends Q w t next
    pick_change {head} {next} after sooner m is cut = record {
      chosen = record { from = p; to = t; here = s.inside p least.inside; end = f.here; held = search_held block low lead f a };
      window = omega arith;
      high = low t f.here;
      inside = λ q h. s.inside q (and_right (leb (p + 1) q) (bit rest q) (sym (is q) ∙ and_right (leb q head) (bit after q) (sym (cut q) ∙ h)));
      least = λ q e x here end h. ⊎_elim
          (λ (z : earlier x g ≡ false). inl (earlier_not_transitive w g x (earlier_asymmetric w g sooner) z))
          (λ (z : (bit rest q ≡ true) × (to < e)). ⊎_elim
          (λ (y : t < e). ⊎_elim
          (λ (u : head < q). inl (search_past block low lead f a k m u h))
          (λ (u : q ≤ head).
          let d = left_later end h z.0 y in
          inr (cut q ∙ both (leb q head) (bit after q) (le-leb q head u) (is q ∙ both (leb (p + 1) q) (bit rest q) (le-leb (p + 1) q (omega arith)) z.0), y))
          (below head q))
          (λ (y : e ≤ t). inl (search_covers block low lead f a (lowest_first least q z.0) y h))
          (below t e))
          (s.least q e x here end h);
    }

-- fewer places are left
pub rest_fewer : {rest p : ℕ} (next : ℕ) → Lowest 64 rest p → ((e : ℕ) → bit next e ≡ true → (p < e) × (bit rest e ≡ true)) → count (bit next) 64 < count (bit rest) 64
rest_fewer {rest} {p} next g up =
    count_less {P = bit next} {S = bit rest} (λ e h. (up e h).1) p (not_so (bit next p) (λ h. let z = (up p h).0 in omega arith)) g.inside 64 g.low
