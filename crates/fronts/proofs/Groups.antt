-- A group is settled by the first of its lists, g: a list that differs from g first has the greater byte there, and at a place before its own end, since g has no member twice; and one
-- that is g ends at one of the places that g leads to. Assumes nothing.
use mathlib.Core.Path.{◌≡◌, sym, ap, ◌∙◌, subst}
use mathlib.Core.Logic.{◌⊎◌, inl, inr, ⊎_elim}
use mathlib.Core.Bool.{Bool, true, false}
use mathlib.Core.List.{List, ◌++◌}
use Prim.Native.Nat.{ℕ, ◌+◌, ◌-◌, ◌≤◌, ◌<◌}
use native.Mathlib.Omega.{arith}
use lib.ListN.{get_or, replicate}
use lib.Seq.{slice, length-slice}
use Rattle.masks.specs.Masks.{bit}
use Rattle.facts.proofs.Cases.{below, clash, holds?}
use Rattle.facts.proofs.Counting.{cnt_place, cnt_two}
use Rattle.facts.proofs.Spans.{between_in, between_from, between_to}
use Rattle.facts.proofs.Slices.{slice_at, cnt_slice}
use Rattle.byte_order.specs.ByteOrder.{earlier}
use Rattle.byte_order.proofs.ByteOrder.{earlier_total}
use Rattle.blocks.specs.declared.Block.{Block}
use Rattle.places.specs.Ways.{Low}
use Rattle.places.specs.Bytes.{Lone, Held, AfterLast}
use Rattle.places.proofs.Blanks.{slice_tail, slice_front}
use Rattle.places.proofs.Windows.{lone_inside, lone_wider, lone_before, lone_after, placed, placed_from, held_placed, held_wider}
use Rattle.fronts.specs.Fronts.{Later, Pieced, Reached, Step}
use Rattle.fronts.specs.Picks.{FirstMember, Chosen}
use Rattle.fronts.proofs.Orders.{earlier_where}
use Rattle.fronts.proofs.Picked.{held_byte, held_le, held_member}

-- the place e is an end to which b leads from one of the places Q up to `head`, and none before `next`
pub record Onto (b : Block) (ends Q head next e : ℕ) : Type 0 where
  pub place : ℕ
  pub here : bit Q place ≡ true
  pub early : place ≤ head
  pub near : place + (b.k + b.min) ≤ e
  pub far : e ≤ place + (b.k + b.max)
  pub after : next ≤ e
  pub good : bit ends e ≡ true

pub record Nexts (b : Block) (ends Q head next places : ℕ) : Type 0 where
  pub some : (e : ℕ) → bit places e ≡ true → Onto b ends Q head next e
  pub all : (e : ℕ) → Onto b ends Q head next e → bit places e ≡ true

-- two lists of which neither comes before the other are one; where they differ, the first place tells
module _ {may : ℕ → ℕ → Bool} {b : Block} {from to q e : ℕ} {g x : List ℕ} (block : b.first + b.k ≤ 32) (h : Held may b from to g) (k : Held may b q e x) where
  -- the place where g has the smaller byte is before the end of x
  pub differ_inside : (l : Later g x) → (get_or g l.at 0 ≡ 255 → ⊥) × (l.at < e)
  differ_inside l =
      let sg = h.lone.size in
      let sx = k.lone.size in
      let i = l.at in
      let left = l.left in
      let less = l.less in
      let top = held_le block k i (omega arith) in
      let n : get_or g i 0 ≡ 255 → ⊥ = λ z. omega arith in (
        n,
        ⊎_elim
            (λ (y : i < e). y)
            (λ (y : e ≤ i). absurd (twice i (omega arith) y n l.same))
            (below i e),
      )
    where
      twice : (i : ℕ) → i < 32 → e ≤ i → (get_or g i 0 ≡ 255 → ⊥) → ((j : ℕ) → j < i → get_or g j 0 ≡ get_or x j 0) → ⊥
      twice i il y n same =
          let sg = h.lone.size in
          let sx = k.lone.size in
          let hi = h.high in
          let ki = k.high in
          let ho = h.order in
          let m = get_or g i 0 in
          let byte = (held_byte block h i il n).2 in
          let mf = between_from b.first (b.first + b.k) m byte in
          let mt = between_to b.first (b.first + b.k) m byte in
          let once = k.taken.assigned.once m mf mt in
          let long = length-slice q e x (omega arith) in
          let s = cnt_place m (slice q e x) (omega arith) in
          let se = s.early in
          let j = q + s.place in
          let here : get_or x j 0 ≡ m = sym (slice_at q e x s.place (omega arith)) ∙ s.here in
          let both_here : get_or g j 0 ≡ get_or g i 0 = same j (omega arith) ∙ here in
          let two = cnt_two g j i (omega arith) (omega arith) both_here in
          let one = h.taken.assigned.once m mf mt in
          let all = cnt_slice m from to g ho (omega arith) (λ d dl o z. let blank = h.lone.outside d (omega arith) o in omega arith) in
          omega arith

module _ {may : ℕ → ℕ → Bool} {b : Block} {ends Q l : ℕ} {g : List ℕ} {to head next places : ℕ} (block : b.first + b.k ≤ 32) (some : 0 < b.k) (low : Low ends 32)
    (after : (q : ℕ) → bit Q q ≡ true → l ≤ q) (c : Chosen may b ends Q g) (window : c.to ≤ to) (high : to ≤ 32)
    (least : (q e : ℕ) (x : List ℕ) → bit Q q ≡ true → bit ends e ≡ true → Held may b q e x → earlier x g ≡ false)
    (first : FirstMember g l to head) (last : AfterLast g head to next) (nexts : Nexts b ends Q head next places) where
  -- the first and the last member
  group_members : (head < next) × (next ≤ to) × (get_or g head 0 ≡ 255 → ⊥) × (get_or g (next - 1) 0 ≡ 255 → ⊥)
  group_members =
      let m = held_member block c.held some in
      let i = m.0 in
      let mf = m.1 in
      let mt = m.2 in
      let lf = after c.from c.here in
      let hi : head ≤ i = ⊎_elim (λ (z : i < head). absurd (m.3 (first.blank i (omega arith) z))) (λ (z : head ≤ i). z) (below i head) in
      let ni : i < next = ⊎_elim (λ (z : i < next). z) (λ (z : next ≤ i). absurd (m.3 (last.blank i z (omega arith)))) (below i next) in
      (omega arith, last.high, first.first (omega arith), last.last (omega arith))

  group_lone : Lone head next g
  group_lone = record {
    size = c.held.lone.size;
    outside = λ i h o.
        let lf = after c.from c.here in
        ⊎_elim
        (λ (z : i < head). ⊎_elim
        (λ (y : i < l). lone_before c.held.lone i h (omega arith))
        (λ (y : l ≤ i). first.blank i y z)
        (below i l))
        (λ (z : head ≤ i). ⊎_elim
        (λ (y : i < next). absurd (clash (between_in head next i z y) o))
        (λ (y : next ≤ i). ⊎_elim (λ (u : i < to). last.blank i y u) (λ (u : to ≤ i). lone_after c.held.lone i h (omega arith)) (below i to))
        (below i next))
        (below i head);
  }

  onto_held : (e : ℕ) → (o : Onto b ends Q head next e) → Held may b o.place e g
  onto_held e o =
      let m = group_members in
      let hn = m.0 in
      let early = o.early in
      let on = o.after in
      let h = c.held in
      held_wider o.place e block h.order h.high (omega arith) (low e o.good) h.lone (lone_wider o.place e early on group_lone) h.taken.assigned o.near o.far

  -- g up to the place e, in two ways
  group_whole : (e : ℕ) → next ≤ e → e ≤ 32 → slice l e g ≡ slice l next g ++ replicate (e - next) 255
  group_whole e n h =
      let m = group_members in
      let hn = m.0 in
      let fl = first.low in
      let size = c.held.lone.size in
      slice_tail l next e g (omega arith) n (omega arith) (λ i a z. lone_after group_lone i (omega arith) a)

  group_made : (e : ℕ) → bit places e ≡ true → Pieced may b Q l e (slice l next g ++ replicate (e - next) 255)
  group_made e h =
      let o = nexts.some e h in
      let k = onto_held e o in
      let top = k.high in
      let order = k.order in
      let early = o.early in
      let size = c.held.lone.size in
      record {
        place = o.place;
        here = o.here;
        inside = k.order;
        piece = slice o.place e g;
        taken = k.taken;
        whole = sym (group_whole e o.after top) ∙ slice_front l o.place e g (after o.place o.here) order (omega arith) (λ i a z. lone_before group_lone i (omega arith) (omega arith));
      }

  -- a list that differs from g
  group_later : (e : ℕ) (x : List ℕ) (q : ℕ) → bit Q q ≡ true → Held may b q e x → Later g x → Later (slice l next g) (slice l e x)
  group_later e x q here k d =
      let inside = differ_inside block c.held k d in
      let sg = c.held.lone.size in
      let sx = k.lone.size in
      let top = k.high in
      let m = group_members in
      let nt = m.1 in
      let i = d.at in
      let il = d.left in
      let at = lone_inside group_lone i (omega arith) inside.0 in
      let fl = first.low in
      let lh = at.0 in
      let ln = at.1 in
      let ie = inside.1 in
      let ng = length-slice l next g (omega arith) in
      let nx = length-slice l e x (omega arith) in
      record {
        at = i - l;
        left = omega arith;
        right = omega arith;
        same = λ j z. slice_at l next g j (omega arith) ∙ d.same (l + j) (omega arith) ∙ sym (slice_at l e x j (omega arith));
        less =
            let a = slice_at l next g (i - l) (omega arith) in
            let b = slice_at l e x (i - l) (omega arith) in
            let back : l + (i - l) ≡ i = omega arith in
            let u : get_or g (l + (i - l)) 0 ≡ get_or g i 0 = ap (λ (z : ℕ). get_or g z 0) back in
            let v : get_or x (l + (i - l)) 0 ≡ get_or x i 0 = ap (λ (z : ℕ). get_or x z 0) back in
            let w = d.less in
            omega arith;
      }

  -- a list that is g
  group_same : (e : ℕ) (x : List ℕ) (q : ℕ) → bit Q q ≡ true → bit ends e ≡ true → Held may b q e x → x ≡ g → Reached (slice l next g) places next e (slice l e x)
  group_same e x q here good k is =
      let m = group_members in
      let hn = m.0 in
      let nt = m.1 in
      let lone : Lone q e g = subst (λ (z : List ℕ). Lone q e z) is k.lone in
      let size = lone.size in
      let a = lone_inside lone head (omega arith) m.2 in
      let z = lone_inside lone (next - 1) (omega arith) m.3 in
      let start = a.0 in
      let end = z.1 in
      let t = k.taken in
      let enough = t.enough in
      let few = t.few in
      let order = k.order in
      record {
        after = omega arith;
        here = nexts.all e (record { place = q; here = here; early = start; near = omega arith; far = omega arith; after = omega arith; good = good });
        same = ap (λ (w : List ℕ). slice l e w) is ∙ group_whole e (omega arith) k.high;
      }

  group_least : (e : ℕ) (v : List ℕ) → bit ends e ≡ true → Pieced may b Q l e v → Later (slice l next g) v ⊎ Reached (slice l next g) places next e v
  group_least e v good p =
      let q = p.place in
      let x = placed q p.piece in
      let top = low e good in
      let k = held_placed p.inside top p.taken in
      let is : v ≡ slice l e x = p.whole ∙ sym (placed_from q e p.piece p.taken.assigned.size p.inside top l (after q p.here)) in
      let no_sooner = least q e x p.here good k in
      ⊎_elim
      (λ (z : earlier g x ≡ true).
      inl (subst (λ (w : List ℕ). Later (slice l next g) w) (sym is) (group_later e x q p.here k (earlier_where g x (c.held.lone.size ∙ sym k.lone.size) z))))
      (λ (z : earlier g x ≡ false).
      inr (subst (λ (w : List ℕ). Reached (slice l next g) places next e w) (sym is) (group_same e x q p.here good k (earlier_total x g no_sooner z))))
      (holds? (earlier g x))

  pub group_step : Step may b ends Q l (slice l next g) places next
  group_step =
      let m = group_members in
      let hn = m.0 in
      let nt = m.1 in
      let fl = first.low in
      let size = c.held.lone.size in
      let ch = c.held.high in
      let first_in = lone_inside c.held.lone head (omega arith) m.2 in
      let last_in = lone_inside c.held.lone (next - 1) (omega arith) m.3 in
      let f0 = first_in.0 in
      let l1 = last_in.1 in
      let t = c.held.taken in
      let enough = t.enough in
      let few = t.few in
      let order = c.held.order in
      record {
        size = length-slice l next g (omega arith);
        order = omega arith;
        one = c.to;
        here = nexts.all c.to (record { place = c.from; here = c.here; early = f0; near = omega arith; far = omega arith; after = omega arith; good = c.end });
        after = λ e h. (nexts.some e h).after;
        good = λ e h. (nexts.some e h).good;
        made = group_made;
        least = group_least;
      }
