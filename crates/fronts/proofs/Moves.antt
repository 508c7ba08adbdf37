-- One block more, as the functions do it: a block with no members, one member, a group; and relations that agree. Assumes nothing.
use mathlib.Core.Path.{◌≡◌, sym, ap, ap₂, ◌∙◌, subst}
use mathlib.Core.Logic.{inr, ⊎_elim}
use mathlib.Core.Bool.{Bool, true, false, ◌&&◌}
use mathlib.Core.List.{List, [], ◌∷◌, ◌++◌, append-nil}
use Prim.Native.Nat.{ℕ, ◌+◌, ◌-◌, ◌≤◌, ◌<◌}
use native.Mathlib.Omega.{arith}
use lib.Dec.{leb}
use lib.ListN.{length, get_or, set, take, replicate, length-append, length-take, length-set, replicate-append-replicate, get_or-append}
use lib.Seq.{slice, length-slice, get_or-take, get_or-append-add, get_or-set_same, get_or-set_other, ext_get_or}
use borrow.Author.Tests.{le-leb, leb-true}
use Rattle.masks.specs.Masks.{bit, Plus, Lowest}
use Rattle.masks.proofs.Masks.{bit_none, lowest_first}
use Rattle.facts.proofs.Cases.{same?, below, clash, and_left, and_right, both}
use Rattle.facts.proofs.Slices.{slice_at}
use Rattle.byte_order.specs.ByteOrder.{earlier}
use Rattle.byte_order.proofs.ByteOrder.{earlier_irreflexive}
use Rattle.place_masks.specs.Places.{Behind, After}
use Rattle.blocks.specs.declared.Block.{Block}
use Rattle.blocks.specs.Pieces.{Takes, is_one}
use Rattle.assign.specs.Splice.{Spliced}
use Rattle.places.specs.Ways.{Low, Agrees}
use Rattle.places.specs.Bytes.{Lone, Held, AfterLast}
use Rattle.places.proofs.Backward.{agrees_turn, takes_agree, leads_agree}
use Rattle.blocks.proofs.SpareBlocks.{spares_taken, spares_only}
use Rattle.blocks.proofs.OneMember.{one_parts, one_taken, taken_one}
use Rattle.places.proofs.Windows.{lone_before, lone_order, placed, placed_slice, held_placed}
use Rattle.fronts.specs.Fronts.{Step, Leading, Standing, Moved}
use Rattle.fronts.specs.Picks.{FirstMember, Chosen, Picking}
use Rattle.fronts.proofs.Orders.{later_not}
use Rattle.fronts.proofs.Groups.{Nexts, group_step}

-- ---- two relations that agree on the block's members
module _ {may may' : ℕ → ℕ → Bool} {b : Block} {n ends : ℕ} (a : Agrees may may' b n) (low : Low ends n) where
  pub leading_agree : {Q : ℕ} → Leading may b ends Q → Leading may' b ends Q
  leading_agree l = record { one = l.one; here = l.here; each = λ q h. leads_agree a low (l.each q h) }

  pub moved_agree : {Q l : ℕ} {w : List ℕ} {next l' : ℕ} {w' : List ℕ} → Moved may b ends Q l w next l' w' → Moved may' b ends Q l w next l' w'
  moved_agree {Q} {l} {w} {next} {l'} {w'} m =
      let s = m.step in
      record {
        added = m.added;
        step = record {
          size = s.size;
          order = s.order;
          one = s.one;
          here = s.here;
          after = s.after;
          good = s.good;
          made = λ e h. let p = s.made e h in record { place = p.place; here = p.here; inside = p.inside; piece = p.piece; taken = takes_agree a (low e (s.good e h)) p.taken; whole = p.whole };
          least = λ e x h p. s.least e x h (record { place = p.place; here = p.here; inside = p.inside; piece = p.piece; taken = takes_agree (agrees_turn a) (low e h) p.taken; whole = p.whole });
        };
        standing = m.standing;
        whole = m.whole;
      }

-- ---- a block with no members
-- every piece is 255 throughout
module _ {may : ℕ → ℕ → Bool} {b : Block} {ends Q l : ℕ} (next spread : ℕ) (z : b.k ≡ 0) (low : Low ends 32) (lead : Leading may b ends Q) (after : (q : ℕ) → bit Q q ≡ true → l ≤ q)
    (s : After Q b.min b.max spread) (is : (e : ℕ) → bit next e ≡ (bit spread e && bit ends e)) where
  star_behind : (e : ℕ) → bit next e ≡ true → Behind Q b.min b.max e
  star_behind e h = s.some e (and_left (bit spread e) (bit ends e) (sym (is e) ∙ h))

  star_good : (e : ℕ) → bit next e ≡ true → bit ends e ≡ true
  star_good e h = and_right (bit spread e) (bit ends e) (sym (is e) ∙ h)

  star_here_lem : (q e : ℕ) (v : List ℕ) → bit Q q ≡ true → q ≤ e → bit ends e ≡ true → Takes may b q e v → bit next e ≡ true
  star_here_lem q e v h o g t =
      let enough = t.enough in
      let few = t.few in
      let top = low e g in
      is e ∙ both (bit spread e) (bit ends e) (s.all e (omega arith) (record { place = q; here = h; near = omega arith; far = omega arith })) g

  gaps : (q e : ℕ) → l ≤ q → q ≤ e → replicate {A = ℕ} (q - l) 255 ++ replicate (e - q) 255 ≡ replicate (e - l) 255
  gaps q e a o = let sum : (q - l) + (e - q) ≡ e - l = omega arith in replicate-append-replicate (q - l) (e - q) 255 ∙ ap (λ (k : ℕ). replicate {A = ℕ} k 255) sum

  star_step : Step may b ends Q l [] next l
  star_step =
      let one = lead.each lead.one lead.here in
      record {
        size = omega arith;
        order = omega arith;
        one = one.place;
        here = star_here_lem lead.one one.place one.piece lead.here one.after one.here one.taken;
        after = λ e h. let d = star_behind e h in let x = after d.place d.here in let y = d.near in omega arith;
        good = star_good;
        made = λ e h.
            let d = star_behind e h in
            let near = d.near in
            let order : d.place ≤ e = omega arith in
            record {
              place = d.place;
              here = d.here;
              inside = order;
              piece = replicate (e - d.place) 255;
              taken = spares_taken may b d.place e z order d.near d.far;
              whole = sym (gaps d.place e (after d.place d.here) order);
            };
        least = λ e x g p.
            let aq = after p.place p.here in
            let o = p.inside in
            inr (record {
              after = omega arith;
              here = star_here_lem p.place e p.piece p.here p.inside g p.taken;
              same = p.whole ∙ ap (λ (v : List ℕ). replicate (p.place - l) 255 ++ v) (spares_only z p.taken) ∙ gaps p.place e aq o;
            });
      }

  pub star_moved : {w : List ℕ} → Standing Q l w → Moved may b ends Q l w next l w
  star_moved {w} t =
      let m = star_step in
      record { added = []; step = m; standing = record { size = t.size; blank = t.blank; after = m.after }; whole = sym (append-nil (take l w)) }

-- ---- the settled bytes and those of g
taken_joins : (l n : ℕ) (w g w' : List ℕ) → length w ≡ 32 → length g ≡ 32 → length w' ≡ 32 → l ≤ n → n ≤ 32 → ((i : ℕ) → i < l → get_or w' i 0 ≡ get_or w i 0) → ((i : ℕ) → l ≤ i → i < n → get_or w' i 0 ≡ get_or g i 0)
    → take n w' ≡ take l w ++ slice l n g
taken_joins l n w g w' lw lg lw' o h before inside =
    let a = length-take n w' in
    let b = length-take l w in
    let c = length-slice l n g (omega arith) in
    let d = length-append (take l w) (slice l n g) in
    ext_get_or 0 (take n w') (take l w ++ slice l n g) (omega arith) (λ i z. get_or-take n w' i 0 (omega arith) ∙ ⊎_elim
    (λ (y : i < l). before i y ∙ sym (get_or-append (take l w) (slice l n g) 0 i (omega arith) ∙ get_or-take l w i 0 y))
    (λ (y : l ≤ i).
    let j = i - l in
    let q : i ≡ length (take l w) + j = omega arith in
    let p : l + j ≡ i = omega arith in
    inside i y (omega arith) ∙ sym (ap (λ (k : ℕ). get_or (take l w ++ slice l n g) k 0) q ∙ get_or-append-add (take l w) (slice l n g) j 0 ∙ slice_at l n g j (omega arith) ∙ ap (λ (k : ℕ). get_or g k 0) p))
    (below i l))

-- ---- a group
module _ {may : ℕ → ℕ → Bool} {b : Block} {ends Q l to head next places : ℕ} {w g : List ℕ} (block : b.first + b.k ≤ 32) (some : 0 < b.k) (low : Low ends 32) (t : Standing Q l w)
    (p : Picking may b ends Q g to 0) (first : FirstMember g l to head) (last : AfterLast g head to next) (nexts : Nexts b ends Q head next places) where
  settled : (q e : ℕ) (x : List ℕ) → bit Q q ≡ true → bit ends e ≡ true → Held may b q e x → earlier x g ≡ false
  settled q e x h k y = ⊎_elim (λ (z : earlier x g ≡ false). z) (λ (z : (bit 0 q ≡ true) × (to < e)). absurd (clash z.0 (bit_none q))) (p.least q e x h k y)

  pub group_moved : {w' : List ℕ} → Spliced g w l next w' → Moved may b ends Q l w places next w'
  group_moved {w'} s =
      let m = group_step block some low t.after p.chosen p.window p.high settled first last nexts in
      let lw = t.size in
      let lg = p.chosen.held.lone.size in
      let lw' = s.size in
      let fl = first.low in
      let ll = last.low in
      let lh = last.high in
      let ph = p.high in
      record {
        added = slice l next g;
        step = m;
        standing = record { size = lw'; blank = λ i y z. s.after i y ∙ t.blank i (omega arith) z; after = m.after };
        whole = taken_joins l next w g w' lw lg lw' (omega arith) (omega arith) s.before s.inside;
      }

pub picked_order : {may : ℕ → ℕ → Bool} {b : Block} {ends Q l to rest : ℕ} {w g : List ℕ} → Standing Q l w → Picking may b ends Q g to rest → l ≤ to
picked_order t p =
    let c = p.chosen in
    let a = t.after c.from c.here in
    let o = c.held.order in
    let z = p.window in
    omega arith

pub picked_all : {may : ℕ → ℕ → Bool} {b : Block} {ends Q to rest : ℕ} {g : List ℕ} → rest ≡ 0 → Picking may b ends Q g to rest → Picking may b ends Q g to 0
picked_all {may} {b} {ends} {Q} {to} {rest} {g} z p = subst (λ (r : ℕ). Picking may b ends Q g to r) z p

-- what a group leads to
pub nexts_are : {b : Block} {ends Q head next places : ℕ} (near spread kept : ℕ) → Low ends 32 → ((e : ℕ) → bit near e ≡ (leb e head && bit Q e)) → After near (b.k + b.min) (b.k + b.max) spread
    → ((e : ℕ) → bit kept e ≡ (leb next e && bit ends e)) → ((e : ℕ) → bit places e ≡ (bit spread e && bit kept e)) → Nexts b ends Q head next places
nexts_are {b} {ends} {Q} {head} {next} {places} near spread kept low cut s from is = record {
  some = λ e h.
      let x = sym (is e) ∙ h in
      let d = s.some e (and_left (bit spread e) (bit kept e) x) in
      let y = sym (from e) ∙ and_right (bit spread e) (bit kept e) x in
      let z = sym (cut d.place) ∙ d.here in
      record {
        place = d.place;
        here = and_right (leb d.place head) (bit Q d.place) z;
        early = leb-true d.place head (and_left (leb d.place head) (bit Q d.place) z);
        near = d.near;
        far = d.far;
        after = leb-true next e (and_left (leb next e) (bit ends e) y);
        good = and_right (leb next e) (bit ends e) y;
      };
  all = λ e o.
      let top = low e o.good in
      is e ∙ both (bit spread e) (bit kept e)
      (s.all e (omega arith) (record { place = o.place; here = cut o.place ∙ both (leb o.place head) (bit Q o.place) (le-leb o.place head o.early) o.here; near = o.near; far = o.far }))
      (from e ∙ both (leb next e) (bit ends e) (le-leb next e o.after) o.good);
}

-- ---- one member and no spare element
module _ {may : ℕ → ℕ → Bool} {b : Block} {ends Q l q : ℕ} {w : List ℕ} (places : ℕ) (one : is_one b ≡ true) (block : b.first + b.k ≤ 32) (low : Low ends 32) (lead : Leading may b ends Q) (t : Standing Q l w)
    (least : Lowest 64 Q q) (only : Plus (bit 0) (q + 1) (bit places)) where
  abbrev g : List ℕ
  g = placed q (b.first ∷ [])

  one_fits : (b.first < 32) × (q + 1 ≤ 32) × (bit ends (q + 1) ≡ true) × Takes may b q (q + 1) (b.first ∷ [])
  one_fits =
      let k = (one_parts b one).0 in
      let x = lead.each q least.inside in
      let small : b.first < 32 = omega arith in
      let y = taken_one x.piece one small x.after x.taken in
      let end : bit ends (q + 1) ≡ true = subst (λ (z : ℕ). bit ends z ≡ true) y.0 x.here in
      (small, low (q + 1) end, end, one_taken may b q one y.2)

  one_held : Held may b q (q + 1) g
  one_held = let f = one_fits in held_placed (omega arith) f.1 f.3

  one_byte : get_or g q 0 ≡ b.first
  one_byte =
      let f = one_fits in
      let high = f.1 in
      let size = one_held.lone.size in
      let s = placed_slice q (q + 1) (b.first ∷ []) f.3.assigned.size (omega arith) high in
      let at = slice_at q (q + 1) g 0 (omega arith) in
      let same : q + 0 ≡ q = omega arith in
      sym (ap (λ (z : ℕ). get_or g z 0) same) ∙ sym at ∙ ap (λ (z : List ℕ). get_or z 0 0) s

  one_first : (p e : ℕ) (x : List ℕ) → bit Q p ≡ true → bit ends e ≡ true → Held may b p e x → earlier x g ≡ false
  one_first p e x h good k =
      let f = one_fits in
      let small = f.0 in
      let high = f.1 in
      let held = one_held in
      let byte = one_byte in
      let pq = lowest_first least p h in
      let sx = k.lone.size in
      let sg = held.lone.size in
      ⊎_elim
      (λ (z : q < p).
      let blank = lone_before k.lone q (omega arith) z in
      later_not g x (record { at = q; left = omega arith; right = omega arith; same = λ i y. lone_before held.lone i (omega arith) y ∙ sym (lone_before k.lone i (omega arith) (omega arith)); less = omega arith }))
      (λ (z : p ≤ q).
      let same : p ≡ q = omega arith in
      let y = taken_one (slice p e x) one small k.order k.taken in
      let end : e ≡ q + 1 = y.0 ∙ ap (λ (d : ℕ). d + 1) same in
      let lone : Lone q (q + 1) x = subst (λ (d : ℕ). Lone q d x) end (subst (λ (d : ℕ). Lone d e x) same k.lone) in
      let is : slice q (q + 1) x ≡ b.first ∷ [] = sym (ap₂ (λ (c d : ℕ). slice c d x) same end) ∙ y.1 in
      let gs = placed_slice q (q + 1) (b.first ∷ []) f.3.assigned.size (omega arith) high in
      lone_order (omega arith) high lone held.lone (ap₂ (λ u v. earlier u v) is gs ∙ earlier_irreflexive (b.first ∷ [])))
      (below q p)

  one_nexts : Nexts b ends Q q (q + 1) places
  one_nexts =
      let z = one_parts b one in
      let k = z.0 in
      let mn = z.1 in
      let mx = z.2 in
      record {
        some = λ e h.
            let is : e ≡ q + 1 = ⊎_elim (λ (y : e ≡ q + 1). y) (λ (y : e ≡ q + 1 → ⊥). absurd (clash h (only.other e y ∙ bit_none e))) (same? e (q + 1)) in
            record { place = q; here = least.inside; early = omega arith; near = omega arith; far = omega arith; after = omega arith; good = subst (λ (d : ℕ). bit ends d ≡ true) (sym is) one_fits.2 };
        all = λ e o.
            let pq = lowest_first least o.place o.here in
            let early = o.early in
            let near = o.near in
            let far = o.far in
            subst (λ (d : ℕ). bit places d ≡ true) (let y : q + 1 ≡ e = omega arith in y) only.self;
      }

  pub one_moved : Moved may b ends Q l w places (q + 1) (set w q b.first)
  one_moved =
      let k = (one_parts b one).0 in
      let f = one_fits in
      let small = f.0 in
      let high = f.1 in
      let held = one_held in
      let byte = one_byte in
      let lq = t.after q least.inside in
      let lw = t.size in
      let sg = held.lone.size in
      let lw' : length (set w q b.first) ≡ 32 = length-set w q b.first ∙ lw in
      let c : Chosen may b ends Q g = record { from = q; to = q + 1; here = least.inside; end = f.2; held = held } in
      let first : FirstMember g l (q + 1) q = record { low = lq; high = omega arith; blank = λ i y z. lone_before held.lone i (omega arith) z; first = λ _ y. omega arith } in
      let same : q + 1 - 1 ≡ q = omega arith in
      let last : AfterLast g q (q + 1) (q + 1) = record {
        low = omega arith;
        high = omega arith;
        blank = λ i y z. absurd (omega arith);
        last = λ _ y. let x : get_or g q 0 ≡ 255 = sym (ap (λ (d : ℕ). get_or g d 0) same) ∙ y in omega arith;
      } in
      let m = group_step block (omega arith) low t.after c (omega arith) high one_first first last one_nexts in
      record {
        added = slice l (q + 1) g;
        step = m;
        standing = record { size = lw'; blank = λ i y z. get_or-set_other w q i b.first 0 (λ d. omega arith) ∙ t.blank i (omega arith) z; after = m.after };
        whole = taken_joins l (q + 1) w g (set w q b.first) lw sg lw' (omega arith) high
            (λ i y. get_or-set_other w q i b.first 0 (λ d. omega arith))
            (λ i y z. ⊎_elim
            (λ (d : i ≡ q). ap (λ (j : ℕ). get_or (set w q b.first) j 0) d ∙ get_or-set_same w q b.first 0 (omega arith) ∙ sym (ap (λ (j : ℕ). get_or g j 0) d ∙ byte))
            (λ (d : i ≡ q → ⊥). get_or-set_other w q i b.first 0 d ∙ t.blank i y (omega arith) ∙ sym (lone_before held.lone i (omega arith) (omega arith)))
            (same? i q));
      }

-- a place from which one member leads to an end is the place of an element
pub one_low : {may : ℕ → ℕ → Bool} {b : Block} {ends Q : ℕ} → is_one b ≡ true → b.first + b.k ≤ 32 → Low ends 32 → Leading may b ends Q → Low Q 31
one_low {may} {b} {ends} {Q} one block low lead q h =
    let k = (one_parts b one).0 in
    let x = lead.each q h in
    let y = (taken_one x.piece one (omega arith) x.after x.taken).0 in
    let z = low x.place x.here in
    omega arith

pub low_most : (ends n : ℕ) → n ≤ 32 → Low ends n → Low ends 32
low_most ends n h low e b = let z = low e b in omega arith
