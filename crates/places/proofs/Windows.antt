-- Pieces at their places in 32 bytes, with 255 around: seen through other windows, put there, and compared. Assumes nothing.
use mathlib.Core.Path.{◌≡◌, sym, ap, ap₂, ◌∙◌, subst}
use mathlib.Core.Logic.{⊎_elim}
use mathlib.Core.Bool.{Bool, true, false}
use mathlib.Core.List.{List, ◌++◌, append_assoc}
use Prim.Native.Nat.{ℕ, ◌+◌, ◌-◌, ◌≤◌, ◌<◌}
use native.Mathlib.Omega.{arith}
use lib.ListN.{length, get_or, take, drop, replicate, length-append, length-replicate, get_or-replicate, get_or-append, take-append-drop, length-take, length-drop}
use lib.Seq.{slice, length-slice, get_or-append-add, get_or-take, get_or-drop, ext_get_or, take-take}
use Rattle.facts.specs.Counting.{between}
use Rattle.facts.proofs.Cases.{same?, below, holds?, clash, not_so}
use Rattle.facts.proofs.Spans.{between_in, between_from, between_to, between_below, between_past}
use Rattle.facts.proofs.Slices.{slice_at, cnt_slice}
use Rattle.byte_order.specs.ByteOrder.{earlier}
use Rattle.byte_order.proofs.ByteOrder.{earlier_append_same, earlier_append_not, earlier_irreflexive}
use Rattle.blocks.specs.Assignment.{takes, Assigns}
use Rattle.blocks.specs.declared.Block.{Block}
use Rattle.blocks.specs.Pieces.{Takes}
use Rattle.blocks.proofs.Assignments.{takes_spare}
use Rattle.places.specs.Bytes.{Lone, Held, AfterLast}
use Rattle.places.proofs.Blanks.{slice_front}

-- ---- windows
-- a byte that is not 255 stands inside
pub lone_inside : {from to : ℕ} {w : List ℕ} → Lone from to w → (i : ℕ) → i < 32 → (get_or w i 0 ≡ 255 → ⊥) → (from ≤ i) × (i < to)
lone_inside {from} {to} {w} l i h n = ⊎_elim
    (λ (b : between from to i ≡ true). (between_from from to i b, between_to from to i b))
    (λ (b : between from to i ≡ false). absurd (n (l.outside i h b)))
    (holds? (between from to i))

pub lone_wider : {from to : ℕ} {w : List ℕ} (from' to' : ℕ) → from' ≤ from → to ≤ to' → Lone from to w → Lone from' to' w
lone_wider {from} {to} {w} from' to' f t l = record {
  size = l.size;
  outside = λ i h b. l.outside i h (not_so (between from to i) (λ x.
      let y = between_from from to i x in let z = between_to from to i x in clash (between_in from' to' i (omega arith) (omega arith)) b));
}

pub lone_before : {from to : ℕ} {w : List ℕ} → Lone from to w → (i : ℕ) → i < 32 → i < from → get_or w i 0 ≡ 255
lone_before {from} {to} l i h k = l.outside i h (between_below from to i k)

pub lone_after : {from to : ℕ} {w : List ℕ} → Lone from to w → (i : ℕ) → i < 32 → to ≤ i → get_or w i 0 ≡ 255
lone_after {from} {to} l i h k = l.outside i h (between_past from to i k)

-- all is 255 from r on
pub lone_last : {from to r : ℕ} {w : List ℕ} → AfterLast w from to r → Lone from to w → Lone from r w
lone_last {from} {to} {r} {w} a l = record {
  size = l.size;
  outside = λ i h b. ⊎_elim
      (λ (k : i < r). l.outside i h (not_so (between from to i) (λ x. let y = between_from from to i x in clash (between_in from r i y k) b)))
      (λ (k : r ≤ i). ⊎_elim (λ (m : i < to). a.blank i k m) (λ (m : to ≤ i). lone_after l i h m) (below i to))
      (below i r);
}

-- an assignment of a piece is one of any piece that has all of its members
pub refit : {may : ℕ → ℕ → Bool} {first k from to : ℕ} {w : List ℕ} (from' to' : ℕ) → first + k ≤ 32 → from ≤ to → to ≤ 32 → from' ≤ to' → to' ≤ 32
    → Lone from to w → Lone from' to' w → Assigns may first k from to (slice from to w) → Assigns may first k from' to' (slice from' to' w)
refit {may} {first} {k} {from} {to} {w} from' to' block o t o' t' l l' a =
    let size = l.size in
    let n = length-slice from to w (omega arith) in
    let n' = length-slice from' to' w (omega arith) in
    record {
      size = n';
      right = λ i h.
          let e = from' + i in
          let at : get_or (slice from' to' w) i 0 ≡ get_or w e 0 = slice_at from' to' w i (omega arith) in
          subst (λ (x : ℕ). takes may first k e x ≡ true) (sym at) (⊎_elim
          (λ (q : get_or w e 0 ≡ 255). takes_spare may first k e (get_or w e 0) q)
          (λ (q : get_or w e 0 ≡ 255 → ⊥).
          let z = lone_inside l e (omega arith) q in
          let j = e - from in
          let back : from + j ≡ e = omega arith in
          let same : get_or (slice from to w) j 0 ≡ get_or w e 0 = slice_at from to w j (omega arith) ∙ ap (λ (d : ℕ). get_or w d 0) back in
          subst (λ (x : ℕ). takes may first k e x ≡ true) same (subst (λ (d : ℕ). takes may first k d (get_or (slice from to w) j 0) ≡ true) back (a.right j (omega arith))))
          (same? (get_or w e 0) 255));
      once = λ m f h.
          cnt_slice m from' to' w o' (omega arith) (λ i g b q. let z = l'.outside i (omega arith) b in omega arith)
          ∙ sym (cnt_slice m from to w o (omega arith) (λ i g b q. let z = l.outside i (omega arith) b in omega arith)) ∙ a.once m f h;
    }

-- ---- a list at its place
unfoldable pub placed : ℕ → List ℕ → List ℕ
placed from p = replicate from 255 ++ (p ++ replicate (32 - (from + length p)) 255)

module _ (from to : ℕ) (p : List ℕ) (size : length p ≡ to - from) (o : from ≤ to) (t : to ≤ 32) where
  placed_length : length (placed from p) ≡ 32
  unfolding placed
  placed_length =
      let a = length-append (replicate from 255) (p ++ replicate (32 - (from + length p)) 255) in
      let b = length-append p (replicate (32 - (from + length p)) 255) in
      let x = length-replicate {A = ℕ} from 255 in
      let y = length-replicate {A = ℕ} (32 - (from + length p)) 255 in
      omega arith

  placed_before : (i : ℕ) → i < from → get_or (placed from p) i 0 ≡ 255
  unfolding placed
  placed_before i l =
      let x = length-replicate {A = ℕ} from 255 in
      get_or-append (replicate from 255) (p ++ replicate (32 - (from + length p)) 255) 0 i (omega arith) ∙ get_or-replicate {A = ℕ} from i 255 0 l

  placed_in : (i : ℕ) → i < length p → get_or (placed from p) (from + i) 0 ≡ get_or p i 0
  unfolding placed
  placed_in i l =
      let x = length-replicate {A = ℕ} from 255 in
      let at : from + i ≡ length (replicate {A = ℕ} from 255) + i = omega arith in
      ap (λ (d : ℕ). get_or (replicate from 255 ++ (p ++ replicate (32 - (from + length p)) 255)) d 0) at
      ∙ get_or-append-add (replicate from 255) (p ++ replicate (32 - (from + length p)) 255) i 0
      ∙ get_or-append p (replicate (32 - (from + length p)) 255) 0 i l

  placed_after : (i : ℕ) → to ≤ i → i < 32 → get_or (placed from p) i 0 ≡ 255
  unfolding placed
  placed_after i l h =
      let x = length-replicate {A = ℕ} from 255 in
      let j = i - to in
      let at : i ≡ length (replicate {A = ℕ} from 255) + (length p + j) = omega arith in
      ap (λ (d : ℕ). get_or (replicate from 255 ++ (p ++ replicate (32 - (from + length p)) 255)) d 0) at
      ∙ get_or-append-add (replicate from 255) (p ++ replicate (32 - (from + length p)) 255) (length p + j) 0
      ∙ get_or-append-add p (replicate (32 - (from + length p)) 255) j 0
      ∙ get_or-replicate {A = ℕ} (32 - (from + length p)) j 255 0 (omega arith)

  pub placed_lone : Lone from to (placed from p)
  placed_lone = record {
    size = placed_length;
    outside = λ i h b. ⊎_elim
        (λ (k : i < from). placed_before i k)
        (λ (k : from ≤ i). ⊎_elim (λ (m : i < to). absurd (clash (between_in from to i k m) b)) (λ (m : to ≤ i). placed_after i m h) (below i to))
        (below i from);
  }

  pub placed_slice : slice from to (placed from p) ≡ p
  placed_slice =
      let long = placed_length in
      let n = length-slice from to (placed from p) (omega arith) in
      ext_get_or 0 (slice from to (placed from p)) p (omega arith) (λ i l. slice_at from to (placed from p) i (omega arith) ∙ placed_in i (omega arith))

  -- seen from a place before
  pub placed_from : (start : ℕ) → start ≤ from → slice start to (placed from p) ≡ replicate (from - start) 255 ++ p
  placed_from start l =
      let long = placed_length in
      slice_front start from to (placed from p) l o (omega arith) (λ i a z. placed_before i z) ∙ ap (λ (z : List ℕ). replicate (from - start) 255 ++ z) placed_slice

-- ---- what a block takes, at its place
pub held_placed : {may : ℕ → ℕ → Bool} {b : Block} {from to : ℕ} {p : List ℕ} → from ≤ to → to ≤ 32 → Takes may b from to p → Held may b from to (placed from p)
held_placed {may} {b} {from} {to} {p} o t h =
    let size = h.assigned.size in
    record {
      lone = placed_lone from to p size o t;
      order = o;
      high = t;
      taken = subst (λ (x : List ℕ). Takes may b from to x) (sym (placed_slice from to p size o t)) h;
    }

pub held_assigned : {may : ℕ → ℕ → Bool} {b : Block} {from to : ℕ} {w : List ℕ} (from' to' : ℕ) → b.first + b.k ≤ 32 → from' ≤ from → to ≤ to' → to' ≤ 32
    → Held may b from to w → Assigns may b.first b.k from' to' (slice from' to' w)
held_assigned from' to' block f t h g = let o = g.order in let l = g.lone in refit from' to' block o g.high (omega arith) h l (lone_wider from' to' f t l) g.taken.assigned

pub held_wider : {may : ℕ → ℕ → Bool} {b : Block} {from to : ℕ} {w : List ℕ} (from' to' : ℕ) → b.first + b.k ≤ 32 → from ≤ to → to ≤ 32 → from' ≤ to' → to' ≤ 32
    → Lone from to w → Lone from' to' w → Assigns may b.first b.k from to (slice from to w) → from' + (b.k + b.min) ≤ to' → to' ≤ from' + (b.k + b.max) → Held may b from' to' w
held_wider from' to' block o t o' t' l l' a enough few = record {
  lone = l';
  order = o';
  high = t';
  taken = record { assigned = refit from' to' block o t o' t' l l' a; enough = omega arith; few = omega arith };
}

-- ---- compared by the places of a piece, where the same stands around
pub lone_order : {from to : ℕ} {x y : List ℕ} → from ≤ to → to ≤ 32 → Lone from to x → Lone from to y → earlier (slice from to x) (slice from to y) ≡ false → earlier x y ≡ false
lone_order {from} {to} {x} {y} o t l m h =
    let nx = l.size in
    let ny = m.size in
    let cut : (w : List ℕ) → length w ≡ 32 → w ≡ take from w ++ (slice from to w ++ drop to w) = λ w n.
    sym (take-append-drop to w) ∙ ap (λ (z : List ℕ). z ++ drop to w) (sym (take-append-drop from (take to w)) ∙ ap (λ (z : List ℕ). z ++ slice from to w) (take-take from to w o))
    ∙ append_assoc (take from w) (slice from to w) (drop to w) in
    let front : take from x ≡ take from y = same_front in
    let back : drop to x ≡ drop to y = same_back in
    let lx = length-slice from to x (omega arith) in
    let ly = length-slice from to y (omega arith) in
    ap₂ (λ u v. earlier u v) (cut x nx ∙ ap₂ (λ (u v : List ℕ). u ++ (slice from to x ++ v)) front back) (cut y ny)
    ∙ earlier_append_same (take from y) (slice from to x ++ drop to y) (slice from to y ++ drop to y)
    ∙ earlier_append_not (slice from to x) (slice from to y) (drop to y) (drop to y) (omega arith) h (earlier_irreflexive (drop to y))
  where
    same_front : take from x ≡ take from y
    same_front =
        let nx = l.size in
        let ny = m.size in
        let a = length-take from x in
        let b = length-take from y in
        ext_get_or 0 (take from x) (take from y) (omega arith) (λ i h.
        get_or-take from x i 0 (omega arith) ∙ lone_before l i (omega arith) (omega arith) ∙ sym (get_or-take from y i 0 (omega arith) ∙ lone_before m i (omega arith) (omega arith)))

    same_back : drop to x ≡ drop to y
    same_back =
        let nx = l.size in
        let ny = m.size in
        let a = length-drop to x in
        let b = length-drop to y in
        ext_get_or 0 (drop to x) (drop to y) (omega arith) (λ i h.
        get_or-drop to x i 0 ∙ lone_after l (to + i) (omega arith) (omega arith) ∙ sym (get_or-drop to y i 0 ∙ lone_after m (to + i) (omega arith) (omega arith)))
