-- What stands in a piece of an offered list, byte by byte. Assumes nothing.
use mathlib.Core.Path.{◌≡◌, refl, sym, ap, ◌∙◌, subst}
use mathlib.Core.Logic.{⊎_elim}
use mathlib.Core.Bool.{Bool, true, false, not}
use borrow.Author.Tests.{not-true, not-false}
use mathlib.Core.List.{List}
use Prim.Native.Nat.{ℕ, ◌+◌, ◌-◌, ◌≤◌, ◌<◌}
use native.Mathlib.Omega.{arith}
use lib.ListN.{length, get_or}
use lib.Seq.{slice, slice_empty, length-slice}
use Rattle.masks.specs.Masks.{bit, Plus}
use Rattle.facts.specs.Counting.{between, one_if, cnt}
use Rattle.blocks.specs.Assignment.{takes, Assigns}
use Rattle.facts.proofs.Cases.{same?, holds?, clash, hit, miss}
use Rattle.facts.proofs.Spans.{between_in, between_from, between_to}
use Rattle.facts.proofs.Counting.{cnt_append}
use Rattle.masks.proofs.Masks.{bit_none, bits_same}
use Rattle.blocks.proofs.Assignments.{takes_inv, takes_spare, takes_member}
use Rattle.facts.proofs.Slices.{slice_at, slice_split, cnt_more}
use Rattle.blocks.specs.declared.Block.{Block}
use Rattle.blocks.specs.Pieces.{Takes, Passing}
use Rattle.judging.specs.Reach.{any_pair, Fresh, Good, Group, Whole}
use Rattle.blocks.proofs.FirstLists.{passing_false}

-- ---- one byte
module _ {may : ℕ → ℕ → Bool} {b : Block} {members e x : ℕ} where
  pub fresh_low : x < b.first → Passing (Fresh may b members e x) false
  fresh_low l = passing_false (λ f. let y = between_from b.first (b.first + b.k) x f.inside in omega arith)

  pub fresh_high : b.first + b.k ≤ x → Passing (Fresh may b members e x) false
  fresh_high l = passing_false (λ f. let y = between_to b.first (b.first + b.k) x f.inside in omega arith)

-- where any member may take any element
module _ {b : Block} {members e x : ℕ} where
  pub fresh_any : {old : Bool} → b.first ≤ x → x < b.first + b.k → old ≡ bit members x → Passing (Fresh any_pair b members e x) (not old)
  fresh_any {old} f t q = record {
    passed = λ h. record { inside = between_in b.first (b.first + b.k) x f t; right = refl; new = sym q ∙ not-true old h };
    failed = λ h y. clash (q_is h) y.new;
  }
    where
      q_is : not old ≡ false → bit members x ≡ true
      q_is h = sym q ∙ not-false old h

-- ---- the piece so far
pub good_start : (may : ℕ → ℕ → Bool) (b : Block) (from : ℕ) (w : List ℕ) → Good may b from from w 0
unfolding cnt
good_start may b from w = record {
  right = λ i l. absurd (omega arith);
  counted = λ m l. ap (λ (x : List ℕ). cnt m x) (slice_empty from w) ∙ sym (ap one_if (bit_none m));
  inside = λ m h. absurd (clash h (bit_none m));
}

module _ {may : ℕ → ℕ → Bool} {b : Block} {from e : ℕ} {w : List ℕ} {members : ℕ} (f : from ≤ e) (l : e < length w) (g : Good may b from e w members) where
  right_more : takes may b.first b.k e (get_or w e 0) ≡ true → (i : ℕ) → i < (e + 1) - from → takes may b.first b.k (from + i) (get_or w (from + i) 0) ≡ true
  right_more h i k = ⊎_elim
      (λ (q : from + i ≡ e). subst (λ (j : ℕ). takes may b.first b.k j (get_or w j 0) ≡ true) (sym q) h)
      (λ (q : from + i ≡ e → ⊥). g.right i (omega arith))
      (same? (from + i) e)

  pub good_spare : get_or w e 0 ≡ 255 → Good may b from (e + 1) w members
  good_spare q = record {
    right = right_more (takes_spare may b.first b.k e (get_or w e 0) q);
    counted = λ m k.
        let c = cnt_more m from e w f l in
        let z = miss (get_or w e 0) m (λ p. omega arith) in
        let h = g.counted m k in
        omega arith;
    inside = g.inside;
  }

  pub good_member : {more : ℕ} → Fresh may b members e (get_or w e 0) → Plus (bit members) (get_or w e 0) (bit more) → Good may b from (e + 1) w more
  good_member {more} h p = record {
    right = right_more (takes_member may b.first b.k e (get_or w e 0) h.inside h.right);
    counted = λ m k.
        let c = cnt_more m from e w f l in
        let y = g.counted m k in
        ⊎_elim
        (λ (q : get_or w e 0 ≡ m).
        let z = hit (get_or w e 0) m q in
        let old : one_if (bit members m) ≡ 0 = ap one_if (subst (λ (j : ℕ). bit members j ≡ false) q h.new) in
        let new : one_if (bit more m) ≡ 1 = ap one_if (subst (λ (j : ℕ). bit more j ≡ true) q p.self) in
        omega arith)
        (λ (q : get_or w e 0 ≡ m → ⊥).
        let z = miss (get_or w e 0) m q in
        let same : one_if (bit more m) ≡ one_if (bit members m) = ap one_if (p.other m (λ r. q (sym r))) in
        omega arith)
        (same? (get_or w e 0) m);
    inside = λ m t. ⊎_elim
        (λ (q : m ≡ get_or w e 0). subst (λ (j : ℕ). between b.first (b.first + b.k) j ≡ true) (sym q) h.inside)
        (λ (q : m ≡ get_or w e 0 → ⊥). g.inside m (sym (p.other m q) ∙ t))
        (same? m (get_or w e 0));
  }

  -- a byte that is neither 255 nor a new member: no assignment
  pub good_stop : {to : ℕ} → e < to → to ≤ length w → (get_or w e 0 ≡ 255 → ⊥) → b.first + b.k ≤ 32 → Passing (Fresh may b members e (get_or w e 0)) false
      → Assigns may b.first b.k from to (slice from to w) → ⊥
  good_stop {to} lt end n block old a =
      let x = get_or w e 0 in
      let long = length-slice from to w end in
      let i = e - from in
      let q : from + i ≡ e = omega arith in
      let at : get_or (slice from to w) i 0 ≡ x = slice_at from to w i (omega arith) ∙ ap (λ (j : ℕ). get_or w j 0) q in
      let t : takes may b.first b.k e x ≡ true =
      subst (λ (j : ℕ). takes may b.first b.k j x ≡ true) q (subst (λ (y : ℕ). takes may b.first b.k (from + i) y ≡ true) at (a.right i (omega arith))) in
      ⊎_elim n
      (λ (s : (between b.first (b.first + b.k) x ≡ true) × (may x e ≡ true)).
      let y = between_from b.first (b.first + b.k) x s.0 in
      let z = between_to b.first (b.first + b.k) x s.0 in
      let stands : bit members x ≡ true = ⊎_elim
      (λ (o : bit members x ≡ true). o)
      (λ (o : bit members x ≡ false). absurd (old.failed refl (record { inside = s.0; right = s.1; new = o })))
      (holds? (bit members x)) in
      let c = g.counted x (omega arith) in
      let o : one_if (bit members x) ≡ 1 = ap one_if stands in
      let m = cnt_more x from e w f l in
      let h = hit x x refl in
      let split = ap (λ (v : List ℕ). cnt x v) (slice_split from (e + 1) to w (omega arith) (omega arith) end) in
      let sum = cnt_append x (slice from (e + 1) w) (slice (e + 1) to w) in
      let one = a.once x y z in
      omega arith)
      (takes_inv may b.first b.k e x t)

pub fresh_below : {may : ℕ → ℕ → Bool} {b : Block} {members e x : ℕ} → b.first + b.k ≤ 32 → Fresh may b members e x → x < 32
fresh_below {may} {b} {members} {e} {x} block f = let z = between_to b.first (b.first + b.k) x f.inside in omega arith

-- ---- the whole piece
module _ {may : ℕ → ℕ → Bool} {b : Block} {from to : ℕ} {w : List ℕ} {members : ℕ} (block : b.first + b.k ≤ 32) (end : to ≤ length w) (g : Good may b from to w members) where
  good_assigns : ((m : ℕ) → b.first ≤ m → m < b.first + b.k → bit members m ≡ true) → Assigns may b.first b.k from to (slice from to w)
  good_assigns h =
      let long = length-slice from to w end in
      record {
        size = long;
        right = λ i l.
            let at : get_or (slice from to w) i 0 ≡ get_or w (from + i) 0 = slice_at from to w i (omega arith) in
            subst (λ (x : ℕ). takes may b.first b.k (from + i) x ≡ true) (sym at) (g.right i (omega arith));
        once = λ m f u. g.counted m (omega arith) ∙ ap one_if (h m f u);
      }

  assigns_good : Assigns may b.first b.k from to (slice from to w) → (m : ℕ) → b.first ≤ m → m < b.first + b.k → bit members m ≡ true
  assigns_good a m f u = ⊎_elim
      (λ (o : bit members m ≡ true). o)
      (λ (o : bit members m ≡ false).
      let c = g.counted m (omega arith) in
      let z : one_if (bit members m) ≡ 0 = ap one_if o in
      let d = a.once m f u in
      absurd (omega arith))
      (holds? (bit members m))

  -- members never leave the block, so where none is missing they are the same mask
  complete : {all : ℕ} → Group b all → ((m : ℕ) → b.first ≤ m → m < b.first + b.k → bit members m ≡ true) → members ≡ all
  complete {all} a h = bits_same members all (λ m. ⊎_elim
      (λ (t : between b.first (b.first + b.k) m ≡ true).
      h m (between_from b.first (b.first + b.k) m t) (between_to b.first (b.first + b.k) m t) ∙ sym (a.at m ∙ t))
      (λ (t : between b.first (b.first + b.k) m ≡ false).
      ⊎_elim (λ (o : bit members m ≡ true). absurd (clash (g.inside m o) t)) (λ (o : bit members m ≡ false). o ∙ sym (a.at m ∙ t)) (holds? (bit members m)))
      (holds? (between b.first (b.first + b.k) m)))

  pub whole_takes : {all : ℕ} → Group b all → to - from ≤ b.k + b.max → Whole b all members from to → Takes may b from to (slice from to w)
  whole_takes {all} a few h = record {
    assigned = good_assigns (λ m f u. ap (λ (x : ℕ). bit x m) h.complete ∙ a.at m ∙ between_in b.first (b.first + b.k) m f u);
    enough = h.enough;
    few = few;
  }

  pub takes_whole : {all : ℕ} → Group b all → Takes may b from to (slice from to w) → Whole b all members from to
  takes_whole a t = record { complete = complete a (assigns_good t.assigned); enough = t.enough }
