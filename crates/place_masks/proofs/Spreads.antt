-- Places spread by spare elements: a few at a time, all at once, or moved first. Assumes nothing.
use mathlib.Core.Path.{◌≡◌, sym, ◌∙◌, subst}
use mathlib.Core.Logic.{⊎_elim}
use mathlib.Core.Bool.{true, ◌&&◌, ◌||◌}
use Prim.Native.Nat.{ℕ, ◌+◌, ◌-◌, ◌/◌, ◌^◌, ◌≤◌, ◌<◌}
use native.Mathlib.Omega.{arith}
use lib.Dec.{leb, ltb}
use lib.Count.{count_leading_zeros}
use borrow.Author.Tests.{le-leb, leb-true, lt-ltb, ltb-true}
use Rattle.masks.specs.Masks.{bit, Lowest}
use Rattle.facts.proofs.Cases.{below, clash, and_left, and_right, both, one_of, or_left, or_right}
use Rattle.masks.proofs.Masks.{bit_none, lowest_first, highest_last, leading_few, highest_bit, bit_inside}
use Rattle.masks.proofs.Shifted.{bit_shr}
use Rattle.place_masks.specs.Places.{Ahead, Behind, Before, After}
use Rattle.place_masks.proofs.PlaceBits.{bit_ones}

-- ---- one place more, or further
pub before_none : {places : ℕ} (least most : ℕ) → ((p : ℕ) → Ahead places least most p → ⊥) → Before places least most 0
before_none least most never = record { some = λ p h. absurd (clash h (bit_none p)); all = λ p h. absurd (never p h) }

pub after_none : {places : ℕ} (least most : ℕ) → ((e : ℕ) → e < 64 → Behind places least most e → ⊥) → After places least most 0
after_none least most never = record { some = λ e h. absurd (clash h (bit_none e)); all = λ e l h. absurd (never e l h); low = λ e h. absurd (clash h (bit_none e)) }

pub after_start : (places : ℕ) → places < 2 ^ 64 → After places 0 0 places
after_start places l = record {
  some = λ e h. record { place = e; here = h; near = omega arith; far = omega arith };
  all = λ e k h. let n = h.near in let f = h.far in subst (λ (z : ℕ). bit places z ≡ true) (let q : h.place ≡ e = omega arith in q) h.here;
  low = λ e h. bit_inside 64 places e l h;
}

-- spread by at most `done`, and the same moved by s ≤ done + 1: spread by at most done + s
pub before_wider : {places done r next : ℕ} (s moved : ℕ) → s ≤ done + 1 → ((e : ℕ) → bit moved e ≡ bit r (e + s)) → ((e : ℕ) → bit next e ≡ (bit r e || bit moved e))
    → Before places 0 done r → Before places 0 (done + s) next
before_wider {places} {done} {r} {next} s moved l m u b = record {
  some = λ p h. ⊎_elim
      (λ (q : bit r p ≡ true). let a = b.some p q in let f = a.far in record { place = a.place; here = a.here; near = a.near; far = omega arith })
      (λ (q : bit moved p ≡ true). let a = b.some (p + s) (sym (m p) ∙ q) in let n = a.near in let f = a.far in record { place = a.place; here = a.here; near = omega arith; far = omega arith })
      (one_of (bit r p) (bit moved p) (sym (u p) ∙ h));
  all = λ p a.
      let n = a.near in
      let f = a.far in
      u p ∙ ⊎_elim
      (λ (q : p + done < a.place). or_right (bit r p) (bit moved p) (m p ∙ b.all (p + s) (record { place = a.place; here = a.here; near = omega arith; far = omega arith })))
      (λ (q : a.place ≤ p + done). or_left (bit r p) (bit moved p) (b.all p (record { place = a.place; here = a.here; near = n; far = q })))
      (below (p + done) a.place);
}

pub after_wider : {places done r next : ℕ} (s moved : ℕ) → s ≤ done + 1 → ((e : ℕ) → bit moved e ≡ (ltb e 64 && (leb s e && bit r (e - s)))) → ((e : ℕ) → bit next e ≡ (bit r e || bit moved e))
    → After places 0 done r → After places 0 (done + s) next
after_wider {places} {done} {r} {next} s moved l m u b = record {
  some = λ e h. ⊎_elim
      (λ (q : bit r e ≡ true). let a = b.some e q in let f = a.far in record { place = a.place; here = a.here; near = a.near; far = omega arith })
      (λ (q : bit moved e ≡ true).
      let k = and_right (ltb e 64) (leb s e && bit r (e - s)) (sym (m e) ∙ q) in
      let o = leb-true s e (and_left (leb s e) (bit r (e - s)) k) in
      let a = b.some (e - s) (and_right (leb s e) (bit r (e - s)) k) in
      let n = a.near in
      let f = a.far in
      record { place = a.place; here = a.here; near = omega arith; far = omega arith })
      (one_of (bit r e) (bit moved e) (sym (u e) ∙ h));
  all = λ e k a.
      let n = a.near in
      let f = a.far in
      u e ∙ ⊎_elim
      (λ (q : a.place + done < e). or_right (bit r e) (bit moved e) (m e ∙ both (ltb e 64) (leb s e && bit r (e - s)) (lt-ltb e 64 k)
      (both (leb s e) (bit r (e - s)) (le-leb s e (omega arith)) (b.all (e - s) (omega arith) (record { place = a.place; here = a.here; near = omega arith; far = omega arith })))))
      (λ (q : e ≤ a.place + done). or_left (bit r e) (bit moved e) (b.all e k (record { place = a.place; here = a.here; near = n; far = q })))
      (below (a.place + done) e);
  low = λ e h. ⊎_elim
      (λ (q : bit r e ≡ true). b.low e q)
      (λ (q : bit moved e ≡ true). ltb-true e 64 (and_left (ltb e 64) (leb s e && bit r (e - s)) (sym (m e) ∙ q)))
      (one_of (bit r e) (bit moved e) (sym (u e) ∙ h));
}

-- ---- the least number of elements, and then some more
pub before_moved : {places least more moved r : ℕ} (most : ℕ) → most ≡ least + more → ((e : ℕ) → bit moved e ≡ bit places (e + least)) → Before moved 0 more r → Before places least most r
before_moved {places} {least} {more} {moved} {r} most q m b = record {
  some = λ p h. let a = b.some p h in let n = a.near in let f = a.far in record { place = a.place + least; here = sym (m a.place) ∙ a.here; near = omega arith; far = omega arith };
  all = λ p a.
      let n = a.near in
      let f = a.far in
      let back : a.place - least + least ≡ a.place = omega arith in
      b.all p (record { place = a.place - least; here = m (a.place - least) ∙ subst (λ (z : ℕ). bit places z ≡ true) (sym back) a.here; near = omega arith; far = omega arith });
}

pub after_moved : {places least more moved r : ℕ} (most : ℕ) → most ≡ least + more → ((e : ℕ) → bit moved e ≡ (ltb e 64 && (leb least e && bit places (e - least)))) → After moved 0 more r
    → After places least most r
after_moved {places} {least} {more} {moved} {r} most q m b = record {
  some = λ e h.
      let a = b.some e h in
      let n = a.near in
      let f = a.far in
      let k = and_right (ltb a.place 64) (leb least a.place && bit places (a.place - least)) (sym (m a.place) ∙ a.here) in
      let o = leb-true least a.place (and_left (leb least a.place) (bit places (a.place - least)) k) in
      record { place = a.place - least; here = and_right (leb least a.place) (bit places (a.place - least)) k; near = omega arith; far = omega arith };
  all = λ e l a.
      let n = a.near in
      let f = a.far in
      let back : a.place + least - least ≡ a.place = omega arith in
      b.all e l (record {
        place = a.place + least;
        here = m (a.place + least) ∙ both (ltb (a.place + least) 64) (leb least (a.place + least) && bit places (a.place + least - least)) (lt-ltb (a.place + least) 64 (omega arith))
            (both (leb least (a.place + least)) (bit places (a.place + least - least)) (le-leb least (a.place + least) (omega arith)) (subst (λ (z : ℕ). bit places z ≡ true) (sym back) a.here));
        near = omega arith;
        far = omega arith;
      });
  low = b.low;
}

-- ---- all places before, or after
pub before_all : (places more : ℕ) → 0 < places → places < 2 ^ 64 → 63 ≤ more → Before places 0 more ((2 ^ 64 - 1) / 2 ^ count_leading_zeros 64 places)
before_all places more h l w =
    let z = count_leading_zeros 64 places in
    let small = leading_few 64 places h l in
    let g = highest_bit 64 places (63 - z) h l (omega arith) in
    record {
      some = λ p b.
          let k = bit_inside 64 (2 ^ 64 - 1) (p + z) (omega arith) (sym (bit_shr (2 ^ 64 - 1) z p) ∙ b) in
          record { place = 63 - z; here = g.inside; near = omega arith; far = omega arith };
      all = λ p a. let n = a.near in let k = highest_last g a.place a.here in bit_shr (2 ^ 64 - 1) z p ∙ bit_ones 64 (p + z) (omega arith);
    }

pub after_all : {places first r : ℕ} (more : ℕ) → Lowest 64 places first → ((e : ℕ) → bit r e ≡ (leb first e && bit (2 ^ 64 - 1) e)) → 63 ≤ more → After places 0 more r
after_all {places} {first} {r} more g u w = record {
  some = λ e h.
      let k = sym (u e) ∙ h in
      let o = leb-true first e (and_left (leb first e) (bit (2 ^ 64 - 1) e) k) in
      let i = bit_inside 64 (2 ^ 64 - 1) e (omega arith) (and_right (leb first e) (bit (2 ^ 64 - 1) e) k) in
      record { place = first; here = g.inside; near = omega arith; far = omega arith };
  all = λ e l a. let n = a.near in let k = lowest_first g a.place a.here in u e ∙ both (leb first e) (bit (2 ^ 64 - 1) e) (le-leb first e (omega arith)) (bit_ones 64 e l);
  low = λ e h. bit_inside 64 (2 ^ 64 - 1) e (omega arith) (and_right (leb first e) (bit (2 ^ 64 - 1) e) (sym (u e) ∙ h));
}
