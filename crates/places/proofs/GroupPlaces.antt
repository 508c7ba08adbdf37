-- The places from which a group leads to those that are good: one search for the furthest end, and what it serves. Assumes nothing.
use mathlib.Core.Path.{◌≡◌, sym, ap, ◌∙◌, subst}
use mathlib.Core.Logic.{inl, inr, ⊎_elim}
use mathlib.Core.Bool.{Bool, true, false, not, ◌&&◌, ◌||◌}
use mathlib.Core.List.{List}
use Prim.Native.Nat.{ℕ, ◌+◌, ◌≤◌, ◌<◌}
use native.Mathlib.Omega.{arith}
use lib.Dec.{leb}
use lib.Seq.{slice}
use borrow.Author.Tests.{le-leb, leb-true, not-true}
use Rattle.masks.specs.Masks.{bit, Plus, Highest}
use Rattle.masks.proofs.Masks.{bit_none, highest_last}
use Rattle.facts.specs.Counting.{count}
use Rattle.facts.proofs.Cases.{same?, clash, not_so, holds?, and_left, and_right, both, one_of, or_left, or_right}
use Rattle.facts.proofs.Counting.{count_less}
use Rattle.place_masks.specs.Places.{Before}
use Rattle.blocks.specs.declared.Block.{Block}
use Rattle.blocks.specs.Assignment.{Assigns}
use Rattle.assign.specs.Answer.{Answer}
use Rattle.places.specs.Ways.{Low, Leads, Back, Led, Sought}
use Rattle.places.specs.Bytes.{Lone, AfterLast}
use Rattle.places.proofs.Windows.{lone_wider, lone_last, placed, held_placed, held_assigned, held_wider}

-- ---- the furthest of the places up to `most`
pub record Furthest (good most q : ℕ) : Type 0 where
  pub here : bit good q ≡ true
  pub near : q ≤ most
  pub greatest : (e : ℕ) → bit good e ≡ true → e ≤ most → e ≤ q

pub furthest_is : {good most q : ℕ} (cut : ℕ) → ((e : ℕ) → bit cut e ≡ (leb e most && bit good e)) → Highest 64 cut q → Furthest good most q
furthest_is {good} {most} {q} cut is g =
    let h = sym (is q) ∙ g.inside in
    record {
      here = and_right (leb q most) (bit good q) h;
      near = leb-true q most (and_left (leb q most) (bit good q) h);
      greatest = λ e b l. highest_last g e (is e ∙ both (leb e most) (bit good e) (le-leb e most l) b);
    }

-- ---- one search
module _ {may : ℕ → ℕ → Bool} {b : Block} {good p q : ℕ} (block : b.first + b.k ≤ 32) (low : Low good 32) (f : Furthest good (p + (b.k + b.max)) q) where
  -- a piece up to any end is one up to the furthest
  pub furthest_assigned : Leads may b good p → (a : List ℕ) × Assigns may b.first b.k p q a
  furthest_assigned l =
      let t = l.taken in
      let o = l.after in
      let few = t.few in
      let h = held_placed o (low l.place l.here) t in
      (slice p q (placed p l.piece), held_assigned p q block (omega arith) (f.greatest l.place l.here (omega arith)) (low q f.here) h)

  pub led_none : {found : Bool} {w : List ℕ} → Answer may b.first b.k p q found w → found ≡ false → Led may b good p 0
  led_none a n = record {
    some = λ e h. absurd (clash h (bit_none e));
    here = λ l. let x = furthest_assigned l in absurd (a.none n x.0 x.1);
  }

  pub led_found : {found : Bool} {w : List ℕ} {next r : ℕ} (kept before : ℕ) → Answer may b.first b.k p q found w → found ≡ true → p + (b.k + b.min) ≤ q → AfterLast w p q next
      → ((e : ℕ) → bit kept e ≡ (leb next e && bit good e)) → Before kept (b.k + b.min) (b.k + b.max) before → ((e : ℕ) → bit r e ≡ (leb e p && bit before e)) → Led may b good p r
  led_found {found} {w} {next} {r} kept before a y enough last is spread cut =
      let lone : Lone p q w = record { size = a.size; outside = a.outside } in
      let lone' = lone_last last lone in
      let top = low q f.here in
      let near = f.near in
      let nl = last.low in
      let nh = last.high in
      record {
        some = λ e h.
            let x = sym (cut e) ∙ h in
            let le = leb-true e p (and_left (leb e p) (bit before e) x) in
            let d = spread.some e (and_right (leb e p) (bit before e) x) in
            let g = d.place in
            let z = sym (is g) ∙ d.here in
            let ge = leb-true next g (and_left (leb next g) (bit good g) z) in
            let here = and_right (leb next g) (bit good g) z in
            let dn = d.near in
            let df = d.far in
            let held = held_wider {may = may} {b = b} e g block (omega arith) top (omega arith) (low g here) lone (lone_wider e g le ge lone') (a.best y).holds dn df in
            record { place = g; here = here; after = omega arith; piece = slice e g w; taken = held.taken };
        here = λ l.
            cut p ∙ both (leb p p) (bit before p) (le-leb p p (omega arith)) (spread.all p (record {
              place = q;
              here = is q ∙ both (leb next q) (bit good q) (le-leb next q nh) f.here;
              near = enough;
              far = near;
            }));
      }

-- ---- all places, the last first
pub sought_start : (may : ℕ → ℕ → Bool) {b : Block} {good todo : ℕ} → Before good (b.k + b.min) (b.k + b.max) todo → Sought may b good todo 0
sought_start may {b} {good} {todo} f = record {
  some = λ p h. absurd (clash h (bit_none p));
  all = λ p l.
      let t = l.taken in
      let o = l.after in
      let enough = t.enough in
      let few = t.few in
      inr (f.all p (record { place = l.place; here = l.here; near = omega arith; far = omega arith }));
  near = f.some;
}

module _ {may : ℕ → ℕ → Bool} {b : Block} {good todo r p led : ℕ} (s : Sought may b good todo r) (l : Led may b good p led) where
  pub sought_step : {r' todo' : ℕ} (gone : ℕ) → ((e : ℕ) → bit r' e ≡ (bit r e || bit led e)) → Plus (bit led) p (bit gone) → ((e : ℕ) → bit todo' e ≡ (bit todo e && not (bit gone e))) → Sought may b good todo' r'
  sought_step {r'} {todo'} gone u g t = record {
    some = λ e h. ⊎_elim (λ (x : bit r e ≡ true). s.some e x) (λ (x : bit led e ≡ true). l.some e x) (one_of (bit r e) (bit led e) (sym (u e) ∙ h));
    all = λ e x. ⊎_elim
        (λ (y : bit r e ≡ true). inl (u e ∙ or_left (bit r e) (bit led e) y))
        (λ (y : bit todo e ≡ true). ⊎_elim
        (λ (z : bit led e ≡ true). inl (u e ∙ or_right (bit r e) (bit led e) z))
        (λ (z : bit led e ≡ false). ⊎_elim
        (λ (q : e ≡ p). absurd (clash (subst (λ (j : ℕ). bit led j ≡ true) (sym q) (l.here (subst (λ (j : ℕ). Leads may b good j) q x))) z))
        (λ (q : e ≡ p → ⊥). inr (t e ∙ both (bit todo e) (not (bit gone e)) y (ap not (g.other e q ∙ z))))
        (same? e p))
        (holds? (bit led e)))
        (s.all e x);
    near = λ e h. s.near e (and_left (bit todo e) (not (bit gone e)) (sym (t e) ∙ h));
  }

pub sought_less : {p : ℕ} (led todo todo' gone : ℕ) → bit todo p ≡ true → p < 64 → Plus (bit led) p (bit gone) → ((e : ℕ) → bit todo' e ≡ (bit todo e && not (bit gone e))) → count (bit todo') 64 < count (bit todo) 64
sought_less {p} led todo todo' gone h l g t =
    count_less {P = bit todo'} {S = bit todo} (λ e x. and_left (bit todo e) (not (bit gone e)) (sym (t e) ∙ x)) p
    (not_so (bit todo' p) (λ x. clash g.self (not-true (bit gone p) (and_right (bit todo p) (not (bit gone p)) (sym (t p) ∙ x))))) h 64 l

pub sought_end : {may : ℕ → ℕ → Bool} {b : Block} {good r : ℕ} (todo : ℕ) → todo ≡ 0 → Sought may b good todo r → Back may b good r
sought_end {may} {b} {good} {r} todo z s = record {
  some = s.some;
  all = λ p l. ⊎_elim (λ (y : bit r p ≡ true). y) (λ (y : bit todo p ≡ true). absurd (clash y (ap (λ (n : ℕ). bit n p) z ∙ bit_none p))) (s.all p l);
}
