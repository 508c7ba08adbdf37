-- What a block with no members takes of an offered list: spare elements. Assumes nothing.
use mathlib.Core.Path.{◌≡◌, refl, sym, ap, ◌∙◌, subst}
use mathlib.Core.Bool.{true, ◌||◌, ◌&&◌}
use mathlib.Core.Logic.{⊎_elim}
use mathlib.Core.List.{List}
use Prim.Native.Nat.{ℕ, zero, suc, ◌+◌, ◌-◌, ◌≤◌, ◌<◌}
use native.Mathlib.Omega.{arith}
use lib.Dec.{leb, ltb}
use lib.ListN.{length, get_or, get_or-eq_default}
use lib.Seq.{slice, length-slice}
use borrow.Author.Tests.{le-leb, lt-ltb, leb-true}
use Rattle.facts.specs.Counting.{between}
use Rattle.facts.proofs.Cases.{same?, below, clash, and_left, and_right, one_of, or_left, or_right}
use Rattle.facts.proofs.Spans.{between_from, between_to}
use Rattle.facts.proofs.Slices.{slice_at}
use Rattle.masks.specs.Masks.{bit}
use Rattle.masks.proofs.Masks.{bit_none}
use Rattle.blocks.specs.declared.Block.{Block}
use Rattle.blocks.specs.Pieces.{Takes}
use Rattle.blocks.proofs.Assignments.{takes_inv, takes_spare}
use Rattle.judging.specs.Reach.{any_pair, SparesOf, OneOn, Blank, Along, Extended}

-- ---- the elements that are spare

pub spares_none : (w : List ℕ) → SparesOf w 0 0
spares_none w = record { only = λ e h. absurd (clash h (bit_none e)); all = λ e l. absurd (omega arith) }

-- ---- one element on

pub one_on : (places spares both r : ℕ) → ((e : ℕ) → bit both e ≡ (bit places e && bit spares e)) → ((e : ℕ) → bit r e ≡ (ltb e 64 && (leb 1 e && bit both (e - 1)))) → OneOn places spares r
one_on places spares both r meet up = record {
  some = λ p h.
      let a = and_right (ltb p 64) (leb 1 p && bit both (p - 1)) (sym (up p) ∙ h) in
      let m = sym (meet (p - 1)) ∙ and_right (leb 1 p) (bit both (p - 1)) a in
      (leb-true 1 p (and_left (leb 1 p) (bit both (p - 1)) a), and_left (bit places (p - 1)) (bit spares (p - 1)) m, and_right (bit places (p - 1)) (bit spares (p - 1)) m);
  all = λ p l h s.
      let z : (p + 1) - 1 ≡ p = omega arith in
      up (p + 1) ∙ rw (lt-ltb (p + 1) 64 (omega arith), le-leb 1 (p + 1) (omega arith), z, meet p, h, s) refl;
}

-- ---- along spare elements

module _ (w : List ℕ) (reach spares : ℕ) (short : length w ≤ 32) (sp : SparesOf w (length w) spares) where
  pub along_start : Along w reach 0 0 reach
  along_start = record {
    some = λ p h. record { start = p; reached = h; near = omega arith; far = omega arith; blank = λ i l u. absurd (omega arith) };
    all = λ p s. let a = s.near in let b = s.far in let z : s.start ≡ p = omega arith in subst (λ (x : ℕ). bit reach x ≡ true) z s.reached;
  }

  -- a spare element is an element
  spare_inside : (i : ℕ) → get_or w i 0 ≡ 255 → i < length w
  spare_inside i q = ⊎_elim (λ (l : i < length w). l) (λ (l : length w ≤ i). let z = sym (get_or-eq_default w 0 l) ∙ q in absurd (omega arith)) (below i (length w))

  module _ (lo hi r next : ℕ) (g : Along w reach lo hi r) (o : OneOn r spares next) where
    pub along_step : Along w reach (lo + 1) (hi + 1) next
    along_step = record {
      some = λ p h.
          let a = o.some p h in
          let s = g.some (p - 1) a.1 in
          let x = a.0 in
          let y = s.near in
          let z = s.far in
          record {
            start = s.start;
            reached = s.reached;
            near = omega arith;
            far = omega arith;
            blank = λ i l u. ⊎_elim (λ (q : i ≡ p - 1). rw q (sp.only (p - 1) a.2).1) (λ (q : i ≡ p - 1 → ⊥). s.blank i l (omega arith)) (same? i (p - 1));
          };
      all = λ p s.
          let y = s.near in
          let z = s.far in
          let q = s.blank (p - 1) (omega arith) (omega arith) in
          let l = spare_inside (p - 1) q in
          let e : p - 1 + 1 ≡ p = omega arith in
          subst (λ (x : ℕ). bit next x ≡ true) e
          (o.all (p - 1) (omega arith) (g.all (p - 1) (record { start = s.start; reached = s.reached; near = omega arith; far = omega arith; blank = λ i a u. s.blank i a (omega arith) })) (sp.all (p - 1) l q));
    }

    pub along_more : (both : ℕ) → lo ≤ hi → ((e : ℕ) → bit both e ≡ (bit r e || bit next e)) → Along w reach lo (hi + 1) both
    along_more both order join = record {
      some = λ p h. ⊎_elim
          (λ (q : bit r p ≡ true). let s = g.some p q in let f = s.far in record { start = s.start; reached = s.reached; near = s.near; far = omega arith; blank = s.blank })
          (λ (q : bit next p ≡ true). let s = along_step.some p q in let f = s.near in record { start = s.start; reached = s.reached; near = omega arith; far = let v = s.far in omega arith; blank = s.blank })
          (one_of (bit r p) (bit next p) (sym (join p) ∙ h));
      all = λ p s. join p ∙ ⊎_elim
          (λ (l : p < s.start + hi + 1). or_left (bit r p) (bit next p) (g.all p (record { start = s.start; reached = s.reached; near = s.near; far = omega arith; blank = s.blank })))
          (λ (l : s.start + hi + 1 ≤ p). or_right (bit r p) (bit next p) (along_step.all p (record { start = s.start; reached = s.reached; near = omega arith; far = let v = s.far in omega arith; blank = s.blank })))
          (below p (s.start + hi + 1));
    }

    -- where one more reaches no other place, no more do
    pub along_all : (most : ℕ) → lo ≤ hi → hi ≤ most → ((e : ℕ) → bit r e ≡ (bit r e || bit next e)) → Along w reach lo most r
    along_all most order up same = record {
      some = λ p h. let s = g.some p h in let f = s.far in record { start = s.start; reached = s.reached; near = s.near; far = omega arith; blank = s.blank };
      all = λ p s. further (p - (s.start + hi)) p s.start (omega arith) s.reached s.near s.blank;
    }
      where
        further : (d p start : ℕ) → p ≤ start + hi + d → bit reach start ≡ true → start + lo ≤ p → Blank w start p → bit r p ≡ true
        further zero p start l re near blank = g.all p (record { start = start; reached = re; near = near; far = omega arith; blank = blank })
        further (suc d) p start l re near blank = ⊎_elim
            (λ (x : p < start + hi + 1). g.all p (record { start = start; reached = re; near = near; far = omega arith; blank = blank }))
            (λ (x : start + hi + 1 ≤ p).
            let before = further d (p - 1) start (omega arith) re (omega arith) (λ i a u. blank i a (omega arith)) in
            let q = blank (p - 1) (omega arith) (omega arith) in
            let i = spare_inside (p - 1) q in
            let e : p - 1 + 1 ≡ p = omega arith in
            same p ∙ or_right (bit r p) (bit next p) (subst (λ (v : ℕ). bit next v ≡ true) e (o.all (p - 1) (omega arith) before (sp.all (p - 1) i q))))
            (below p (start + hi + 1))

  pub along_none : (lo hi : ℕ) → hi < lo → Along w reach lo hi 0
  along_none lo hi l = record { some = λ p h. absurd (clash h (bit_none p)); all = λ p s. let a = s.near in let b = s.far in absurd (omega arith) }

  -- ---- what the block takes

  pub along_extended : (b : Block) (r : ℕ) → b.k ≡ 0 → ((p : ℕ) → bit reach p ≡ true → p ≤ length w) → Along w reach b.min b.max r → Extended any_pair b reach w r
  along_extended b r none low g = record {
    found = λ p h.
        let t = h.taken in
        let l = t.enough in
        let u = t.few in
        let i = h.inside in
        let e = h.end in
        g.all p (record { start = h.start; reached = h.reached; near = omega arith; far = omega arith; blank = blank_taken h.start p i e t });
    only = λ p h.
        let s = g.some p h in
        let a = s.near in
        let f = s.far in
        let e : p ≤ length w = ⊎_elim
        (λ (z : p ≡ s.start). rw z (low s.start s.reached))
        (λ (z : p ≡ s.start → ⊥). let x = spare_inside (p - 1) (s.blank (p - 1) (omega arith) (omega arith)) in omega arith)
        (same? p s.start) in
        record { start = s.start; reached = s.reached; inside = omega arith; end = e; taken = taken_blank s.start p (omega arith) e (omega arith) (omega arith) s.blank };
  }
    where
      blank_taken : (s p : ℕ) → s ≤ p → p ≤ length w → Takes any_pair b s p (slice s p w) → Blank w s p
      blank_taken s p l e t i a u =
          let n = length-slice s p w e in
          let z : s + (i - s) ≡ i = omega arith in
          let at : get_or (slice s p w) (i - s) 0 ≡ get_or w i 0 = slice_at s p w (i - s) (omega arith) ∙ ap (λ (j : ℕ). get_or w j 0) z in
          ⊎_elim
          (λ (q : get_or (slice s p w) (i - s) 0 ≡ 255). sym at ∙ q)
          (λ (q : (between b.first (b.first + b.k) (get_or (slice s p w) (i - s) 0) ≡ true) × (any_pair (get_or (slice s p w) (i - s) 0) (s + (i - s)) ≡ true)).
          let x = between_from _ _ _ q.0 in
          let y = between_to _ _ _ q.0 in
          absurd (omega arith))
          (takes_inv any_pair b.first b.k (s + (i - s)) (get_or (slice s p w) (i - s) 0) (t.assigned.right (i - s) (omega arith)))

      taken_blank : (s p : ℕ) → s ≤ p → p ≤ length w → s + b.min ≤ p → p ≤ s + b.max → Blank w s p → Takes any_pair b s p (slice s p w)
      taken_blank s p l e near far blank =
          let n = length-slice s p w e in
          record {
            assigned = record {
              size = n;
              right = λ i h. takes_spare any_pair b.first b.k (s + i) (get_or (slice s p w) i 0) (slice_at s p w i (omega arith) ∙ blank (s + i) (omega arith) (omega arith));
              once = λ m f u. absurd (omega arith);
            };
            enough = omega arith;
            few = omega arith;
          }
