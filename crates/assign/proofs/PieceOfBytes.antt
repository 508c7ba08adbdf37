-- Assignments of a piece, and the same as 32 bytes with 255 around. Assumes nothing.
use mathlib.Core.Path.{◌≡◌, refl, sym, ap, ◌∙◌, subst}
use mathlib.Core.Logic.{◌⊎◌, inl, inr, ⊎_elim}
use mathlib.Core.Bool.{Bool, true, false}
use mathlib.Core.List.{List, ◌++◌}
use Prim.Native.Nat.{ℕ, ◌+◌, ◌-◌, ◌≤◌, ◌<◌}
use native.Mathlib.Omega.{arith}
use lib.ListN.{length, get_or, replicate, length-append, length-replicate, get_or-replicate, get_or-append}
use lib.Seq.{slice, length-slice, get_or-append-add, ext_get_or}
use Rattle.facts.specs.Counting.{between, cnt}
use Rattle.byte_order.specs.ByteOrder.{earlier, First}
use Rattle.blocks.specs.Assignment.{takes, Assigns, Short}
use Rattle.assign.specs.Answer.{Answer}
use Rattle.refining.specs.AsBytes.{fits, Dealt}
use Rattle.refining.specs.Refine.{Agrees, Sooner, Leads}
use Rattle.facts.proofs.Cases.{below, clash, not_so}
use Rattle.facts.proofs.Spans.{between_from}
use Rattle.byte_order.proofs.ByteOrder.{earlier_irreflexive, earlier_asymmetric, earlier_at}
use Rattle.facts.proofs.Counting.{cnt_append, cnt_replicate}
use Rattle.blocks.proofs.Assignments.{takes_inv, takes_spare, takes_member, short_never}
use Rattle.chains.proofs.Chains.{within_may}
use Rattle.refining.proofs.AsThirtyTwoBytes.{within_in, fits_block, fits_within, fits_in}
use Rattle.refining.proofs.Refinement.{dealt_outside}
use Rattle.facts.proofs.Slices.{slice_at, cnt_slice}

-- the piece of an assignment of 32 bytes
module _ {may : ℕ → ℕ → Bool} {first k from to : ℕ} {w : List ℕ} (block : first + k ≤ 32) (piece : from ≤ to) (end : to ≤ 32) (d : Dealt may first k from to w) where
  pub dealt_assigns : Assigns may first k from to (slice from to w)
  dealt_assigns =
      let size = d.size in
      let long = length-slice from to w (omega arith) in
      record {
        size = long;
        right = λ i l.
            let q : get_or (slice from to w) i 0 ≡ get_or w (from + i) 0 = slice_at from to w i (omega arith) in
            subst (λ (x : ℕ). takes may first k (from + i) x ≡ true) (sym q) (⊎_elim
            (λ (z : get_or w (from + i) 0 ≡ 255). takes_spare may first k (from + i) _ z)
            (λ (f : fits may first k from to (get_or w (from + i) 0) (from + i) ≡ true).
            takes_member may first k (from + i) _ (fits_block may first k from to _ (from + i) f) (within_may may from to _ (from + i) (fits_within may first k from to _ (from + i) f)))
            (d.right (from + i) (omega arith)));
        once = λ m f t.
            let c = cnt_slice m from to w piece (omega arith) (λ i l o q. let z = dealt_outside d i (omega arith) o in omega arith) in
            c ∙ d.once m f t;
      }

-- ---- 255 around a list
abbrev pad : ℕ → ℕ → List ℕ → List ℕ
pad from to a = replicate from 255 ++ (a ++ replicate (32 - to) 255)

module _ (from to : ℕ) (a : List ℕ) (size : length a ≡ to - from) (piece : from ≤ to) (end : to ≤ 32) where
  pad_size : length (pad from to a) ≡ 32
  pad_size =
      let x = length-append (replicate from 255) (a ++ replicate (32 - to) 255) in
      let y = length-append a (replicate (32 - to) 255) in
      let p = length-replicate {A = ℕ} from 255 in
      let q = length-replicate {A = ℕ} (32 - to) 255 in
      omega arith

  pad_left : (i : ℕ) → i < from → get_or (pad from to a) i 0 ≡ 255
  pad_left i l =
      let p = length-replicate {A = ℕ} from 255 in
      get_or-append (replicate from 255) (a ++ replicate (32 - to) 255) 0 i (omega arith) ∙ get_or-replicate {A = ℕ} from i 255 0 l

  pad_rest : (i : ℕ) → get_or (pad from to a) (from + i) 0 ≡ get_or (a ++ replicate (32 - to) 255) i 0
  pad_rest i =
      let p = length-replicate {A = ℕ} from 255 in
      ap (λ (n : ℕ). get_or (pad from to a) (n + i) 0) (sym p) ∙ get_or-append-add (replicate from 255) (a ++ replicate (32 - to) 255) i 0

  pad_at : (i : ℕ) → i < length a → get_or (pad from to a) (from + i) 0 ≡ get_or a i 0
  pad_at i l = pad_rest i ∙ get_or-append a (replicate (32 - to) 255) 0 i l

  pad_right : (i : ℕ) → i < 32 - to → get_or (pad from to a) (to + i) 0 ≡ 255
  pad_right i l =
      let z : to + i ≡ from + (length a + i) = omega arith in
      ap (λ (n : ℕ). get_or (pad from to a) n 0) z ∙ pad_rest (length a + i) ∙ get_or-append-add a (replicate (32 - to) 255) i 0 ∙ get_or-replicate {A = ℕ} (32 - to) i 255 0 l

  pad_cnt : (v : ℕ) → v < 255 → cnt v (pad from to a) ≡ cnt v a
  pad_cnt v l =
      let x = cnt_append v (replicate from 255) (a ++ replicate (32 - to) 255) in
      let y = cnt_append v a (replicate (32 - to) 255) in
      let p = cnt_replicate v 255 (λ q. omega arith) from in
      let q = cnt_replicate v 255 (λ q. omega arith) (32 - to) in
      omega arith

pub assigns_dealt : {may : ℕ → ℕ → Bool} {first k from to : ℕ} {a : List ℕ} → first + k ≤ 32 → from ≤ to → to ≤ 32 → Assigns may first k from to a → Dealt may first k from to (pad from to a)
assigns_dealt {may} {first} {k} {from} {to} {a} block piece end h =
    let size = h.size in
    record {
      size = pad_size from to a size piece end;
      right = λ e l. ⊎_elim
          (λ (z : e < from). inl (pad_left from to a size piece end e z))
          (λ (z : from ≤ e). ⊎_elim
          (λ (y : e < to).
          let i = e - from in
          let q : from + i ≡ e = omega arith in
          let p : get_or (pad from to a) (from + i) 0 ≡ get_or a i 0 = pad_at from to a size piece end i (omega arith) in
          let p' : get_or (pad from to a) e 0 ≡ get_or a i 0 = subst (λ (j : ℕ). get_or (pad from to a) j 0 ≡ get_or a i 0) q p in
          ⊎_elim
          (λ (t : get_or a i 0 ≡ 255). inl (p' ∙ t))
          (λ (t : (between first (first + k) (get_or a i 0) ≡ true) × (may (get_or a i 0) (from + i) ≡ true)).
          let r : may (get_or a i 0) e ≡ true = subst (λ (j : ℕ). may (get_or a i 0) j ≡ true) q t.1 in
          inr (subst (λ (x : ℕ). fits may first k from to x e ≡ true) (sym p') (fits_in may first k from to (get_or a i 0) e t.0 (within_in may from to (get_or a i 0) e r z y))))
          (takes_inv may first k (from + i) (get_or a i 0) (h.right i (omega arith))))
          (λ (y : to ≤ e).
          let i = e - to in
          let q : to + i ≡ e = omega arith in
          inl (subst (λ (j : ℕ). get_or (pad from to a) j 0 ≡ 255) q (pad_right from to a size piece end i (omega arith))))
          (below e to))
          (below e from);
      once = λ m f t. pad_cnt from to a size piece end m (omega arith) ∙ h.once m f t;
    }

-- ---- the answers
module _ {may : ℕ → ℕ → Bool} {first k from to : ℕ} {w : List ℕ} (block : first + k ≤ 32) (piece : from ≤ to) (end : to ≤ 32) where
  -- every assignment is as w or comes later: the piece of w is the first
  pub leads_first : Leads may first k from to w to → First (Assigns may first k from to) (slice from to w)
  leads_first h =
      let d = h.dealt in
      let long = d.size in
      let n = length-slice from to w (omega arith) in
      record {
        holds = dealt_assigns block piece end d;
        least = λ a g.
            let size = g.size in
            let at : (i : ℕ) → i < to - from → get_or (slice from to w) i 0 ≡ get_or w (from + i) 0 = slice_at from to w in
            let pa : (i : ℕ) → i < to - from → get_or (pad from to a) (from + i) 0 ≡ get_or a i 0 = λ i l. pad_at from to a size piece end i (omega arith) in
            ⊎_elim
            (λ (s : Agrees (pad from to a) w to).
            let same : a ≡ slice from to w = ext_get_or 0 a (slice from to w) (size ∙ sym n) (λ i l.
            sym (pa i (omega arith)) ∙ s (from + i) (omega arith) ∙ sym (at i (omega arith))) in
            ap (λ (x : List ℕ). earlier x (slice from to w)) same ∙ earlier_irreflexive (slice from to w))
            (λ (s : Sooner w (pad from to a) to).
            let p = s.place in
            let early = s.early in
            let small = s.smaller in
            ⊎_elim
            (λ (z : p < from).
            let x = pad_left from to a size piece end p z in
            let y = dealt_outside d p (omega arith) (not_so (between from to p) (λ b. let f = between_from from to p b in omega arith)) in
            absurd (omega arith))
            (λ (z : from ≤ p).
            let i = p - from in
            let q : from + i ≡ p = omega arith in
            let x : get_or (slice from to w) i 0 ≡ get_or w p 0 = at i (omega arith) ∙ ap (λ (j : ℕ). get_or w j 0) q in
            let y : get_or a i 0 ≡ get_or (pad from to a) p 0 = sym (pa i (omega arith)) ∙ ap (λ (j : ℕ). get_or (pad from to a) j 0) q in
            earlier_asymmetric (slice from to w) a (earlier_at (slice from to w) a i (omega arith) (omega arith)
            (λ j l. at j (omega arith) ∙ sym (s.agrees (from + j) (omega arith)) ∙ pa j (omega arith))
            (omega arith)))
            (below p from))
            (h.leads (pad from to a) (assigns_dealt block piece end g));
      }

  pub answer_found : Leads may first k from to w to → Answer may first k from to true w
  answer_found h = record {
    best = λ _. leads_first h;
    none = λ q. absurd (clash refl q);
    short = λ q. absurd (clash refl q);
    size = h.dealt.size;
    outside = dealt_outside h.dealt;
    blank = λ q. absurd (clash refl q);
  }

  pub answer_none : w ≡ replicate 32 255 → Short may first k from to → Answer may first k from to false w
  answer_none q s = record {
    best = λ p. absurd (clash p refl);
    none = λ _. short_never s block piece end;
    short = λ _. s;
    size = ap (λ (x : List ℕ). length x) q ∙ length-replicate {A = ℕ} 32 255;
    outside = λ i l _. ap (λ (x : List ℕ). get_or x i 0) q ∙ get_or-replicate {A = ℕ} 32 i 255 0 l;
    blank = λ _. q;
  }
