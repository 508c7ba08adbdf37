-- The rows of a piece, one element at a time. Assumes nothing.
use mathlib.Core.Path.{◌≡◌, refl, sym, ap, ap₂, ◌∙◌, subst}
use mathlib.Core.Logic.{⊎_elim}
use mathlib.Core.Bool.{true, ◌&&◌, and-true, and-false}
use mathlib.Core.List.{List}
use Prim.Native.Nat.{ℕ, ◌+◌, ◌≤◌, ◌<◌}
use native.Mathlib.Omega.{arith}
use lib.Bits.{bit_and}
use lib.ListN.{get_or, set, replicate, length-set, length-replicate}
use lib.Seq.{get_or-set_same, get_or-set_other}
use Rattle.masks.specs.Masks.{bit}
use Rattle.rows.specs.Rows.{may, picks}
use Rattle.facts.specs.Counting.{between}
use Rattle.facts.proofs.Cases.{same?, and_left, and_right}
use Rattle.facts.proofs.Spans.{between_in, between_to, between_none, between_other}
use Rattle.masks.proofs.Masks.{bit_and_lem}
use Rattle.rows.proofs.Rows.{row_may, zeros_may}
use Rattle.rows.specs.Columns.{Turned, Piece, Spans}
use Rattle.rows.specs.Exchange.{Within, Transposed}

pub piece_none : {rows : List ℕ} {first k from : ℕ} → Piece rows first k from from (replicate 32 0)
piece_none {rows} {first} {k} {from} = record {
  size = length-replicate {A = ℕ} 32 0;
  same = λ m e. zeros_may m e ∙ sym (rw (between_none from e, and-false (between first (first + k) m)) (and-false (may rows m e)));
}

pub piece_more : {rows : List ℕ} {first k from e : ℕ} {part : List ℕ} (block : ℕ) → from ≤ e → e < 32 → ((m : ℕ) → bit block m ≡ between first (first + k) m)
    → Piece rows first k from e part → Piece rows first k from (e + 1) (set part e (bit_and (get_or rows e 0) block))
piece_more {rows} {first} {k} {from} {e} {part} block low high h p = record {
  size = length-set part e (bit_and (get_or rows e 0) block) ∙ p.size;
  same = λ m i. ⊎_elim
      (λ (q : i ≡ e). subst (λ (i : ℕ). may new m i ≡ (may rows m i && (between first (first + k) m && between from (e + 1) i))) (sym q) (here m))
      (λ (q : i ≡ e → ⊥). sym (row_may new m i) ∙ ap (λ (n : ℕ). bit n m) (get_or-set_other part e i (bit_and (get_or rows e 0) block) 0 q) ∙ row_may part m i
      ∙ p.same m i ∙ ap (λ b. may rows m i && (between first (first + k) m && b)) (between_other from e i q))
      (same? i e);
}
  where
    new : List ℕ
    new = set part e (bit_and (get_or rows e 0) block)

    here : (m : ℕ) → may new m e ≡ (may rows m e && (between first (first + k) m && between from (e + 1) e))
    here m =
        let s = p.size in
        sym (row_may new m e) ∙ ap (λ (n : ℕ). bit n m) (get_or-set_same part e (bit_and (get_or rows e 0) block) 0 (omega arith)) ∙ bit_and_lem (get_or rows e 0) block m
        ∙ ap₂ (λ s t. s && t) (row_may rows m e) (h m ∙ sym (ap (λ b. between first (first + k) m && b) (between_in from (e + 1) e low (omega arith)) ∙ and-true (between first (first + k) m)))

-- a cell of the piece is a member that may take an element
cell_may : (part : List ℕ) (e m : ℕ) → picks part e m ≡ may part m e
unfolding picks may
cell_may part e m = refl

pub piece_within : {rows : List ℕ} {first k from to s : ℕ} {part : List ℕ} → Spans (first + k) to s → Piece rows first k from to part → Within s part
piece_within {rows} {first} {k} {from} {to} {s} {part} w p = record {
  row = λ e m h. let x = between_to from to e (and_right (between first (first + k) m) (between from to e) (inside e m h)) in let y = w.elements in omega arith;
  column = λ e m h. let x = between_to first (first + k) m (and_left (between first (first + k) m) (between from to e) (inside e m h)) in let y = w.members in omega arith;
}
  where
    inside : (e m : ℕ) → picks part e m ≡ true → (between first (first + k) m && between from to e) ≡ true
    inside e m h = and_right (may rows m e) (between first (first + k) m && between from to e) (sym (p.same m e) ∙ sym (cell_may part e m) ∙ h)

pub piece_turned : {rows : List ℕ} {first k from to : ℕ} {part cols : List ℕ} → Piece rows first k from to part → Transposed part cols → Turned rows first k from to cols
piece_turned {rows} {first} {k} {from} {to} {part} {cols} p t = record {
  size = t.size;
  same = λ m e. t.same m e ∙ cell_may part e m ∙ p.same m e;
}
