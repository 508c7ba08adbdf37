-- An offered witness gone over byte by byte: the pairs before e are right, and `left` has the members that do not stand before e. Assumes nothing.
use mathlib.Core.Path.{◌≡◌, refl, sym, ap, ◌∙◌, subst}
use mathlib.Core.Bool.{true, false}
use mathlib.Core.Logic.{◌⊎◌, inl, inr, ⊎_elim}
use mathlib.Core.List.{List}
use Prim.Native.Nat.{ℕ, ◌+◌, ◌≤◌, ◌<◌}
use native.Mathlib.Omega.{arith}
use lib.Dec.{eqb}
use lib.ListN.{length, get_or, take, drop, take-append-drop}
use lib.Seq.{slice, take-length, slice_empty}
use Rattle.facts.specs.Counting.{between, one_if, cnt}
use Rattle.facts.proofs.Cases.{same?, clash, hit, miss}
use Rattle.facts.proofs.Spans.{between_in, between_to}
use Rattle.facts.proofs.Counting.{cnt_append}
use Rattle.facts.proofs.Slices.{cnt_more}
use Rattle.masks.specs.Masks.{bit, Flipped}
use Rattle.masks.proofs.OneByOne.{flipped_out}
use Rattle.grammar.specs.Element.{Elem}
use Rattle.format.specs.declared.Family.{Family}
use Rattle.grammar.specs.Family.{LeafOf, ElementOf, no_element, matches_of}
use Rattle.grammar.specs.Members.{member_hits}
use Rattle.grammar.proofs.Members.{hits_low}
use Rattle.pairs.specs.Pairs.{Right, Left, Paired, right}

pub record Going (fam : Family) (es : List (Elem (LeafOf fam))) (xs : List (ElementOf fam)) (w : List ℕ) (e left : ℕ) : Type 0 where
  pub bytes : (i : ℕ) → i < e → (get_or w i 0 ≡ 255) ⊎ (member_hits (matches_of fam) es (get_or w i 0) (get_or xs i (no_element fam)) ≡ true)
  pub few : (m : ℕ) → m < length es → cnt m (slice 0 e w) ≤ 1
  pub left_over : Left (length es) (slice 0 e w) left

pub going_start : (fam : Family) (es : List (Elem (LeafOf fam))) (xs : List (ElementOf fam)) (w : List ℕ) (left : ℕ) → ((m : ℕ) → bit left m ≡ between 0 (length es) m) → Going fam es xs w 0 left
unfolding cnt
going_start fam es xs w left span = record {
  bytes = λ i l. absurd (omega arith);
  few = λ m l. let z = none m in omega arith;
  left_over = record {
    only = λ m q. (between_to 0 (length es) m (sym (span m) ∙ q), none m);
    all = λ m l q. span m ∙ between_in 0 (length es) m (omega arith) l;
  };
}
  where
    none : (m : ℕ) → cnt m (slice 0 0 w) ≡ 0
    none m = ap (λ (v : List ℕ). cnt m v) (slice_empty 0 w)

module _ (fam : Family) (es : List (Elem (LeafOf fam))) (xs : List (ElementOf fam)) (w : List ℕ) (e left : ℕ) (g : Going fam es xs w e left) (size : length w ≡ length xs) (low : e < length xs) (k : length es ≤ 32) where
  abbrev x : ℕ
  x = get_or w e 0

  more : (m : ℕ) → cnt m (slice 0 (e + 1) w) ≡ cnt m (slice 0 e w) + one_if (eqb x m)
  more m = cnt_more m 0 e w (omega arith) (omega arith)

  bytes_more : (x ≡ 255) ⊎ (member_hits (matches_of fam) es x (get_or xs e (no_element fam)) ≡ true) → (i : ℕ) → i < e + 1 → (get_or w i 0 ≡ 255) ⊎ (member_hits (matches_of fam) es (get_or w i 0) (get_or xs i (no_element fam)) ≡ true)
  bytes_more h i l = ⊎_elim (λ (z : i ≡ e). rw z h) (λ (z : i ≡ e → ⊥). g.bytes i (omega arith)) (same? i e)

  pub going_spare : x ≡ 255 → Going fam es xs w (e + 1) left
  going_spare q = record {
    bytes = bytes_more (inl q);
    few = λ m l. let z = same m l in let f = g.few m l in omega arith;
    left_over = record {
      only = λ m h. let o = g.left_over.only m h in let z = same m o.0 in (o.0, omega (arith, o.1));
      all = λ m l h. g.left_over.all m l (let z = same m l in omega arith);
    };
  }
    where
      same : (m : ℕ) → m < length es → cnt m (slice 0 (e + 1) w) ≡ cnt m (slice 0 e w)
      same m l = let a = more m in let b = miss x m (λ p. omega arith) in omega arith

  pub going_member : (next : ℕ) → bit left x ≡ true → Flipped (bit left) x (bit next) → member_hits (matches_of fam) es x (get_or xs e (no_element fam)) ≡ true → Going fam es xs w (e + 1) next
  going_member next here f h = record {
    bytes = bytes_more (inr h);
    few = λ m l. ⊎_elim
        (λ (z : x ≡ m). let a = more m in let b = hit x m z in let c = absent m z in omega arith)
        (λ (z : x ≡ m → ⊥). let a = more m in let b = miss x m z in let c = g.few m l in omega arith)
        (same? x m);
    left_over = record {
      only = λ m q. ⊎_elim
          (λ (z : m ≡ x). absurd (clash (subst (λ (j : ℕ). bit next j ≡ true) z q) (flipped_out f here)))
          (λ (z : m ≡ x → ⊥).
          let o = g.left_over.only m (sym (f.other m z) ∙ q) in
          let a = more m in
          let b = miss x m (λ p. z (sym p)) in
          (o.0, omega (arith, o.1)))
          (same? m x);
      all = λ m l q. ⊎_elim
          (λ (z : m ≡ x). let a = more m in let b = hit x m (sym z) in absurd (omega arith))
          (λ (z : m ≡ x → ⊥). f.other m z ∙ g.left_over.all m l (let a = more m in let b = miss x m (λ p. z (sym p)) in omega arith))
          (same? m x);
    };
  }
    where
      absent : (m : ℕ) → x ≡ m → cnt m (slice 0 e w) ≡ 0
      absent m z = subst (λ (j : ℕ). cnt j (slice 0 e w) ≡ 0) z (g.left_over.only x here).1

  -- the byte is no member's number
  pub stop_high : 32 ≤ x → (x ≡ 255 → ⊥) → Right fam es xs w → ⊥
  stop_high l n r = ⊎_elim n (λ (h : member_hits (matches_of fam) es x (get_or xs e (no_element fam)) ≡ true). let z = hits_low (matches_of fam) es x (get_or xs e (no_element fam)) h in omega arith) (r.bytes e low)

  -- the member is not left: it is none, or stands before
  pub stop_gone : bit left x ≡ false → (x ≡ 255 → ⊥) → Right fam es xs w → ⊥
  stop_gone gone n r = ⊎_elim n
      (λ (h : member_hits (matches_of fam) es x (get_or xs e (no_element fam)) ≡ true).
      let l = hits_low (matches_of fam) es x (get_or xs e (no_element fam)) h in
      let once = r.once x l in
      let a = more x in
      let b = hit x x refl in
      let s = cnt_append x (take (e + 1) w) (drop (e + 1) w) in
      let u = ap (λ (v : List ℕ). cnt x v) (take-append-drop (e + 1) w) in
      clash (g.left_over.all x l (omega arith)) gone)
      (r.bytes e low)

  -- the member does not match
  pub stop_miss : member_hits (matches_of fam) es x (get_or xs e (no_element fam)) ≡ false → (x ≡ 255 → ⊥) → Right fam es xs w → ⊥
  stop_miss m n r = ⊎_elim n (λ (h : member_hits (matches_of fam) es x (get_or xs e (no_element fam)) ≡ true). clash h m) (r.bytes e low)

pub going_end : (fam : Family) (es : List (Elem (LeafOf fam))) (xs : List (ElementOf fam)) (w : List ℕ) (e left : ℕ) → length w ≡ length xs → e ≡ length xs → Going fam es xs w e left → Paired fam es xs w left
going_end fam es xs w e left size z g =
    let whole : slice 0 e w ≡ w = ap (λ (j : ℕ). slice 0 j w) (z ∙ sym size) ∙ take-length w in
    right
    (record { bytes = λ i l. g.bytes i (omega arith); once = λ m l. subst (λ (v : List ℕ). cnt m v ≤ 1) whole (g.few m l) })
    (subst (λ (v : List ℕ). Left (length es) v left) whole g.left_over)
