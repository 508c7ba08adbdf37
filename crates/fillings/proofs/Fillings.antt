-- Fillings: the members that a filling leaves, and the elements that are added for them. Assumes nothing.
use mathlib.Core.Path.{◌≡◌, refl, sym, ap, ap₂, ◌∙◌, subst}
use mathlib.Core.Logic.{◌⊎◌, ⊎_elim}
use mathlib.Core.Bool.{Bool, true, false, not}
use mathlib.Core.List.{List, [], ◌∷◌, ◌++◌}
use Prim.Native.Nat.{ℕ, zero, suc, ◌+◌, ◌-◌, ◌≤◌, ◌<◌, suc-le-suc}
use native.Mathlib.Omega.{arith}
use lib.Dec.{eqb}
use lib.ListN.{length, get_or, set, take, drop, replicate, length-append, length-take, length-set, length-replicate, get_or-replicate, take-append-drop, get_or-append}
use lib.Seq.{take-take, get_or-take, get_or-append-add, get_or-set_same, get_or-set_other, ext_get_or}
use borrow.Author.Tests.{eq-eqb, ne_eqb}
use Rattle.byte_order.specs.ByteOrder.{earlier, First}
use Rattle.masks.specs.Masks.{bit}
use Rattle.facts.specs.Counting.{between, one_if, cnt, count}
use Rattle.rows.specs.Rows.{may}
use Rattle.blocks.specs.Assignment.{takes, Assigns}
use Rattle.assign.specs.Answer.{Answer}
use Rattle.std.proofs.lemmas.List.{length-take-le, get_or_append_left, get_or-append_right, get_or-drop}
use Rattle.facts.proofs.Cases.{same?, below, clash, not_so, hit, miss}
use Rattle.facts.proofs.Spans.{between_in}
use Rattle.byte_order.proofs.ByteOrder.{earlier_append_left}
use Rattle.facts.proofs.CountedSets.{count_zero}
use Rattle.facts.proofs.Counting.{cnt_append, count_places, count_less, places_into}
use Rattle.blocks.proofs.Assignments.{takes_inv, takes_member}
use Rattle.blocks.specs.Pieces.{Fills, Filling}
use Rattle.assign.specs.Splice.{Spliced}
use Rattle.fillings.specs.Pad.{Padded}

-- ---- the members that a list leaves
-- m before the list, where the test holds
pub when : Bool → ℕ → List ℕ → List ℕ
when true m ms = m ∷ ms
when false m ms = ms

-- the members below k that do not stand in the list
pub left : List ℕ → ℕ → List ℕ
left v zero = []
left v (suc k) = when (eqb (cnt k v) 0) k (left v k)

left_zero : (v : List ℕ) (k : ℕ) → cnt k v ≡ 0 → left v (suc k) ≡ k ∷ left v k
unfolding left when
left_zero v k h = ap (λ t. when t k (left v k)) (eq-eqb (cnt k v) 0 h)

left_more : (v : List ℕ) (k : ℕ) → (cnt k v ≡ 0 → ⊥) → left v (suc k) ≡ left v k
unfolding left when
left_more v k h = ap (λ t. when t k (left v k)) (ne_eqb (cnt k v) 0 h)

cnt_cons : (m x : ℕ) (xs : List ℕ) → cnt m (x ∷ xs) ≡ one_if (eqb x m) + cnt m xs
unfolding cnt
cnt_cons m x xs = refl

cnt_empty : (m : ℕ) → cnt m [] ≡ 0
unfolding cnt
cnt_empty m = refl

-- each stands there once
left_above : (v : List ℕ) (k m : ℕ) → k ≤ m → cnt m (left v k) ≡ 0
unfolding left
left_above v zero m l = cnt_empty m
left_above v (suc k) m l = ⊎_elim
    (λ (q : cnt k v ≡ 0). let a = cnt_cons m k (left v k) in let b = miss k m (λ p. omega arith) in let d = left_above v k m (omega arith) in ap (λ (x : List ℕ). cnt m x) (left_zero v k q) ∙ omega arith)
    (λ (q : cnt k v ≡ 0 → ⊥). ap (λ (x : List ℕ). cnt m x) (left_more v k q) ∙ left_above v k m (omega arith))
    (same? (cnt k v) 0)

left_one : (v : List ℕ) (k m : ℕ) → m < k → cnt m v ≡ 0 → cnt m (left v k) ≡ 1
left_one v zero m l z = absurd (omega arith)
left_one v (suc k) m l z = ⊎_elim
    (λ (p : m ≡ k).
    let q : cnt k v ≡ 0 = subst (λ (j : ℕ). cnt j v ≡ 0) p z in
    let a = cnt_cons m k (left v k) in
    let b = hit k m (sym p) in
    let d = left_above v k m (omega arith) in
    ap (λ (x : List ℕ). cnt m x) (left_zero v k q) ∙ omega arith)
    (λ (p : m ≡ k → ⊥).
    let ih = left_one v k m (omega arith) z in
    ⊎_elim
    (λ (q : cnt k v ≡ 0). let a = cnt_cons m k (left v k) in let b = miss k m (λ r. p (sym r)) in ap (λ (x : List ℕ). cnt m x) (left_zero v k q) ∙ omega arith)
    (λ (q : cnt k v ≡ 0 → ⊥). ap (λ (x : List ℕ). cnt m x) (left_more v k q) ∙ ih)
    (same? (cnt k v) 0))
    (same? m k)

left_none : (v : List ℕ) (k m : ℕ) → (cnt m v ≡ 0 → ⊥) → cnt m (left v k) ≡ 0
unfolding left
left_none v zero m n = cnt_empty m
left_none v (suc k) m n = ⊎_elim
    (λ (q : cnt k v ≡ 0).
    let a = cnt_cons m k (left v k) in
    let b = miss k m (λ p. n (subst (λ (j : ℕ). cnt j v ≡ 0) p q)) in
    let d = left_none v k m n in
    ap (λ (x : List ℕ). cnt m x) (left_zero v k q) ∙ omega arith)
    (λ (q : cnt k v ≡ 0 → ⊥). ap (λ (x : List ℕ). cnt m x) (left_more v k q) ∙ left_none v k m n)
    (same? (cnt k v) 0)

-- all are below k
left_below : (v : List ℕ) (k i : ℕ) → i < length (left v k) → get_or (left v k) i 0 < k
unfolding left when
left_below v zero i l = absurd (omega arith)
left_below v (suc k) i l = go (eqb (cnt k v) 0) (λ j h. left_below v k j h) i l
  where
    go : (t : Bool) → ((j : ℕ) → j < length (left v k) → get_or (left v k) j 0 < k) → (i : ℕ) → i < length (when t k (left v k)) → get_or (when t k (left v k)) i 0 < suc k
    go true ih zero l = omega arith
    go true ih (suc i) l = let h = ih i (omega arith) in omega arith
    go false ih i l = let h = ih i l in omega arith

-- ---- how many are left
left_all : (k : ℕ) → length (left [] k) ≡ k
unfolding left when
left_all zero = refl
left_all (suc k) = ap (λ (x : List ℕ). length x) (left_zero [] k (cnt_empty k)) ∙ ap suc (left_all k)

-- one element more, whose member is not below k: nothing changes
left_same : (x : ℕ) (xs : List ℕ) (k : ℕ) → k ≤ x → left (x ∷ xs) k ≡ left xs k
unfolding left
left_same x xs zero l = refl
left_same x xs (suc k) l =
    let a = cnt_cons k x xs in
    let b = miss x k (λ p. omega arith) in
    let q : cnt k (x ∷ xs) ≡ cnt k xs = omega arith in
    ap₂ (λ (j : ℕ) (y : List ℕ). when (eqb j 0) k y) q (left_same x xs k (omega arith))

-- one element more takes one member
left_taken : (x : ℕ) (xs : List ℕ) (k : ℕ) → x < k → cnt x xs ≡ 0 → length (left xs k) ≡ suc (length (left (x ∷ xs) k))
left_taken x xs zero l z = absurd (omega arith)
left_taken x xs (suc k) l z =
    let a = cnt_cons k x xs in
    ⊎_elim
    (λ (p : x ≡ k).
    let b = hit x k p in
    let q : cnt k xs ≡ 0 = subst (λ (j : ℕ). cnt j xs ≡ 0) p z in
    let s = ap (λ (y : List ℕ). length y) (left_zero xs k q) in
    let t = ap (λ (y : List ℕ). length y) (left_more (x ∷ xs) k (λ e. omega arith)) in
    let u = ap (λ (y : List ℕ). length y) (left_same x xs k (omega arith)) in
    omega arith)
    (λ (p : x ≡ k → ⊥).
    let b = miss x k p in
    let ih = left_taken x xs k (omega arith) z in
    ⊎_elim
    (λ (q : cnt k xs ≡ 0).
    let s = ap (λ (y : List ℕ). length y) (left_zero xs k q) in
    let t = ap (λ (y : List ℕ). length y) (left_zero (x ∷ xs) k (omega arith)) in
    omega arith)
    (λ (q : cnt k xs ≡ 0 → ⊥).
    let s = ap (λ (y : List ℕ). length y) (left_more xs k q) in
    let t = ap (λ (y : List ℕ). length y) (left_more (x ∷ xs) k (λ e. omega arith)) in
    omega arith)
    (same? (cnt k xs) 0))
    (same? x k)

left_size : (v : List ℕ) (k : ℕ) → ((e : ℕ) → e < length v → get_or v e 0 < k) → ((m : ℕ) → m < k → cnt m v ≤ 1) → length v + length (left v k) ≡ k
left_size [] k low once = let a = left_all k in omega arith
left_size (x ∷ xs) k low once =
    let l : x < k = low 0 (omega arith) in
    let a = cnt_cons x x xs in
    let b = hit x x refl in
    let o = once x l in
    let t = left_taken x xs k l (omega arith) in
    let ih = left_size xs k (λ e h. low (suc e) (suc-le-suc h)) (λ m h. let d = cnt_cons m x xs in let y = once m h in omega arith) in
    omega arith

-- ---- k members, each once, on k places: every place has one
all : ℕ → Bool
all i = true

count_all : (n : ℕ) → count all n ≡ n
unfolding count all
count_all zero = refl
count_all (suc n) = let a = count_all n in omega arith

other : ℕ → ℕ → Bool
other e i = not (eqb i e)

other_same : (e : ℕ) → other e e ≡ false
unfolding other
other_same e = ap not (eq-eqb e e refl)

other_than : (e i : ℕ) → (i ≡ e → ⊥) → other e i ≡ true
unfolding other
other_than e i n = ap not (ne_eqb i e n)

all_in : (v : ℕ) → all v ≡ true
unfolding all
all_in v = refl

full_places : (a : List ℕ) (k : ℕ) → length a ≡ k → ((m : ℕ) → m < k → cnt m a ≡ 1) → (e : ℕ) → e < k → get_or a e 0 < k
full_places a k size once e l = ⊎_elim
    (λ (h : get_or a e 0 < k). h)
    (λ (h : k ≤ get_or a e 0).
    let some = count_places all k a (λ v z _. let o = once v z in omega arith) in
    let into = places_into all (other e) k a 0 (λ i z low _. other_than e (0 + i) (λ q.
    let p : i ≡ e = omega arith in
    let r : get_or a i 0 ≡ get_or a e 0 = ap (λ (j : ℕ). get_or a j 0) p in
    omega arith)) in
    let z = count_zero (other e) in
    let same = ap (λ (j : ℕ). count (other e) j) (let q : 0 + length a ≡ k = omega arith in q) in
    let less = count_less {P = other e} {S = all} (λ v _. all_in v) e (other_same e) (all_in e) k l in
    absurd (omega arith))
    (below (get_or a e 0) k)

-- ---- a filling and the members that it leaves
module _ {may : ℕ → ℕ → Bool} {padded : ℕ → ℕ → Bool} {k n : ℕ} (p : Padded may n k padded) (few : k ≤ 32) where
  pub fills_assigns : {v : List ℕ} → Fills may k n v → Assigns padded 0 k 0 k (v ++ left v k)
  fills_assigns {v} f =
      let size = f.size in
      let sum = left_size v k (λ e l. f.member e (omega arith)) f.once in
      let long = length-append v (left v k) in
      let right : (x i : ℕ) → x < k → padded x i ≡ true → takes padded 0 k (0 + i) x ≡ true = λ x i l h.
      takes_member padded 0 k (0 + i) x (between_in 0 (0 + k) x (omega arith) (omega arith))
      (subst (λ (j : ℕ). padded x j ≡ true) (let q : i ≡ 0 + i = omega arith in q) h) in
      record {
        size = omega arith;
        right = λ i l. ⊎_elim
            (λ (h : i < n).
            let q : get_or (v ++ left v k) i 0 ≡ get_or v i 0 = get_or-append v (left v k) 0 i (omega arith) in
            subst (λ (x : ℕ). takes padded 0 k (0 + i) x ≡ true) (sym q)
            (right (get_or v i 0) i (f.member i h) (p.own (get_or v i 0) i h ∙ f.right i h)))
            (λ (h : n ≤ i).
            let j = i - n in
            let z : i ≡ length v + j = omega arith in
            let q : get_or (v ++ left v k) i 0 ≡ get_or (left v k) j 0 = ap (λ (d : ℕ). get_or (v ++ left v k) d 0) z ∙ get_or-append-add v (left v k) j 0 in
            let low = left_below v k j (omega arith) in
            subst (λ (x : ℕ). takes padded 0 k (0 + i) x ≡ true) (sym q)
            (right (get_or (left v k) j 0) i low (p.full (get_or (left v k) j 0) i h (omega arith) ∙ between_in 0 k (get_or (left v k) j 0) (omega arith) low)))
            (below i n);
        once = λ m _ l.
            let a = cnt_append m v (left v k) in
            let o = f.once m (omega arith) in
            ⊎_elim
            (λ (z : cnt m v ≡ 0). let b = left_one v k m (omega arith) z in omega arith)
            (λ (z : cnt m v ≡ 0 → ⊥). let b = left_none v k m z in omega arith)
            (same? (cnt m v) 0);
      }

  pub assigns_fills : {a : List ℕ} → n ≤ k → Assigns padded 0 k 0 k a → Fills may k n (take n a)
  assigns_fills {a} l g =
      let size = g.size in
      let low : (e : ℕ) → e < k → get_or a e 0 < k = full_places a k (omega arith) (λ m h. g.once m (omega arith) (omega arith)) in
      let at : (e : ℕ) → e < n → get_or (take n a) e 0 ≡ get_or a e 0 = λ e h. get_or-take n a e 0 h in
      let long = length-take n a in
      record {
        size = omega arith;
        member = λ e h. let q = at e h in let y = low e (omega arith) in omega arith;
        right = λ e h.
            let x = get_or a e 0 in
            let y = low e (omega arith) in
            let t : takes padded 0 k e x ≡ true = subst (λ (j : ℕ). takes padded 0 k j x ≡ true) (let q : 0 + e ≡ e = omega arith in q) (g.right e (omega arith)) in
            let m : padded x e ≡ true = ⊎_elim (λ (z : x ≡ 255). absurd (omega arith)) (λ (z : (between 0 (0 + k) x ≡ true) × (padded x e ≡ true)). z.1) (takes_inv padded 0 k e x t) in
            subst (λ (j : ℕ). may j e ≡ true) (sym (at e h)) (sym (p.own x e h) ∙ m);
        once = λ m h.
            let c = cnt_append m (take n a) (drop n a) in
            let w = ap (λ (x : List ℕ). cnt m x) (take-append-drop n a) in
            let o = g.once m (omega arith) (omega arith) in
            omega arith;
      }

  -- the first bytes of the first assignment with the pad
  pub filling_first : (w : List ℕ) → n ≤ k → First (Assigns padded 0 k 0 k) (take k w) → First (Fills may k n) (take n w)
  filling_first w l f =
      let q : take n (take k w) ≡ take n w = take-take n k w l in
      let whole : take k w ≡ take n w ++ drop n (take k w) = sym (take-append-drop n (take k w)) ∙ ap (λ (x : List ℕ). x ++ drop n (take k w)) q in
      let holds : Fills may k n (take n w) = subst (λ (x : List ℕ). Fills may k n x) q (assigns_fills l f.holds) in
      record {
        holds = holds;
        least = λ v g. not_so (earlier v (take n w)) (λ e. clash
            (ap (λ (x : List ℕ). earlier (v ++ left v k) x) whole ∙ earlier_append_left v (take n w) (left v k) (drop n (take k w)) (g.size ∙ sym holds.size) e)
            (f.least (v ++ left v k) (fills_assigns g)));
      }

-- ---- what `first_filling` gives
-- more elements than members
pub filling_crowded : {may : ℕ → ℕ → Bool} {k n : ℕ} → n ≤ 32 → k < n → Filling may k n false (replicate 32 255)
filling_crowded {may} {k} {n} h l = record {
  best = λ t. absurd (clash t refl);
  none = λ _ v f.
      let size = f.size in
      let sum = left_size v k (λ e z. f.member e (omega arith)) f.once in
      omega arith;
  size = length-replicate {A = ℕ} 32 255;
  outside = λ i _ z. get_or-replicate {A = ℕ} 32 i 255 0 z;
  blank = λ _. refl;
}

splice_take : {a b r : List ℕ} {n : ℕ} → n ≤ 32 → length a ≡ 32 → Spliced a b 0 n r → take n r ≡ take n a
splice_take {a} {b} {r} {n} h la s =
    let lr = s.size in
    let x = length-take n r in
    let y = length-take n a in
    ext_get_or 0 (take n r) (take n a) (omega arith) (λ i l. get_or-take n r i 0 (omega arith) ∙ s.inside i (omega arith) (omega arith) ∙ sym (get_or-take n a i 0 (omega arith)))

pub filling_answer : {may : ℕ → ℕ → Bool} {padded : ℕ → ℕ → Bool} {k n : ℕ} {found : Bool} {w r : List ℕ} → k ≤ 32 → n ≤ k → Padded may n k padded → Answer padded 0 k 0 k found w
    → Spliced w (replicate 32 255) 0 n r → Filling may k n found r
filling_answer {may} {padded} {k} {n} {found} {w} {r} few l p a s =
    let long = s.size in
    let spare : (i : ℕ) → i < 32 → ◌≡◌ {A = ℕ} (get_or (replicate 32 255) i 0) 255 = λ i h. get_or-replicate {A = ℕ} 32 i 255 0 h in
    record {
      best = λ t. subst (λ (x : List ℕ). First (Fills may k n) x) (sym (splice_take (omega arith) a.size s)) (filling_first p few w l (a.best t));
      none = λ f v g. a.none f (v ++ left v k) (fills_assigns p few g);
      size = s.size;
      outside = λ i h z. s.after i h ∙ spare i z;
      blank = λ f. ext_get_or 0 r (replicate 32 255) (long ∙ sym (length-replicate {A = ℕ} 32 255)) (λ i z. ⊎_elim
          (λ (h : i < n). s.inside i (omega arith) h ∙ ap (λ (x : List ℕ). get_or x i 0) (a.blank f))
          (λ (h : n ≤ i). s.after i h)
          (below i n));
    }

-- ---- the rows: those of the elements, then full ones
pub padded_copied : (rows front : List ℕ) {k n : ℕ} (all : ℕ) → n ≤ 32 → length rows ≡ 32 → front ≡ take n rows → ((m : ℕ) → bit all m ≡ between 0 k m)
    → Padded (may rows) n k (may (front ++ drop n (replicate 32 all)))
unfolding may
padded_copied rows front {k} {n} row few long same h =
    let size : length front ≡ n = ap (λ (x : List ℕ). length x) same ∙ length-take-le n rows (omega arith) in
    record {
      own = λ m e l.
          let there : get_or front e 0 ≡ get_or rows e 0 = ap (λ (x : List ℕ). get_or x e 0) same ∙ get_or-take n rows e 0 l in
          ap (λ (x : ℕ). bit x m) (get_or_append_left front (drop n (replicate 32 row)) 0 e (omega arith) ∙ there);
      full = λ m e g l.
          let right = get_or-append_right front (drop n (replicate 32 row)) n e 0 size g in
          let at : n + (e - n) ≡ e = omega arith in
          ap (λ (x : ℕ). bit x m) (right ∙ get_or-drop n (replicate 32 row) (e - n) 0 ∙ ap (λ (i : ℕ). get_or (replicate 32 row) i 0) at ∙ get_or-replicate {A = ℕ} 32 e row 0 l) ∙ h m;
    }
