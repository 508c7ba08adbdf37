-- What was read, taken apart: an accepted element template's parts, and where in the bytes they stand. Assumes nothing.
-- Got       == what an element template that was read begins with: a leaf, or a list or complement and its members
-- First     == the first of several element templates, and the others
-- LeafAt, FloatAt == a leaf of the integer family, or of the float family, by its kind, where it stands; LeafOn f == one of the family f
-- GroupAt   == a list or a complement where it stands
use mathlib.Core.Path.{◌≡◌, refl, sym, ap, ap₂, ◌∙◌}
use mathlib.Core.Bool.{Bool, true, false, cond}
use mathlib.Core.List.{List}
use Prim.Native.Nat.{ℕ, zero, suc, ◌+◌, ◌-◌, ◌≤◌, ◌<◌}
use native.Mathlib.Omega.{arith}
use borrow.Author.Tests.{ltb-false, eqb-true, eqb-false}
use lib.Signed.{lt_z}
use lib.Ieee.{Float}
use lib.Dec.{ltb, eqb}
use lib.ListN.{length, get_or, drop, length-drop}
use lib.Seq.{get_or-drop, drop-drop}
use Rattle.integers.specs.Integer.{int_at}
use Rattle.format.specs.declared.Family.{Family}
use Rattle.floats.specs.Bytes.{float_at}
use Rattle.floats.specs.Leaves.{one_fault, bounds_fault}
use Rattle.floats.specs.declared.Bounds.{Bounds}
use Rattle.floats.specs.declared.Leaf.{Leaf as FloatLeaf}
use Rattle.facts.proofs.Cases.{by-test}
use Rattle.integers.proofs.FourBytes.{int_at_drop}
use Rattle.floats.proofs.FloatBytes.{float_at_drop}
use Rattle.grammar.specs.Element.{Elem, leaf, one_of, none_of, Elems, none, more}
use Rattle.grammar.specs.Record.{Head, fault, leaf_here, group, count_fault, fault_or, group_head, head}
use Rattle.grammar.specs.Leaf.{Leaf, single, range, any, single_head, range_head, leaf_head}
use Rattle.grammar.specs.FloatLeaf.{bounds_at, one_head, float_range_head, float_head}
use Rattle.grammar.specs.Family.{LeafOf, leaves_of}
use Rattle.grammar.specs.Read.{Read, refuse, got, or_refuse, refuse_or}
use Rattle.grammar.specs.Reading.{Counted, counted, put_first, then_more, many, closed, too_deep, opened, elem}
use Rattle.grammar.proofs.RecordParts.{kind_at, count_inv}

-- a fault, or none
pub refuse_is : {A : Type 0} (r : ℕ) (o : Read A) → (r ≡ 0 → ⊥) → refuse_or r o ≡ refuse r
refuse_is zero o n = absurd (n refl)
refuse_is (suc r) o n = refl

pub refuse_not : {A : Type 0} (r : ℕ) (o : Read A) → r ≡ 0 → refuse_or r o ≡ o
refuse_not zero o e = refl
refuse_not (suc r) o e = absurd (omega arith)

pub clash : {A : Type 0} {r : ℕ} {a : A} {s : List ℕ} → refuse r ≡ got a s → ⊥
clash {A = A} {r = r} {a = a} {s = s} e = let z : ◌≡◌ {A = ℕ} 0 1 = cc in omega arith

-- ---- element templates

abbrev pub grouped : {L : Type 0} → Bool → Elems L → Elem L
grouped false es = one_of es
grouped true es = none_of es

module _ {L : Type 0} (leaves : List ℕ → Head L) where
  pub data Got (left k : ℕ) (s : List ℕ) (e : Elem L) (k' : ℕ) (s' : List ℕ) : Type 0 where
    got_leaf : (l : L) → 0 < left → head leaves s ≡ leaf_here l s' → e ≡ leaf l → k ≤ 63 → k' ≡ k + 1 → Got left k s e k' s'
    got_group : (c : Bool) (n : ℕ) (inner : List ℕ) (es : Elems L) → 0 < left → head leaves s ≡ group c n inner
        → many (elem leaves (left - 1)) n k inner ≡ got (counted es k') s' → e ≡ grouped c es → Got left k s e k' s'

  pub elem_inv : (left k : ℕ) (s : List ℕ) (e : Elem L) (k' : ℕ) (s' : List ℕ) → elem leaves left k s ≡ got (counted e k') s' → Got left k s e k' s'
  unfolding elem too_deep opened closed
  elem_inv zero k s e k' s' q = absurd (go (head leaves s) q)
    where
      go : (h : Head L) → too_deep h ≡ got (counted e k') s' → ⊥
      go (fault r) q = clash q
      go (leaf_here l r) q = clash q
      go (group c n r) q = clash q
  elem_inv (suc left) k s e k' s' q = go (head leaves s) refl q
    where
      lower : suc left - 1 ≡ left
      lower = omega arith

      inside : (c : Bool) (n : ℕ) (r : List ℕ) (o : Read (Counted (Elems L))) → head leaves s ≡ group c n r → many (elem leaves left) n k r ≡ o → closed c o ≡ got (counted e k') s' → Got (suc left) k s e k' s'
      inside false n r (refuse x) f g h = absurd (clash h)
      inside true n r (refuse x) f g h = absurd (clash h)
      inside false n r (got (counted es a) t) f g h = got_group false n r es (omega arith) f (ap (λ d. many (elem leaves d) n k r) lower ∙ g ∙ cc) (cc)
      inside true n r (got (counted es a) t) f g h = got_group true n r es (omega arith) f (ap (λ d. many (elem leaves d) n k r) lower ∙ g ∙ cc) (cc)

      one : (b : Bool) (l : L) (r : List ℕ) → ltb 63 k ≡ b → head leaves s ≡ leaf_here l r → or_refuse b 8 (got (counted (leaf l) (k + 1)) r) ≡ got (counted e k') s' → Got (suc left) k s e k' s'
      one true l r b f h = absurd (clash h)
      one false l r b f h = got_leaf l (omega arith) (f ∙ cc) (cc) (ltb-false 63 k b) (cc)

      go : (h : Head L) → head leaves s ≡ h → opened (elem leaves left) k h ≡ got (counted e k') s' → Got (suc left) k s e k' s'
      go (fault r) f h = absurd (clash h)
      go (leaf_here l r) f h = one (ltb 63 k) l r refl f h
      go (group c n r) f h = inside c n r (many (elem leaves left) n k r) f refl h

-- ---- several

pub record First {L : Type 0} (p : ℕ → List ℕ → Read (Counted (Elem L))) (n k : ℕ) (s : List ℕ) (es : Elems L) (k' : ℕ) (s' : List ℕ) : Type 0 where
  pub e : Elem L
  pub k₁ : ℕ
  pub s₁ : List ℕ
  pub es₁ : Elems L
  pub one : p k s ≡ got (counted e k₁) s₁
  pub others : many p n k₁ s₁ ≡ got (counted es₁ k') s'
  pub both : es ≡ more e es₁

module _ {L : Type 0} (p : ℕ → List ℕ → Read (Counted (Elem L))) where
  pub many_first : (n k : ℕ) (s : List ℕ) (es : Elems L) (k' : ℕ) (s' : List ℕ) → many p (suc n) k s ≡ got (counted es k') s' → First p n k s es k' s'
  unfolding many then_more put_first
  many_first n k s es k' s' q = go (p k s) refl q
    where
      rest : (e : Elem L) (k₁ : ℕ) (s₁ : List ℕ) (o : Read (Counted (Elems L))) → p k s ≡ got (counted e k₁) s₁ → many p n k₁ s₁ ≡ o → put_first e o ≡ got (counted es k') s' → First p n k s es k' s'
      rest e k₁ s₁ (refuse r) f g h = absurd (clash h)
      rest e k₁ s₁ (got (counted es₁ a) t) f g h = record { e = e; k₁ = k₁; s₁ = s₁; es₁ = es₁; one = f; others = g ∙ cc; both = cc }

      go : (o : Read (Counted (Elem L))) → p k s ≡ o → then_more o (many p n) ≡ got (counted es k') s' → First p n k s es k' s'
      go (refuse r) f h = absurd (clash h)
      go (got (counted e k₁) s₁) f h = rest e k₁ s₁ (many p n k₁ s₁) f refl h

  pub many_inv : (n k : ℕ) (s : List ℕ) (es : Elems L) (k' : ℕ) (s' : List ℕ) → 0 < n → many p n k s ≡ got (counted es k') s' → First p (n - 1) k s es k' s'
  many_inv zero k s es k' s' l q = absurd (omega arith)
  many_inv (suc n) k s es k' s' l q =
      let down : suc n - 1 ≡ n = omega arith in
      rw down (many_first n k s es k' s' q)

  pub many_none : (n k : ℕ) (s : List ℕ) (es : Elems L) (k' : ℕ) (s' : List ℕ) → n ≡ 0 → many p n k s ≡ got (counted es k') s' → (es ≡ none) × (k' ≡ k) × (s' ≡ s)
  unfolding many
  many_none zero k s es k' s' l q = (cc, cc, cc)
  many_none (suc n) k s es k' s' l q = absurd (omega arith)

-- ---- the record at a place

pub record GroupAt (t : List ℕ) (at : ℕ) (c : Bool) (n : ℕ) (inner : List ℕ) : Type 0 where
  pub fits : at + 2 ≤ length t
  pub count : n ≡ get_or t (at + 1) 0
  pub some : 0 < n
  pub few : n ≤ 64
  pub after : inner ≡ drop (at + 2) t
  pub kind : get_or t at 0 ≡ cond c 5 4

pub data LeafAt (t : List ℕ) (at : ℕ) (l : Leaf) (rest : List ℕ) : Type 0 where
  single_at : get_or t at 0 ≡ 1 → at + 5 ≤ length t → l ≡ single (int_at t (at + 1)) → rest ≡ drop (at + 5) t → LeafAt t at l rest
  range_at : get_or t at 0 ≡ 2 → at + 9 ≤ length t → lt_z (int_at t (at + 5)) (int_at t (at + 1)) ≡ false → l ≡ range (int_at t (at + 1)) (int_at t (at + 5)) → rest ≡ drop (at + 9) t → LeafAt t at l rest
  any_at : get_or t at 0 ≡ 3 → at + 1 ≤ length t → l ≡ any → rest ≡ drop (at + 1) t → LeafAt t at l rest

pub data FloatAt (t : List ℕ) (at : ℕ) (l : FloatLeaf) (rest : List ℕ) : Type 0 where
  one_at : get_or t at 0 ≡ 6 → at + 9 ≤ length t → l ≡ FloatLeaf.Float (float_at t (at + 1)) → rest ≡ drop (at + 9) t → FloatAt t at l rest
  float_range_at : get_or t at 0 ≡ 7 → at + 17 ≤ length t → l ≡ FloatLeaf.Range (bounds_at t (at + 1)) → rest ≡ drop (at + 17) t → FloatAt t at l rest
  any_float_at : get_or t at 0 ≡ 3 → at + 1 ≤ length t → l ≡ FloatLeaf.Any → rest ≡ drop (at + 1) t → FloatAt t at l rest

abbrev pub LeafOn : (f : Family) → List ℕ → ℕ → LeafOf f → List ℕ → Type 0
LeafOn Family.Integers = LeafAt
LeafOn Family.Floats = FloatAt

-- the record at a place, or its fault
pub data HeadHere (f : Family) (t : List ℕ) (at : ℕ) (h : Head (LeafOf f)) : Type 0 where
  is_leaf : (l : LeafOf f) (rest : List ℕ) → h ≡ leaf_here l rest → LeafOn f t at l rest → HeadHere f t at h
  is_group : (c : Bool) (n : ℕ) (inner : List ℕ) → h ≡ group c n inner → GroupAt t at c n inner → HeadHere f t at h
  is_fault : (r : ℕ) → h ≡ fault r → HeadHere f t at h

-- a record with a fault of its own, or none
fault_cases : (f : Family) (t : List ℕ) (at r : ℕ) (h : Head (LeafOf f)) → HeadHere f t at h → HeadHere f t at (fault_or r h)
fault_cases f t at zero h a = a
fault_cases f t at (suc r) h a = is_fault (suc r) refl

module _ (t : List ℕ) (at : ℕ) where
  group_here : (f : Family) (c : Bool) → get_or t at 0 ≡ cond c 5 4 → at < length t → HeadHere f t at (group_head c (drop at t))
  unfolding group_head
  group_here f c k l = go (count_fault 1 64 (drop at t)) refl
    where
      go : (r : ℕ) → count_fault 1 64 (drop at t) ≡ r → HeadHere f t at (fault_or (count_fault 1 64 (drop at t)) (group c (get_or (drop at t) 1 0) (drop 2 (drop at t))))
      go zero e =
          let v = count_inv 1 64 t at e in
          is_group c (get_or t (at + 1) 0) (drop (at + 2) t) (rw (e, get_or-drop at t 1 0, drop-drop 2 at t))
          (record { fits = v.fits; count = refl; some = v.low; few = v.high; after = refl; kind = k })
      go (suc r) e = is_fault (suc r) (rw e)

  single_here : get_or t at 0 ≡ 1 → HeadHere Family.Integers t at (single_head (drop at t))
  unfolding single_head
  single_here k =
      by-test (ltb (length (drop at t)) 5)
      (λ e. is_fault 3 (rw e))
      (λ e. let f : 5 ≤ length (drop at t) = ltb-false (length (drop at t)) 5 e in
      is_leaf (single (int_at t (at + 1))) (drop (at + 5) t) (rw (e, int_at_drop t at 1, drop-drop 5 at t)) (single_at k (omega (arith, length-drop at t)) refl refl))

  range_here : get_or t at 0 ≡ 2 → HeadHere Family.Integers t at (range_head (drop at t))
  unfolding range_head
  range_here k =
      by-test (ltb (length (drop at t)) 9)
      (λ e. is_fault 3 (rw e))
      (λ e. let f : 9 ≤ length (drop at t) = ltb-false (length (drop at t)) 9 e in
      by-test (lt_z (int_at (drop at t) 5) (int_at (drop at t) 1))
      (λ o. is_fault 6 (rw (e, o)))
      (λ o. let o₁ : lt_z (int_at t (at + 5)) (int_at t (at + 1)) ≡ false = rw (int_at_drop t at 5, int_at_drop t at 1) at o in
      is_leaf (range (int_at t (at + 1)) (int_at t (at + 5))) (drop (at + 9) t) (rw (e, o, int_at_drop t at 1, int_at_drop t at 5, drop-drop 9 at t)) (range_at k (omega (arith, length-drop at t)) o₁ refl refl)))

  integer_here : at < length t → HeadHere Family.Integers t at (leaf_head (drop at t))
  unfolding leaf_head
  integer_here l =
      by-test (eqb (get_or (drop at t) 0 0) 1)
      (λ e. rw e (single_here (sym (kind_at t at) ∙ eqb-true _ 1 e)))
      (λ e. by-test (eqb (get_or (drop at t) 0 0) 2)
      (λ f. rw (e, f) (range_here (sym (kind_at t at) ∙ eqb-true _ 2 f)))
      (λ f. by-test (eqb (get_or (drop at t) 0 0) 3)
      (λ g. is_leaf any (drop (at + 1) t) (rw (e, f, g, drop-drop 1 at t)) (any_at (sym (kind_at t at) ∙ eqb-true _ 3 g) (omega arith) refl refl))
      (λ g. is_fault 4 (rw (e, f, g)))))

  one_here : get_or t at 0 ≡ 6 → HeadHere Family.Floats t at (one_head (drop at t))
  unfolding one_head
  one_here k =
      by-test (ltb (length (drop at t)) 9)
      (λ e. is_fault 3 (rw e))
      (λ e. let fits : 9 ≤ length (drop at t) = ltb-false (length (drop at t)) 9 e in
      rw e (fault_cases Family.Floats t at (one_fault (float_at (drop at t) 1)) _
      (is_leaf (FloatLeaf.Float (float_at t (at + 1))) (drop (at + 9) t) (rw (float_at_drop t at 1, drop-drop 9 at t)) (one_at k (omega (arith, length-drop at t)) refl refl))))

  bounds_drop : bounds_at (drop at t) 1 ≡ bounds_at t (at + 1)
  bounds_drop =
      let far : at + 9 ≡ at + 1 + 8 = omega arith in
      ap₂ made (float_at_drop t at 1) (float_at_drop t at 9 ∙ ap (float_at t) far)
    where
      made : Float → Float → Bounds
      made a b = record { lower = a; upper = b }

  float_range_here : get_or t at 0 ≡ 7 → HeadHere Family.Floats t at (float_range_head (drop at t))
  unfolding float_range_head
  float_range_here k =
      by-test (ltb (length (drop at t)) 17)
      (λ e. is_fault 3 (rw e))
      (λ e. let fits : 17 ≤ length (drop at t) = ltb-false (length (drop at t)) 17 e in
      rw e (fault_cases Family.Floats t at (bounds_fault (bounds_at (drop at t) 1)) _
      (is_leaf (FloatLeaf.Range (bounds_at t (at + 1))) (drop (at + 17) t) (ap₂ (λ b s. leaf_here (FloatLeaf.Range b) s) bounds_drop (drop-drop 17 at t)) (float_range_at k (omega (arith, length-drop at t)) refl refl))))

  float_here : at < length t → HeadHere Family.Floats t at (float_head (drop at t))
  unfolding float_head
  float_here l =
      by-test (eqb (get_or (drop at t) 0 0) 6)
      (λ e. rw e (one_here (sym (kind_at t at) ∙ eqb-true _ 6 e)))
      (λ e. by-test (eqb (get_or (drop at t) 0 0) 7)
      (λ f. rw (e, f) (float_range_here (sym (kind_at t at) ∙ eqb-true _ 7 f)))
      (λ f. by-test (eqb (get_or (drop at t) 0 0) 3)
      (λ g. is_leaf FloatLeaf.Any (drop (at + 1) t) (rw (e, f, g, drop-drop 1 at t)) (any_float_at (sym (kind_at t at) ∙ eqb-true _ 3 g) (omega arith) refl refl))
      (λ g. is_fault 4 (rw (e, f, g)))))

  leaf_here_lem : (f : Family) → at < length t → HeadHere f t at (leaves_of f (drop at t))
  leaf_here_lem Family.Integers l = integer_here l
  leaf_here_lem Family.Floats l = float_here l

  pub head_here : (fam : Family) → HeadHere fam t at (head (leaves_of fam) (drop at t))
  unfolding head
  head_here fam =
      by-test (eqb (length (drop at t)) 0)
      (λ e. is_fault 3 (rw e))
      (λ e. let some : at < length t = omega (arith, length-drop at t, eqb-false (length (drop at t)) 0 e) in
      by-test (eqb (get_or (drop at t) 0 0) 4)
      (λ f. rw (e, f) (group_here fam false (sym (kind_at t at) ∙ eqb-true _ 4 f) some))
      (λ f. by-test (eqb (get_or (drop at t) 0 0) 5)
      (λ g. rw (e, f, g) (group_here fam true (sym (kind_at t at) ∙ eqb-true _ 5 g) some))
      (λ g. rw (e, f, g) (leaf_here_lem fam some))))

  pub leaf_on : (f : Family) (l : LeafOf f) (rest : List ℕ) → head (leaves_of f) (drop at t) ≡ leaf_here l rest → LeafOn f t at l rest
  leaf_on f l rest q = go (head_here f)
    where
      go : HeadHere f t at (head (leaves_of f) (drop at t)) → LeafOn f t at l rest
      go (is_leaf m r e a) = let x : m ≡ l = cc in let y : r ≡ rest = cc in rw (sym x, sym y) a
      go (is_group c n i e a) = let z : ◌≡◌ {A = ℕ} 0 1 = cc in absurd (omega arith)
      go (is_fault r e) = let z : ◌≡◌ {A = ℕ} 0 1 = cc in absurd (omega arith)

  pub leaf_at : (l : Leaf) (rest : List ℕ) → head leaf_head (drop at t) ≡ leaf_here l rest → LeafAt t at l rest
  leaf_at = leaf_on Family.Integers

  pub group_at : (f : Family) (c : Bool) (n : ℕ) (inner : List ℕ) → head (leaves_of f) (drop at t) ≡ group c n inner → GroupAt t at c n inner
  group_at f c n inner q = go (head_here f)
    where
      go : HeadHere f t at (head (leaves_of f) (drop at t)) → GroupAt t at c n inner
      go (is_leaf m r e a) = let z : ◌≡◌ {A = ℕ} 0 1 = cc in absurd (omega arith)
      go (is_group d m i e a) = let x : d ≡ c = cc in let y : m ≡ n = cc in let w : i ≡ inner = cc in rw (sym x, sym y, sym w) a
      go (is_fault r e) = let z : ◌≡◌ {A = ℕ} 0 1 = cc in absurd (omega arith)
