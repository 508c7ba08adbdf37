-- Readings put together: what was read with fewer depths left is read the same with more, two readings in a row are one, and each element template
-- takes a byte at least. Assumes nothing.
-- joined es fs == es, then fs
-- Follows p q <-> where the reader p accepts, q gives the same
use mathlib.Core.Path.{◌≡◌, refl, sym, ap, ◌∙◌}
use mathlib.Core.Bool.{Bool, true, false, ◌||◌, or_assoc}
use mathlib.Core.List.{List}
use Prim.Native.Nat.{ℕ, zero, suc, ◌+◌, ◌-◌, ◌≤◌, ◌<◌}
use native.Mathlib.Omega.{arith}
use borrow.Author.Tests.{le-ltb}
use lib.ListN.{length, length-drop}
use Rattle.grammar.specs.Element.{Elem, Elems, none, more}
use Rattle.grammar.specs.Record.{Head}
use Rattle.format.specs.declared.Family.{Family}
use Rattle.grammar.specs.Family.{LeafOf, leaves_of}
use Rattle.grammar.specs.Read.{Read, got}
use Rattle.grammar.specs.Reading.{Counted, counted, put_first, then_more, many, closed, opened, elem}
use Rattle.grammar.specs.Matches.{matches_by, any_matches_by}
use Rattle.grammar.proofs.ReadApart.{grouped, Got, got_leaf, got_group, elem_inv, many_first, many_none, single_at, range_at, any_at, one_at, float_range_at, any_float_at, LeafOn, leaf_on, group_at}

-- ---- one after the other

module _ {L : Type 0} where
  abbrev pub joined : Elems L → Elems L → Elems L
  joined none fs = fs
  joined (more e es) fs = more e (joined es fs)

  pub any_joined : {X : Type 0} (test : L → X → Bool) (es fs : Elems L) (x : X) → any_matches_by test (joined es fs) x ≡ (any_matches_by test es x || any_matches_by test fs x)
  unfolding any_matches_by
  any_joined test none fs x = refl
  any_joined test (more e es) fs x = ap (λ (u : Bool). matches_by test e x || u) (any_joined test es fs x) ∙ sym (or_assoc (matches_by test e x) (any_matches_by test es x) (any_matches_by test fs x))

  -- one, then the others
  pub many_more : (p : ℕ → List ℕ → Read (Counted (Elem L))) (n k : ℕ) (s : List ℕ) (e : Elem L) (k₁ : ℕ) (s₁ : List ℕ) (es : Elems L) (k' : ℕ) (s' : List ℕ)
      → p k s ≡ got (counted e k₁) s₁ → many p n k₁ s₁ ≡ got (counted es k') s' → many p (suc n) k s ≡ got (counted (more e es) k') s'
  unfolding many then_more put_first
  many_more p n k s e k₁ s₁ es k' s' one others = rw (one, others)

  pub many_joined : (p : ℕ → List ℕ → Read (Counted (Elem L))) (a b k : ℕ) (s : List ℕ) (es : Elems L) (k₁ : ℕ) (s₁ : List ℕ) (fs : Elems L) (k₂ : ℕ) (s₂ : List ℕ)
      → many p a k s ≡ got (counted es k₁) s₁ → many p b k₁ s₁ ≡ got (counted fs k₂) s₂ → many p (a + b) k s ≡ got (counted (joined es fs) k₂) s₂
  many_joined p zero b k s es k₁ s₁ fs k₂ s₂ q r =
      let v = many_none p 0 k s es k₁ s₁ refl q in
      let all : many p b k s ≡ got (counted fs k₂) s₂ = rw (sym v.1, sym v.2) r in
      let none_first : 0 + b ≡ b = omega arith in
      rw (v.0, none_first) all
  many_joined p (suc a) b k s es k₁ s₁ fs k₂ s₂ q r =
      let f = many_first p a k s es k₁ s₁ q in
      let one_first : suc a + b ≡ suc (a + b) = omega arith in
      rw (f.both, one_first) (many_more p (a + b) k s f.e f.k₁ f.s₁ (joined f.es₁ fs) k₂ s₂ f.one (many_joined p a b f.k₁ f.s₁ f.es₁ k₁ s₁ fs k₂ s₂ f.others r))

-- ---- with more depths left

module _ {L : Type 0} where
  abbrev pub Follows : (p q : ℕ → List ℕ → Read (Counted (Elem L))) → Type 0
  Follows p q = (k : ℕ) (s : List ℕ) (e : Elem L) (k' : ℕ) (s' : List ℕ) → p k s ≡ got (counted e k') s' → q k s ≡ got (counted e k') s'

  pub many_follows : (p q : ℕ → List ℕ → Read (Counted (Elem L))) → Follows p q
      → (n k : ℕ) (s : List ℕ) (es : Elems L) (k' : ℕ) (s' : List ℕ) → many p n k s ≡ got (counted es k') s' → many q n k s ≡ got (counted es k') s'
  unfolding many
  many_follows p q h zero k s es k' s' r = r
  many_follows p q h (suc n) k s es k' s' r =
      let f = many_first p n k s es k' s' r in
      rw f.both (many_more q n k s f.e f.k₁ f.s₁ f.es₁ k' s' (h k s f.e f.k₁ f.s₁ f.one) (many_follows p q h n f.k₁ f.s₁ f.es₁ k' s' f.others))

module _ {L : Type 0} (leaves : List ℕ → Head L) where
  deeper_by : (left : ℕ) → Follows (elem leaves (left - 1)) (elem leaves left) → (k : ℕ) (s : List ℕ) (e : Elem L) (k' : ℕ) (s' : List ℕ) → Got leaves left k s e k' s' → elem leaves (suc left) k s ≡ got (counted e k') s'
  unfolding elem opened closed
  deeper_by left h k s e k' s' (got_leaf l d q x f b) = rw (q, le-ltb 63 k f, x, b)
  deeper_by left h k s e k' s' (got_group c n i es d q m x) =
      let inner = many_follows (elem leaves (left - 1)) (elem leaves left) h n k i es k' s' m in
      rw (q, inner, x) (shut c es)
    where
      shut : (c : Bool) (es : Elems L) → closed c (got (counted es k') s') ≡ got (counted (grouped c es) k') s'
      shut false es = refl
      shut true es = refl

  pub elem_deeper : (left : ℕ) → Follows (elem leaves left) (elem leaves (suc left))
  elem_deeper zero k s e k' s' r = deeper_by 0 (λ k s e k' s' r. r) k s e k' s' (elem_inv leaves 0 k s e k' s' r)
  elem_deeper (suc left) k s e k' s' r =
      let down : suc left - 1 ≡ left = omega arith in
      deeper_by (suc left) (rw down (elem_deeper left)) k s e k' s' (elem_inv leaves (suc left) k s e k' s' r)

  -- the members of a list, read with its own depths left
  pub members_deeper : (left n k : ℕ) (s : List ℕ) (es : Elems L) (k' : ℕ) (s' : List ℕ) → many (elem leaves (left - 1)) n k s ≡ got (counted es k') s' → many (elem leaves left) n k s ≡ got (counted es k') s'
  members_deeper zero n k s es k' s' r = r
  members_deeper (suc left) n k s es k' s' r =
      let down : suc left - 1 ≡ left = omega arith in
      many_follows (elem leaves left) (elem leaves (suc left)) (elem_deeper left) n k s es k' s' (rw down at r)

-- ---- bytes that were read

-- each element template takes one at least
many_takes : {L : Type 0} (p : ℕ → List ℕ → Read (Counted (Elem L))) → ((k : ℕ) (s : List ℕ) (e : Elem L) (k' : ℕ) (s' : List ℕ) → p k s ≡ got (counted e k') s' → length s' < length s)
    → (n k : ℕ) (s : List ℕ) (es : Elems L) (k' : ℕ) (s' : List ℕ) → many p n k s ≡ got (counted es k') s' → length s' + n ≤ length s
many_takes p h zero k s es k' s' r = omega (arith, ap length (many_none p 0 k s es k' s' refl r).2)
many_takes p h (suc n) k s es k' s' r =
    let f = many_first p n k s es k' s' r in
    omega (arith, h k s f.e f.k₁ f.s₁ f.one, many_takes p h n f.k₁ f.s₁ f.es₁ k' s' f.others)

leaf_takes : (f : Family) (s : List ℕ) (l : LeafOf f) (s' : List ℕ) → LeafOn f s 0 l s' → length s' < length s
leaf_takes Family.Integers s l s' (single_at k i e r) = omega (arith, ap length r, length-drop 5 s)
leaf_takes Family.Integers s l s' (range_at k i o e r) = omega (arith, ap length r, length-drop 9 s)
leaf_takes Family.Integers s l s' (any_at k i e r) = omega (arith, ap length r, length-drop 1 s)
leaf_takes Family.Floats s l s' (one_at k i e r) = omega (arith, ap length r, length-drop 9 s)
leaf_takes Family.Floats s l s' (float_range_at k i e r) = omega (arith, ap length r, length-drop 17 s)
leaf_takes Family.Floats s l s' (any_float_at k i e r) = omega (arith, ap length r, length-drop 1 s)

module _ (fam : Family) where
  takes_by : (left : ℕ) → ((n k : ℕ) (s : List ℕ) (es : Elems (LeafOf fam)) (k' : ℕ) (s' : List ℕ) → many (elem (leaves_of fam) (left - 1)) n k s ≡ got (counted es k') s' → length s' + n ≤ length s)
      → (k : ℕ) (s : List ℕ) (e : Elem (LeafOf fam)) (k' : ℕ) (s' : List ℕ) → Got (leaves_of fam) left k s e k' s' → length s' < length s
  takes_by left h k s e k' s' (got_leaf l d q x f b) = leaf_takes fam s l s' (leaf_on s 0 fam l s' q)
  takes_by left h k s e k' s' (got_group c n i es d q m x) =
      let g = group_at s 0 fam c n i q in
      omega (arith, g.fits, ap length g.after, length-drop 2 s, h n k i es k' s' m)

  pub elem_takes : (left k : ℕ) (s : List ℕ) (e : Elem (LeafOf fam)) (k' : ℕ) (s' : List ℕ) → elem (leaves_of fam) left k s ≡ got (counted e k') s' → length s' < length s
  elem_takes zero k s e k' s' r = go (elem_inv (leaves_of fam) 0 k s e k' s' r)
    where
      go : Got (leaves_of fam) 0 k s e k' s' → length s' < length s
      go (got_leaf l d q x f b) = absurd (omega arith)
      go (got_group c n i es d q m x) = absurd (omega arith)
  elem_takes (suc left) k s e k' s' r =
      let down : suc left - 1 ≡ left = omega arith in
      takes_by (suc left) (rw down (many_takes (elem (leaves_of fam) left) (elem_takes left))) k s e k' s' (elem_inv (leaves_of fam) (suc left) k s e k' s' r)

  pub members_take : (left n k : ℕ) (s : List ℕ) (es : Elems (LeafOf fam)) (k' : ℕ) (s' : List ℕ) → many (elem (leaves_of fam) left) n k s ≡ got (counted es k') s' → length s' + n ≤ length s
  members_take left = many_takes (elem (leaves_of fam) left) (elem_takes left)
