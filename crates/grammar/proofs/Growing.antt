-- An element template that was read is read the same with any bytes behind it: what was left over is then left over with these. Assumes nothing.
use mathlib.Core.Path.{◌≡◌, refl, sym}
use mathlib.Core.Bool.{Bool, true, false}
use mathlib.Core.List.{List, ◌++◌}
use Prim.Native.Nat.{ℕ, zero, suc, ◌+◌, ◌-◌, ◌≤◌, ◌<◌}
use native.Mathlib.Omega.{arith}
use borrow.Author.Tests.{le-ltb, ne_eqb}
use lib.Dec.{ltb, eqb}
use lib.ListN.{length, get_or, length-append, get_or-append}
use lib.Seq.{drop-append-le}
use Rattle.format.specs.declared.Family.{Family}
use Rattle.integers.specs.Integer.{int_at}
use Rattle.grammar.specs.Element.{Elem, Elems}
use Rattle.grammar.specs.Record.{Head, leaf_here, group, count_fault, group_head, head}
use Rattle.grammar.specs.Leaf.{Leaf, single_head, range_head, leaf_head}
use Rattle.grammar.specs.Read.{got}
use Rattle.grammar.specs.Reading.{counted, many, closed, opened, elem}
use Rattle.grammar.proofs.ReadApart.{grouped, Got, got_leaf, got_group, elem_inv, many_first, many_none, GroupAt, LeafAt, single_at, range_at, any_at, leaf_at, group_at}
use Rattle.grammar.proofs.Deeper.{many_more}

-- ---- by a reader of leaves that is so at one record

module _ {L : Type 0} (h : List ℕ → Head L) (u : List ℕ)
    (leaf-grown : (s : List ℕ) (l : L) (r : List ℕ) → head h s ≡ leaf_here l r → head h (s ++ u) ≡ leaf_here l (r ++ u))
    (group-grown : (s : List ℕ) (c : Bool) (n : ℕ) (r : List ℕ) → head h s ≡ group c n r → head h (s ++ u) ≡ group c n (r ++ u)) where
  abbrev Grown : ℕ → Type 0
  Grown left = (k : ℕ) (s : List ℕ) (e : Elem L) (k' : ℕ) (s' : List ℕ) → elem h left k s ≡ got (counted e k') s' → elem h left k (s ++ u) ≡ got (counted e k') (s' ++ u)

  many_grown_by : (left : ℕ) → Grown left → (n k : ℕ) (s : List ℕ) (es : Elems L) (k' : ℕ) (s' : List ℕ) → many (elem h left) n k s ≡ got (counted es k') s'
      → many (elem h left) n k (s ++ u) ≡ got (counted es k') (s' ++ u)
  unfolding many
  many_grown_by left one zero k s es k' s' q = let v = many_none (elem h left) 0 k s es k' s' refl q in rw (v.0, v.1, v.2)
  many_grown_by left one (suc n) k s es k' s' q =
      let f = many_first (elem h left) n k s es k' s' q in
      rw f.both (many_more (elem h left) n k (s ++ u) f.e f.k₁ (f.s₁ ++ u) f.es₁ k' (s' ++ u) (one k s f.e f.k₁ f.s₁ f.one)
      (many_grown_by left one n f.k₁ f.s₁ f.es₁ k' s' f.others))

  step_grown : (left : ℕ) → Grown left → (k : ℕ) (s : List ℕ) (e : Elem L) (k' : ℕ) (s' : List ℕ) → Got h (suc left) k s e k' s' → elem h (suc left) k (s ++ u) ≡ got (counted e k') (s' ++ u)
  unfolding elem opened closed
  step_grown left one k s e k' s' (got_leaf l d q x f b) = rw (x, leaf-grown s l s' q, le-ltb 63 k f, b)
  step_grown left one k s e k' s' (got_group c n i es d q m x) =
      let down : suc left - 1 ≡ left = omega arith in
      rw (x, group-grown s c n i q, many_grown_by left one n k i es k' s' (rw down at m)) (shut c es)
    where
      shut : (c : Bool) (es : Elems L) → closed c (got (counted es k') (s' ++ u)) ≡ got (counted (grouped c es) k') (s' ++ u)
      shut false es = refl
      shut true es = refl

  elem_grown_by : (left : ℕ) → Grown left
  elem_grown_by zero k s e k' s' q = absurd (never (elem_inv h zero k s e k' s' q))
    where
      never : Got h zero k s e k' s' → ⊥
      never (got_leaf l d q x f b) = omega arith
      never (got_group c n i es d q m x) = omega arith
  elem_grown_by (suc left) k s e k' s' q = step_grown left (elem_grown_by left) k s e k' s' (elem_inv h (suc left) k s e k' s' q)

-- ---- one record of the integer family

module _ (u s : List ℕ) where
  byte_front : (i : ℕ) → i < length s → get_or (s ++ u) i 0 ≡ get_or s i 0
  byte_front i h = get_or-append s u 0 i h

  int_front : (i : ℕ) → i + 4 ≤ length s → int_at (s ++ u) i ≡ int_at s i
  unfolding int_at
  int_front i h = rw (byte_front i (omega arith), byte_front (i + 1) (omega arith), byte_front (i + 2) (omega arith), byte_front (i + 3) (omega arith))

  long_enough : (n : ℕ) → n ≤ length s → ltb (length (s ++ u)) n ≡ false
  long_enough n h = le-ltb (length (s ++ u)) n (omega (arith, length-append s u))

  some_there : 0 < length s → eqb (length (s ++ u)) 0 ≡ false
  some_there h = ne_eqb (length (s ++ u)) 0 (λ e. omega (arith, length-append s u))

  leaf_there : (l : Leaf) (r : List ℕ) → LeafAt s 0 l r → head leaf_head (s ++ u) ≡ leaf_here l (r ++ u)
  unfolding head leaf_head single_head range_head
  leaf_there l r (single_at k n x e) =
      rw (x, e, some_there (omega arith), byte_front 0 (omega arith), k, long_enough 5 n, int_front 1 (omega arith), drop-append-le 5 s u n)
  leaf_there l r (range_at k n o x e) =
      rw (x, e, some_there (omega arith), byte_front 0 (omega arith), k, long_enough 9 n, int_front 1 (omega arith), int_front 5 (omega arith), o, drop-append-le 9 s u n)
  leaf_there l r (any_at k n x e) = rw (x, e, some_there n, byte_front 0 n, k, drop-append-le 1 s u n)

  group_there : {L : Type 0} (h : List ℕ → Head L) (c : Bool) (n : ℕ) (r : List ℕ) → GroupAt s 0 c n r → head h (s ++ u) ≡ group c n (r ++ u)
  unfolding head group_head count_fault
  group_there h false n r g =
      let b = g.fits in
      rw (some_there (omega arith), byte_front 0 (omega arith), g.kind, long_enough 2 b, byte_front 1 b, sym g.count, le-ltb n 1 g.some, le-ltb 64 n g.few, drop-append-le 2 s u b, g.after)
  group_there h true n r g =
      let b = g.fits in
      rw (some_there (omega arith), byte_front 0 (omega arith), g.kind, long_enough 2 b, byte_front 1 b, sym g.count, le-ltb n 1 g.some, le-ltb 64 n g.few, drop-append-le 2 s u b, g.after)

-- ---- of integers

module _ (u : List ℕ) (left : ℕ) where
  pub elem_grown : (k : ℕ) (s : List ℕ) (e : Elem Leaf) (k' : ℕ) (s' : List ℕ) → elem leaf_head left k s ≡ got (counted e k') s' → elem leaf_head left k (s ++ u) ≡ got (counted e k') (s' ++ u)
  elem_grown = elem_grown_by leaf_head u (λ s l r q. leaf_there u s l r (leaf_at s 0 l r q)) (λ s c n r q. group_there u s leaf_head c n r (group_at s 0 Family.Integers c n r q)) left
