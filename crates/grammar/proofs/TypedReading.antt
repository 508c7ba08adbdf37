-- Readings with an element type and without one: what is read with a type is read the same without, and its leaves lie inside the type; what is read
-- without one, and lies inside, is read the same with it; with the least and the greatest integer every reading is the same. Assumes nothing.
-- Every P e, EveryOf P es <-> each leaf of e, or of es, is P
-- Inside lo hi e, InsideAll lo hi es <-> no leaf of e, or of es, reaches outside the type from lo to hi
use mathlib.Core.Path.{◌≡◌, refl, sym, ap, ◌∙◌}
use mathlib.Core.Bool.{Bool, true, false}
use mathlib.Core.List.{List}
use Prim.Native.Nat.{ℕ, zero, suc, ◌-◌}
use native.Mathlib.Omega.{arith}
use borrow.Author.Tests.{le-ltb}
use lib.Dec.{eqb}
use lib.IntN.{ℤ}
use lib.Signed.{lt_z}
use lib.ListN.{length, get_or, drop}
use Rattle.integers.specs.Integer.{Word, least, greatest, int_at}
use Rattle.integers.specs.Rank.{rank}
use Rattle.integers.proofs.FourBytes.{word_int_at}
use Rattle.integers.proofs.Ranks.{rank_word, rank_lt_z}
use Rattle.facts.proofs.Cases.{by-test}
use Rattle.format.specs.declared.Family.{Family}
use Rattle.grammar.specs.Element.{Elem, leaf, one_of, none_of, Elems, none, more}
use Rattle.grammar.specs.Record.{Head, fault, leaf_here, group, count_fault, fault_or, group_head, head}
use Rattle.grammar.specs.Leaf.{Leaf, leaf_head, reaches, of_type, typed_head}
use Rattle.grammar.specs.Family.{LeafOf, leaves_of, leaves_in}
use Rattle.grammar.specs.Read.{Read, refuse, got}
use Rattle.grammar.specs.Reading.{Counted, counted, put_first, then_more, many, closed, too_deep, opened, elem, read_element}
use Rattle.grammar.proofs.ReadApart.{grouped, Got, got_leaf, got_group, elem_inv, many_first, many_none, LeafAt, single_at, range_at, any_at, leaf_at}
use Rattle.grammar.proofs.Deeper.{many_more}

-- ---- leaves

unfoldable mutual
  pub Every : {L : Type 0} → (L → Type 0) → Elem L → Type 0
  Every P (leaf l) = P l
  Every P (one_of es) = EveryOf P es
  Every P (none_of es) = EveryOf P es

  pub EveryOf : {L : Type 0} → (L → Type 0) → Elems L → Type 0
  EveryOf P none = Unit {0}
  EveryOf P (more e es) = Every P e × EveryOf P es

abbrev pub Inside : ℤ → ℤ → Elem Leaf → Type 0
Inside lo hi e = Every (λ l. reaches lo hi l ≡ false) e

abbrev pub InsideAll : ℤ → ℤ → Elems Leaf → Type 0
InsideAll lo hi es = EveryOf (λ l. reaches lo hi l ≡ false) es

mutual
  unfolding Every

  whatever : {L : Type 0} (e : Elem L) → Every (λ l. Unit {0}) e
  whatever (leaf l) = tt
  whatever (one_of es) = whatever_all es
  whatever (none_of es) = whatever_all es

  whatever_all : {L : Type 0} (es : Elems L) → EveryOf (λ l. Unit {0}) es
  whatever_all none = tt
  whatever_all (more e es) = (whatever e, whatever_all es)

every_grouped : {L : Type 0} (P : L → Type 0) (c : Bool) (es : Elems L) → EveryOf P es → Every P (grouped c es)
unfolding Every
every_grouped P false es a = a
every_grouped P true es a = a

of_grouped : {L : Type 0} (P : L → Type 0) (c : Bool) (es : Elems L) → Every P (grouped c es) → EveryOf P es
unfolding Every
of_grouped P false es a = a
of_grouped P true es a = a

-- ---- two readers of leaves, the second of which reads a leaf that is P as the first, and then it is Q

module _ {L : Type 0} (h h' : List ℕ → Head L) (P Q : L → Type 0)
    (leaf_over : (s : List ℕ) (l : L) (r : List ℕ) → head h s ≡ leaf_here l r → P l → (head h' s ≡ leaf_here l r) × Q l)
    (group-over : (s : List ℕ) (c : Bool) (n : ℕ) (r : List ℕ) → head h s ≡ group c n r → head h' s ≡ group c n r) where
  abbrev Over : ℕ → Type 0
  Over left = (k : ℕ) (s : List ℕ) (e : Elem L) (k' : ℕ) (s' : List ℕ) → elem h left k s ≡ got (counted e k') s' → Every P e
      → (elem h' left k s ≡ got (counted e k') s') × Every Q e

  many_over : (left : ℕ) → Over left → (n k : ℕ) (s : List ℕ) (es : Elems L) (k' : ℕ) (s' : List ℕ) → many (elem h left) n k s ≡ got (counted es k') s' → EveryOf P es
      → (many (elem h' left) n k s ≡ got (counted es k') s') × EveryOf Q es
  unfolding many Every
  many_over left one zero k s es k' s' q a = let v = many_none (elem h left) 0 k s es k' s' refl q in (q, rw v.0 tt)
  many_over left one (suc n) k s es k' s' q a =
      let f = many_first (elem h left) n k s es k' s' q in
      let b : Every P f.e × EveryOf P f.es₁ = rw f.both at a in
      let first = one k s f.e f.k₁ f.s₁ f.one b.0 in
      let others = many_over left one n f.k₁ f.s₁ f.es₁ k' s' f.others b.1 in
      rw f.both (many_more (elem h' left) n k s f.e f.k₁ f.s₁ f.es₁ k' s' first.0 others.0, (first.1, others.1))

  step_over : (left : ℕ) → Over left → (k : ℕ) (s : List ℕ) (e : Elem L) (k' : ℕ) (s' : List ℕ) → Got h (suc left) k s e k' s' → Every P e
      → (elem h' (suc left) k s ≡ got (counted e k') s') × Every Q e
  unfolding elem opened closed Every
  step_over left one k s e k' s' (got_leaf l d q x f b) a =
      let p : P l = rw x at a in
      let o = leaf_over s l s' q p in
      rw (x, o.0, le-ltb 63 k f, b) (refl, o.1)
  step_over left one k s e k' s' (got_group c n i es d q m x) a =
      let down : suc left - 1 ≡ left = omega arith in
      let p : EveryOf P es = of_grouped P c es (rw x at a) in
      let o = many_over left one n k i es k' s' (rw down at m) p in
      rw (x, group-over s c n i q, o.0) (shut c es, every_grouped Q c es o.1)
    where
      shut : (c : Bool) (es : Elems L) → closed c (got (counted es k') s') ≡ got (counted (grouped c es) k') s'
      shut false es = refl
      shut true es = refl

  elem_over : (left : ℕ) → Over left
  elem_over zero k s e k' s' q a = absurd (never (elem_inv h zero k s e k' s' q))
    where
      never : Got h zero k s e k' s' → ⊥
      never (got_leaf l d q x f b) = omega arith
      never (got_group c n i es d q m x) = omega arith
  elem_over (suc left) k s e k' s' q a = step_over left (elem_over left) k s e k' s' (elem_inv h (suc left) k s e k' s' q) a

-- ---- a type and none

-- lists and complements have no type
of_group : (lo hi : ℤ) (c : Bool) (s : List ℕ) → of_type lo hi (group_head c s) ≡ group_head c s
unfolding of_type group_head
of_group lo hi c s = go (count_fault 1 64 s)
  where
    go : (r : ℕ) → of_type lo hi (fault_or r (group c (get_or s 1 0) (drop 2 s))) ≡ fault_or r (group c (get_or s 1 0) (drop 2 s))
    go zero = refl
    go (suc r) = refl

-- an element template's record is read as without a type, and then looked at
pub typed_head_lem : (lo hi : ℤ) (s : List ℕ) → head (typed_head lo hi) s ≡ of_type lo hi (head leaf_head s)
unfolding head of_type
typed_head_lem lo hi s =
    by-test (eqb (length s) 0)
    (λ e. rw e)
    (λ e. rw e (by-test (eqb (get_or s 0 0) 4)
    (λ f. rw f (sym (of_group lo hi false s)))
    (λ f. rw f (by-test (eqb (get_or s 0 0) 5)
    (λ g. rw g (sym (of_group lo hi true s)))
    (λ g. rw g)))))

leaf_of : (lo hi : ℤ) (h : Head Leaf) (l : Leaf) (r : List ℕ) → of_type lo hi h ≡ leaf_here l r → (h ≡ leaf_here l r) × (reaches lo hi l ≡ false)
unfolding of_type
leaf_of lo hi (fault x) l r q = let z : ◌≡◌ {A = ℕ} 0 1 = cc in absurd (omega arith)
leaf_of lo hi (group c n i) l r q = let z : ◌≡◌ {A = ℕ} 0 1 = cc in absurd (omega arith)
leaf_of lo hi (leaf_here m i) l r q =
    by-test (reaches lo hi m)
    (λ e. let f : fault 16 ≡ leaf_here l r = rw e at q in let z : ◌≡◌ {A = ℕ} 0 1 = cc in absurd (omega arith))
    (λ e. let f : leaf_here m i ≡ leaf_here l r = rw e at q in let same : m ≡ l = cc in (f, rw (sym same) e))

group_of : (lo hi : ℤ) (h : Head Leaf) (c : Bool) (n : ℕ) (r : List ℕ) → of_type lo hi h ≡ group c n r → h ≡ group c n r
unfolding of_type
group_of lo hi (fault x) c n r q = let z : ◌≡◌ {A = ℕ} 0 1 = cc in absurd (omega arith)
group_of lo hi (group d m i) c n r q = q
group_of lo hi (leaf_here l i) c n r q =
    by-test (reaches lo hi l)
    (λ e. let f : fault 16 ≡ group c n r = rw e at q in let z : ◌≡◌ {A = ℕ} 0 1 = cc in absurd (omega arith))
    (λ e. let f : leaf_here l i ≡ group c n r = rw e at q in let z : ◌≡◌ {A = ℕ} 0 1 = cc in absurd (omega arith))

module _ (lo hi : ℤ) (s : List ℕ) where
  pub typed_leaf : (l : Leaf) (r : List ℕ) → head (typed_head lo hi) s ≡ leaf_here l r → (head leaf_head s ≡ leaf_here l r) × (reaches lo hi l ≡ false)
  typed_leaf l r q = leaf_of lo hi (head leaf_head s) l r (sym (typed_head_lem lo hi s) ∙ q)

  pub typed_group : (c : Bool) (n : ℕ) (r : List ℕ) → head (typed_head lo hi) s ≡ group c n r → head leaf_head s ≡ group c n r
  typed_group c n r q = group_of lo hi (head leaf_head s) c n r (sym (typed_head_lem lo hi s) ∙ q)

  pub leaf_typed : (l : Leaf) (r : List ℕ) → head leaf_head s ≡ leaf_here l r → reaches lo hi l ≡ false → head (typed_head lo hi) s ≡ leaf_here l r
  unfolding of_type
  leaf_typed l r q e = typed_head_lem lo hi s ∙ rw (q, e)

  pub group_typed : (c : Bool) (n : ℕ) (r : List ℕ) → head leaf_head s ≡ group c n r → head (typed_head lo hi) s ≡ group c n r
  unfolding of_type
  group_typed c n r q = typed_head_lem lo hi s ∙ rw q

module _ (lo hi : ℤ) (left : ℕ) where
  abbrev Typed : Leaf → Type 0
  Typed l = reaches lo hi l ≡ false

  abbrev Whatever : Leaf → Type 0
  Whatever l = Unit {0}

  -- what is read with a type is read the same without, and lies inside
  pub untyped : (k : ℕ) (s : List ℕ) (e : Elem Leaf) (k' : ℕ) (s' : List ℕ) → elem (typed_head lo hi) left k s ≡ got (counted e k') s'
      → (elem leaf_head left k s ≡ got (counted e k') s') × Inside lo hi e
  untyped k s e k' s' q = elem_over (typed_head lo hi) leaf_head Whatever Typed (λ s l r q p. typed_leaf lo hi s l r q) (typed_group lo hi) left k s e k' s' q (whatever e)

  pub untyped_all : (n k : ℕ) (s : List ℕ) (es : Elems Leaf) (k' : ℕ) (s' : List ℕ) → many (elem (typed_head lo hi) left) n k s ≡ got (counted es k') s'
      → (many (elem leaf_head left) n k s ≡ got (counted es k') s') × InsideAll lo hi es
  untyped_all n k s es k' s' q =
      many_over (typed_head lo hi) leaf_head Whatever Typed (λ s l r q p. typed_leaf lo hi s l r q) (typed_group lo hi) left
      (elem_over (typed_head lo hi) leaf_head Whatever Typed (λ s l r q p. typed_leaf lo hi s l r q) (typed_group lo hi) left) n k s es k' s' q (whatever_all es)

  -- what is read without a type, and lies inside, is read the same with it
  pub typed : (k : ℕ) (s : List ℕ) (e : Elem Leaf) (k' : ℕ) (s' : List ℕ) → elem leaf_head left k s ≡ got (counted e k') s' → Inside lo hi e
      → elem (typed_head lo hi) left k s ≡ got (counted e k') s'
  typed k s e k' s' q i = (elem_over leaf_head (typed_head lo hi) Typed Typed (λ s l r q p. (leaf_typed lo hi s l r q p, p)) (group_typed lo hi) left k s e k' s' q i).0

  pub typed_all : (n k : ℕ) (s : List ℕ) (es : Elems Leaf) (k' : ℕ) (s' : List ℕ) → many (elem leaf_head left) n k s ≡ got (counted es k') s' → InsideAll lo hi es
      → many (elem (typed_head lo hi) left) n k s ≡ got (counted es k') s'
  typed_all n k s es k' s' q i =
      (many_over leaf_head (typed_head lo hi) Typed Typed (λ s l r q p. (leaf_typed lo hi s l r q p, p)) (group_typed lo hi) left
      (elem_over leaf_head (typed_head lo hi) Typed Typed (λ s l r q p. (leaf_typed lo hi s l r q p, p)) (group_typed lo hi) left) n k s es k' s' q i).0

-- ---- over the family

pub untyped_leaf : (fam : Family) (lo hi : ℤ) (s : List ℕ) (l : LeafOf fam) (r : List ℕ) → head (leaves_in fam lo hi) s ≡ leaf_here l r → head (leaves_of fam) s ≡ leaf_here l r
untyped_leaf Family.Integers lo hi s l r q = (typed_leaf lo hi s l r q).0
untyped_leaf Family.Floats lo hi s l r q = q

pub untyped_group : (fam : Family) (lo hi : ℤ) (s : List ℕ) (c : Bool) (n : ℕ) (r : List ℕ) → head (leaves_in fam lo hi) s ≡ group c n r → head (leaves_of fam) s ≡ group c n r
untyped_group Family.Integers lo hi s c n r q = typed_group lo hi s c n r q
untyped_group Family.Floats lo hi s c n r q = q

pub untyped_of : (fam : Family) (lo hi : ℤ) (left k : ℕ) (s : List ℕ) (c : Counted (Elem (LeafOf fam))) (s' : List ℕ) → elem (leaves_in fam lo hi) left k s ≡ got c s' → elem (leaves_of fam) left k s ≡ got c s'
untyped_of Family.Integers lo hi left k s (counted e k') s' q = (untyped lo hi left k s e k' s' q).0
untyped_of Family.Floats lo hi left k s (counted e k') s' q = q

-- ---- all 32-bit integers

-- two readers that read every record alike
module _ {L : Type 0} where
  many_alike : (p q : ℕ → List ℕ → Read (Counted (Elem L))) → ((k : ℕ) (s : List ℕ) → p k s ≡ q k s) → (n k : ℕ) (s : List ℕ) → many p n k s ≡ many q n k s
  unfolding many then_more
  many_alike p q e zero k s = refl
  many_alike p q e (suc n) k s = ap (λ o. then_more o (many p n)) (e k s) ∙ go (many_alike p q e n) (q k s)
    where
      go : ((k : ℕ) (s : List ℕ) → many p n k s ≡ many q n k s) → (o : Read (Counted (Elem L))) → then_more o (many p n) ≡ then_more o (many q n)
      go rest (refuse r) = refl
      go rest (got (counted a k) s) = ap (put_first a) (rest k s)

module _ {L : Type 0} (h h' : List ℕ → Head L) (same : (s : List ℕ) → head h s ≡ head h' s) where
  elem_alike : (left k : ℕ) (s : List ℕ) → elem h left k s ≡ elem h' left k s
  unfolding elem opened
  elem_alike zero k s = ap too_deep (same s)
  elem_alike (suc left) k s = ap (opened (elem h left) k) (same s) ∙ go (elem_alike left) (head h' s)
    where
      go : ((k : ℕ) (s : List ℕ) → elem h left k s ≡ elem h' left k s) → (r : Head L) → opened (elem h left) k r ≡ opened (elem h' left) k r
      go one (fault r) = refl
      go one (leaf_here l r) = refl
      go one (group c n r) = ap (closed c) (many_alike (elem h left) (elem h' left) one n k r)

-- no integer lies outside
none_outside : (z : ℤ) → Word z → (lt_z z least ≡ false) × (lt_z greatest z ≡ false)
none_outside z w =
    (rank_lt_z z least w (omega arith) ∙ le-ltb (rank z) 0 (omega arith), rank_lt_z greatest z (omega arith) w ∙ le-ltb 4294967295 (rank z) (omega (arith, rank_word z w)))

none_reaches : (s : List ℕ) (l : Leaf) (r : List ℕ) → LeafAt s 0 l r → reaches least greatest l ≡ false
unfolding reaches
none_reaches s l r (single_at k n x e) = let o = none_outside (int_at s 1) (word_int_at s 1) in rw (x, o.0, o.1)
none_reaches s l r (range_at k n o x e) = rw (x, (none_outside (int_at s 1) (word_int_at s 1)).0, (none_outside (int_at s 5) (word_int_at s 5)).1)
none_reaches s l r (any_at k n x e) = rw x

pub whole_head : (s : List ℕ) → head (typed_head least greatest) s ≡ head leaf_head s
unfolding of_type
whole_head s = typed_head_lem least greatest s ∙ go (head leaf_head s) refl
  where
    go : (h : Head Leaf) → head leaf_head s ≡ h → of_type least greatest h ≡ h
    go (fault r) e = refl
    go (leaf_here l r) e = rw (none_reaches s l r (leaf_at s 0 l r e))
    go (group c n r) e = refl

pub whole_elem : (left k : ℕ) (s : List ℕ) → elem (typed_head least greatest) left k s ≡ elem leaf_head left k s
whole_elem = elem_alike (typed_head least greatest) leaf_head whole_head

pub whole_read : (t : List ℕ) → read_element (typed_head least greatest) t ≡ read_element leaf_head t
unfolding read_element
whole_read t = rw (whole_elem 8 0 t)
