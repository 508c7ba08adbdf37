-- An element template that was read is read again with other depths left and after other leaves, where it fits there; it is no deeper than the depths that were
-- left, and takes at most 23 bytes for each leaf. Assumes nothing.
-- Again p q l <-> what p reads q reads too, after any number of leaves, where l depths and 64 leaves are enough
-- most l n    == the most bytes of n leaves with l depths left: 7 for each, and 2 for each depth
-- Sized p l   <-> what p reads is no deeper than l, and no longer than that
use mathlib.Core.Path.{◌≡◌, refl, sym, ap}
use mathlib.Core.Bool.{Bool, true, false}
use mathlib.Core.List.{List}
use Prim.Native.Nat.{ℕ, zero, suc, ◌+◌, ◌-◌, ◌*◌, ◌≤◌, ◌<◌, max}
use native.Mathlib.Omega.{arith}
use lib.ListN.{length, length-drop}
use borrow.Author.Tests.{le-ltb}
use Rattle.format.specs.declared.Family.{Family}
use Rattle.grammar.specs.Element.{Elem, leaf, one_of, none_of, Elems, none, leaves, leaves_all}
use Rattle.grammar.specs.Leaf.{Leaf, leaf_head}
use Rattle.grammar.specs.Read.{Read, got}
use Rattle.grammar.specs.Reading.{Counted, counted, many, closed, opened, elem}
use Rattle.grammar.proofs.ReadApart.{grouped, Got, got_leaf, got_group, elem_inv, many_first, many_none, LeafAt, single_at, range_at, any_at, leaf_at, group_at}
use Rattle.grammar.proofs.Deeper.{many_more}
use Rattle.forms.proofs.Accepts.{elem_facts}
use Rattle.algebra.specs.Together.{depth, depth_all}

abbrev Reader : Type 0
Reader = ℕ → List ℕ → Read (Counted (Elem Leaf))

pub depth_grouped : (c : Bool) (es : Elems Leaf) → depth (grouped c es) ≡ 1 + depth_all es
unfolding depth
depth_grouped false es = refl
depth_grouped true es = refl

pub leaves_grouped : (c : Bool) (es : Elems Leaf) → leaves (grouped c es) ≡ leaves_all es
unfolding leaves
leaves_grouped false es = refl
leaves_grouped true es = refl

-- no depth is left for anything
never : (k : ℕ) (s : List ℕ) (a : Elem Leaf) (j : ℕ) (v : List ℕ) → Got leaf_head 0 k s a j v → ⊥
never k s a j v (got_leaf x d q i u n) = omega arith
never k s a j v (got_group c n i es d q m x) = omega arith

-- ---- read again

abbrev Again : Reader → Reader → ℕ → Type 0
Again p q l = (k k' : ℕ) (s : List ℕ) (a : Elem Leaf) (j : ℕ) (v : List ℕ) → p k s ≡ got (counted a j) v → depth a ≤ l → k' + leaves a ≤ 64 → q k' s ≡ got (counted a (k' + leaves a)) v

many_again : (p q : Reader) (l : ℕ) → Again p q l → (n k k' : ℕ) (s : List ℕ) (es : Elems Leaf) (j : ℕ) (v : List ℕ) → many p n k s ≡ got (counted es j) v
    → depth_all es ≤ l → k' + leaves_all es ≤ 64 → many q n k' s ≡ got (counted es (k' + leaves_all es)) v
unfolding many depth leaves
many_again p q l one zero k k' s es j v e d c =
    let z = many_none p 0 k s es j v refl e in
    let same : k' ≡ k' + 0 = omega arith in
    rw (z.0, z.2) (ap (λ (n : ℕ). got (counted none n) s) same)
many_again p q l one (suc n) k k' s es j v e d c =
    let f = many_first p n k s es j v e in
    let deep : max (depth f.e) (depth_all f.es₁) ≤ l = rw f.both at d in
    let few : k' + (leaves f.e + leaves_all f.es₁) ≤ 64 = rw f.both at c in
    let sum : k' + leaves f.e + leaves_all f.es₁ ≡ k' + (leaves f.e + leaves_all f.es₁) = omega arith in
    let first = one k k' s f.e f.k₁ f.s₁ f.one (omega arith) (omega arith) in
    let others = many_again p q l one n f.k₁ (k' + leaves f.e) f.s₁ f.es₁ j v f.others (omega arith) (omega arith) in
    rw (f.both, sym sum) (many_more q n k' s f.e (k' + leaves f.e) f.s₁ f.es₁ (k' + leaves f.e + leaves_all f.es₁) v first others)

step_again : (l l' : ℕ) → Again (elem leaf_head l) (elem leaf_head l') l' → (k k' : ℕ) (s : List ℕ) (a : Elem Leaf) (j : ℕ) (v : List ℕ) → Got leaf_head (suc l) k s a j v
    → depth a ≤ suc l' → k' + leaves a ≤ 64 → elem leaf_head (suc l') k' s ≡ got (counted a (k' + leaves a)) v
unfolding elem opened closed leaves
step_again l l' one k k' s a j v (got_leaf x d q i u n) deep few =
    let room : k' + 1 ≤ 64 = rw i at few in
    rw (q, i, le-ltb 63 k' (omega arith))
step_again l l' one k k' s a j v (got_group c n i es d q m x) deep few =
    let down : suc l - 1 ≡ l = omega arith in
    let flat : 1 + depth_all es ≤ suc l' = rw (x, depth_grouped c es) at deep in
    let room : k' + leaves_all es ≤ 64 = rw (x, leaves_grouped c es) at few in
    rw (q, x, leaves_grouped c es, many_again (elem leaf_head l) (elem leaf_head l') l' one n k k' i es j v (rw down at m) (omega arith) room) (shut c es)
  where
    shut : (c : Bool) (es : Elems Leaf) → closed c (got (counted es (k' + leaves_all es)) v) ≡ got (counted (grouped c es) (k' + leaves_all es)) v
    shut false es = refl
    shut true es = refl

pub reread : (l l' : ℕ) → Again (elem leaf_head l) (elem leaf_head l') l'
unfolding depth
reread zero l' k k' s a j v e d c = absurd (never k s a j v (elem_inv leaf_head 0 k s a j v e))
reread (suc l) zero k k' s a j v e d c = absurd (flat a d)
  where
    flat : (a : Elem Leaf) → depth a ≤ 0 → ⊥
    flat (leaf x) d = omega arith
    flat (one_of es) d = omega arith
    flat (none_of es) d = omega arith
reread (suc l) (suc l') k k' s a j v e d c = step_again l l' (reread l l') k k' s a j v (elem_inv leaf_head (suc l) k s a j v e) d c

-- ---- depth and size: 9 bytes for a leaf, and 2 for each list or complement that it stands in

most : ℕ → ℕ → ℕ
most zero n = 7 * n
most (suc l) n = 2 * n + most l n

most_sum : (l n m : ℕ) → most l (n + m) ≡ most l n + most l m
unfolding most
most_sum zero n m = omega arith
most_sum (suc l) n m = let ih = most_sum l n m in omega arith

most_one : (l : ℕ) → 7 ≤ most l 1
unfolding most
most_one zero = omega arith
most_one (suc l) = let ih = most_one l in omega arith

leaf_size : (s : List ℕ) (l : Leaf) (v : List ℕ) → LeafAt s 0 l v → length s ≤ length v + 9
leaf_size s l v (single_at k n x r) = omega (arith, ap length r, length-drop 5 s)
leaf_size s l v (range_at k n o x r) = omega (arith, ap length r, length-drop 9 s)
leaf_size s l v (any_at k n x r) = omega (arith, ap length r, length-drop 1 s)

abbrev Sized : Reader → ℕ → Type 0
Sized p l = (k : ℕ) (s : List ℕ) (a : Elem Leaf) (j : ℕ) (v : List ℕ) → p k s ≡ got (counted a j) v → (depth a ≤ l) × (length s ≤ length v + most l (leaves a))

many_size : (p : Reader) (l : ℕ) → Sized p l → (n k : ℕ) (s : List ℕ) (es : Elems Leaf) (j : ℕ) (v : List ℕ) → many p n k s ≡ got (counted es j) v
    → (depth_all es ≤ l) × (length s ≤ length v + most l (leaves_all es))
unfolding depth leaves
many_size p l one zero k s es j v e = let z = many_none p 0 k s es j v refl e in rw (z.0, z.2) (omega arith, omega arith)
many_size p l one (suc n) k s es j v e =
    let f = many_first p n k s es j v e in
    let first = one k s f.e f.k₁ f.s₁ f.one in
    let others = many_size p l one n f.k₁ f.s₁ f.es₁ j v f.others in
    rw f.both (omega arith, omega (arith, most_sum l (leaves f.e) (leaves_all f.es₁)))

step_size : (l : ℕ) → Sized (elem leaf_head l) l → (k : ℕ) (s : List ℕ) (a : Elem Leaf) (j : ℕ) (v : List ℕ) → 0 < leaves a → Got leaf_head (suc l) k s a j v
    → (depth a ≤ suc l) × (length s ≤ length v + most (suc l) (leaves a))
unfolding depth leaves most
step_size l one k s a j v some (got_leaf x d q i u n) = rw i (omega arith, omega (arith, leaf_size s x v (leaf_at s 0 x v q), most_one l))
step_size l one k s a j v some (got_group c n i es d q m x) =
    let down : suc l - 1 ≡ l = omega arith in
    let g = group_at s 0 Family.Integers c n i q in
    let inner = many_size (elem leaf_head l) l one n k i es j v (rw down at m) in
    let size : length i + 2 ≡ length s = omega (arith, ap length g.after, length-drop 2 s, g.fits) in
    let full : 0 < leaves_all es = rw (x, leaves_grouped c es) at some in
    rw (x, depth_grouped c es, leaves_grouped c es) (omega arith, omega arith)

elem_size : (l : ℕ) → Sized (elem leaf_head l) l
elem_size zero k s a j v e = absurd (never k s a j v (elem_inv leaf_head 0 k s a j v e))
elem_size (suc l) k s a j v e = step_size l (elem_size l) k s a j v (elem_facts (suc l) k s a j v e).some (elem_inv leaf_head (suc l) k s a j v e)

pub elem_depth : (l k : ℕ) (s : List ℕ) (a : Elem Leaf) (j : ℕ) (v : List ℕ) → elem leaf_head l k s ≡ got (counted a j) v → depth a ≤ l
elem_depth l k s a j v e = (elem_size l k s a j v e).0

pub element_size : (k : ℕ) (s : List ℕ) (a : Elem Leaf) (j : ℕ) (v : List ℕ) → elem leaf_head 8 k s ≡ got (counted a j) v → length s ≤ length v + 23 * leaves a
unfolding most
element_size k s a j v e = omega (arith, (elem_size 8 k s a j v e).1)
