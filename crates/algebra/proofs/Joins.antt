-- Lists and complements of any number of accepted parts: each part reads the same inside, so the combination is accepted where it fits, and as nothing else.
-- Assumes nothing.
-- Part lo hi s e   <-> the bytes s read as e without a type, and e lies inside the type
-- Summed lo hi ss es <-> what the parts have together: a leaf for each at least, 23 bytes for each leaf at most, and all of them inside the type
-- bytes_of c ss     == the bytes of a list (c false) or a complement (c true) with the members ss
use mathlib.Core.Path.{◌≡◌, refl, sym, ap, ◌∙◌, subst}
use mathlib.Core.Bool.{Bool, true, false, cond}
use mathlib.Core.List.{List, [], ◌∷◌, ◌++◌}
use Prim.Native.Nat.{ℕ, ◌+◌, ◌*◌, ◌≤◌, ◌<◌}
use native.Mathlib.Omega.{arith}
use lib.IntN.{ℤ}
use lib.ListN.{length, length-append}
use Rattle.format.specs.declared.Family.{Family}
use Rattle.grammar.specs.Element.{Elem, Elems, none, leaves, leaves_all}
use Rattle.grammar.specs.Leaf.{Leaf, leaf_head}
use Rattle.grammar.specs.Read.{got}
use Rattle.grammar.specs.Reading.{counted, many, closed, opened, elem}
use Rattle.grammar.proofs.ReadApart.{grouped, Got, got_leaf, got_group, elem_inv, many_first, many_none, LeafAt, single_at, range_at, any_at, leaf_at, group_at}
use Rattle.grammar.proofs.Deeper.{many_more}
use Rattle.grammar.proofs.Growing.{elem_grown}
use Rattle.grammar.proofs.TypedReading.{Every, Inside, InsideAll}
use Rattle.forms.proofs.Accepts.{elem_facts, read_inv, read_of, untyped_read, typed_read, typed_facts}
use Rattle.forms.proofs.Readings.{head_group}
use Rattle.demands.specs.NormalForms.{Accepted}
use Rattle.algebra.specs.Together.{depth, depth_all, together, members, Fits, Parts}
use Rattle.algebra.specs.Claims.{JoinsAs}
use Rattle.algebra.proofs.Rereads.{depth_grouped, leaves_grouped, reread, elem_depth, element_size}

-- ---- one part

record Part (lo hi : ℤ) (s : List ℕ) (e : Elem Leaf) : Type 0 where
  count : ℕ
  reads : elem leaf_head 8 0 s ≡ got (counted e count) []
  inside : Inside lo hi e

part : (lo hi : ℤ) (s : List ℕ) (e : Elem Leaf) → Accepted lo hi s e → Part lo hi s e
part lo hi s e a =
    let u = untyped_read lo hi s e a in
    let r = read_inv leaf_head s e u.0 in
    record { count = r.after; reads = r.reads; inside = u.1 }

-- ---- the parts, one after the other

module _ (lo hi : ℤ) where
  record Summed (ss : List (List ℕ)) (es : List (Elem Leaf)) : Type 0 where
    count : length ss ≤ leaves_all (members es)
    size : length (together ss) ≤ 23 * leaves_all (members es)
    inside : InsideAll lo hi (members es)

  summed : (ss : List (List ℕ)) (es : List (Elem Leaf)) → Parts lo hi ss es → Summed ss es
  unfolding together leaves Every
  summed [] [] p = record { count = omega arith; size = omega arith; inside = tt }
  summed [] (e ∷ es) p = absurd p
  summed (s ∷ ss) [] p = absurd p
  summed (s ∷ ss) (e ∷ es) p =
      let a = part lo hi s e p.0 in
      let some = (elem_facts 8 0 s e a.count [] a.reads).some in
      let here = element_size 0 s e a.count [] a.reads in
      let rest = summed ss es p.1 in
      let c = rest.count in
      let b = rest.size in
      record { count = omega arith; size = omega (arith, length-append s (together ss)); inside = (a.inside, rest.inside) }

  -- a part with the others behind it
  grown : (s : List ℕ) (e : Elem Leaf) (a : Part lo hi s e) (u : List ℕ) → elem leaf_head 8 0 (s ++ u) ≡ got (counted e a.count) u
  grown s e a u = elem_grown u 8 0 s e a.count [] a.reads

  together_reads : (ss : List (List ℕ)) (es : List (Elem Leaf)) → Parts lo hi ss es → (k : ℕ) → depth_all (members es) ≤ 7 → k + leaves_all (members es) ≤ 64
      → many (elem leaf_head 7) (length ss) k (together ss) ≡ got (counted (members es) (k + leaves_all (members es))) []
  unfolding many together depth leaves
  together_reads [] [] p k d f = let same : k ≡ k + 0 = omega arith in ap (λ (n : ℕ). got (counted none n) []) same
  together_reads [] (e ∷ es) p k d f = absurd p
  together_reads (s ∷ ss) [] p k d f = absurd p
  together_reads (s ∷ ss) (e ∷ es) p k d f =
      let u = together ss in
      let n = k + leaves e in
      let a = part lo hi s e p.0 in
      let here = reread 8 7 0 k (s ++ u) e a.count u (grown s e a u) (omega arith) (omega arith) in
      let others = together_reads ss es p.1 n (omega arith) (omega arith) in
      let sum : n + leaves_all (members es) ≡ k + (leaves e + leaves_all (members es)) = omega arith in
      rw (sym sum) (many_more (elem leaf_head 7) (length ss) k (s ++ u) e n u (members es) (n + leaves_all (members es)) [] here others)

  -- what is read there is the parts
  together_only : (ss : List (List ℕ)) (es : List (Elem Leaf)) → Parts lo hi ss es → (k : ℕ) (es' : Elems Leaf) (k' : ℕ) (v : List ℕ)
      → many (elem leaf_head 7) (length ss) k (together ss) ≡ got (counted es' k') v → es' ≡ members es
  unfolding together
  together_only [] [] p k es' k' v q = (many_none (elem leaf_head 7) 0 k [] es' k' v refl q).0
  together_only [] (e ∷ es) p k es' k' v q = absurd p
  together_only (s ∷ ss) [] p k es' k' v q = absurd p
  together_only (s ∷ ss) (e ∷ es) p k es' k' v q =
      let u = together ss in
      let f = many_first (elem leaf_head 7) (length ss) k (s ++ u) es' k' v q in
      let g = elem_facts 7 k (s ++ u) f.e f.k₁ f.s₁ f.one in
      let flat = elem_depth 7 k (s ++ u) f.e f.k₁ f.s₁ f.one in
      let here = reread 7 8 k 0 (s ++ u) f.e f.k₁ f.s₁ f.one (omega arith) (omega (arith, g.count, g.few)) in
      let itself = grown s e (part lo hi s e p.0) u in
      let first : f.e ≡ e = cc in
      let behind : f.s₁ ≡ u = cc in
      let others = together_only ss es p.1 f.k₁ f.es₁ k' v (rw behind at f.others) in
      f.both ∙ rw (first, others)

-- ---- the combination

abbrev bytes_of : Bool → List (List ℕ) → List ℕ
bytes_of c ss = cond c 5 4 ∷ length ss ∷ together ss

-- no leaf is of these kinds
low_kind : (c : Bool) → 4 ≤ cond c 5 4
low_kind false = omega arith
low_kind true = omega arith

no_leaf : (c : Bool) (s : List ℕ) (l : Leaf) (v : List ℕ) → LeafAt (cond c 5 4 ∷ s) 0 l v → ⊥
no_leaf c s l v (single_at k n x e) = omega (arith, low_kind c)
no_leaf c s l v (range_at k n o x e) = omega (arith, low_kind c)
no_leaf c s l v (any_at k n x e) = omega (arith, low_kind c)

module _ (lo hi : ℤ) (c : Bool) (ss : List (List ℕ)) (es : List (Elem Leaf)) (some : 0 < length ss) (parts : Parts lo hi ss es) where
  join_reads : length ss ≤ 64 → leaves_all (members es) ≤ 64 → depth_all (members es) ≤ 7 → elem leaf_head 8 0 (bytes_of c ss) ≡ got (counted (grouped c (members es)) (0 + leaves_all (members es))) []
  unfolding elem opened closed
  join_reads n few flat = rw (head_group c (length ss) (together ss) some n, together_reads lo hi ss es parts 0 flat (omega arith)) (shut c (members es))
    where
      shut : (c : Bool) (fs : Elems Leaf) → closed c (got (counted fs (0 + leaves_all (members es))) []) ≡ got (counted (grouped c fs) (0 + leaves_all (members es))) []
      shut false fs = refl
      shut true fs = refl

  join_accepted : Fits (grouped c (members es)) → Accepted lo hi (bytes_of c ss) (grouped c (members es))
  unfolding Every
  join_accepted f =
      let e = grouped c (members es) in
      let b = summed lo hi ss es parts in
      let count = b.count in
      let size = b.size in
      let few = rw (leaves_grouped c (members es)) at f.few in
      let flat = rw (depth_grouped c (members es)) at f.flat in
      typed_read lo hi (bytes_of c ss) e (read_of leaf_head (bytes_of c ss) e (0 + leaves_all (members es)) (omega arith) (join_reads (omega arith) (omega arith) (omega arith))) (inside c b.inside)
    where
      inside : (c : Bool) → InsideAll lo hi (members es) → Inside lo hi (grouped c (members es))
      inside false i = i
      inside true i = i

  join_only : (e' : Elem Leaf) → Accepted lo hi (bytes_of c ss) e' → (e' ≡ grouped c (members es)) × Fits (grouped c (members es))
  join_only e' a =
      let r = read_inv leaf_head (bytes_of c ss) e' (untyped_read lo hi (bytes_of c ss) e' a).0 in
      let same = go r.after (elem_inv leaf_head 8 0 (bytes_of c ss) e' r.after [] r.reads) in
      let few = (typed_facts lo hi (bytes_of c ss) e' a).2 in
      let flat = elem_depth 8 0 (bytes_of c ss) e' r.after [] r.reads in
      (same, subst Fits same (record { few = few; flat = flat }))
    where
      go : (k : ℕ) → Got leaf_head 8 0 (bytes_of c ss) e' k [] → e' ≡ grouped c (members es)
      go k (got_leaf l d q x f b) = absurd (no_leaf c (length ss ∷ together ss) l [] (leaf_at (bytes_of c ss) 0 l [] q))
      go k (got_group c' n i es' d q m x) =
          let g = group_at (bytes_of c ss) 0 Family.Integers c' n i q in
          let number : n ≡ length ss = g.count in
          let own = head_group c (length ss) (together ss) some (omega (arith, g.few)) in
          let kind : c' ≡ c = cc in
          let inner : i ≡ together ss = cc in
          rw (x, kind, together_only lo hi ss es parts 0 es' k [] (rw (number, inner) at m))

  pub joins : JoinsAs lo hi (bytes_of c ss) (grouped c (members es))
  joins = record { accepted = join_accepted; only = join_only }
