-- An element template that was read where it stands, by its kind. Assumes nothing.
-- here_fits: it has a kind. by_leaf: of any other kind than that of a list or a complement it is a leaf. by_group: of these it is one, with its
-- members behind its count. integer_there, any_there, float_there: which leaf it is, of which family.
-- bounds_match: a leaf of the integer family matches what lies between its bounds.
use mathlib.Core.Path.{◌≡◌, refl, sym, ap, ap₂, ◌∙◌}
use mathlib.Core.Bool.{Bool, true, false, ◌&&◌, cond}
use mathlib.Core.List.{List}
use Prim.Native.Nat.{ℕ, ◌+◌, ◌-◌, ◌≤◌, ◌<◌}
use native.Mathlib.Omega.{arith}
use lib.IntN.{ℤ}
use lib.Signed.{le_z}
use lib.ListN.{length, get_or, drop}
use Rattle.integers.specs.Integer.{Word}
use Rattle.format.specs.declared.Family.{Family}
use Rattle.floats.specs.Leaves.{float_matches}
use Rattle.grammar.specs.Element.{Elem, leaf, Elems}
use Rattle.grammar.specs.Record.{leaf_here, head}
use Rattle.grammar.specs.Leaf.{Leaf}
use Rattle.grammar.specs.Family.{LeafOf, leaves_of, ElementOf, test_of}
use Rattle.grammar.specs.Read.{got}
use Rattle.grammar.specs.Reading.{counted, many, elem}
use Rattle.grammar.specs.Matches.{leaf_matches, matches_by, matches}
use Rattle.grammar.proofs.ReadApart.{grouped, Got, got_leaf, got_group, elem_inv, LeafOn, single_at, range_at, any_at, one_at, float_range_at, any_float_at, leaf_on, group_at}
use Rattle.leaves.specs.Leaves.{LeafHere, BoundsHere, FloatLeafHere}
use Rattle.leaves.proofs.LeafByKind.{bounds_test}

-- a leaf's kind is no list's and no complement's
pub record NoGroup (t : List ℕ) (at : ℕ) : Type 0 where
  pub fits : at + 1 ≤ length t
  pub no_list : get_or t at 0 ≡ 4 → ⊥
  pub no_complement : get_or t at 0 ≡ 5 → ⊥

no_group : (t : List ℕ) (at k : ℕ) → get_or t at 0 ≡ k → at + 1 ≤ length t → (k ≡ 4 → ⊥) → (k ≡ 5 → ⊥) → NoGroup t at
no_group t at k e i n₄ n₅ = record { fits = i; no_list = λ z. n₄ (sym e ∙ z); no_complement = λ z. n₅ (sym e ∙ z) }

leaf_kind : (fam : Family) (t : List ℕ) (at : ℕ) (l : LeafOf fam) (rest : List ℕ) → LeafOn fam t at l rest → NoGroup t at
leaf_kind Family.Integers t at l rest (single_at k i e r) = no_group t at 1 k (omega arith) (λ z. omega arith) (λ z. omega arith)
leaf_kind Family.Integers t at l rest (range_at k i o e r) = no_group t at 2 k (omega arith) (λ z. omega arith) (λ z. omega arith)
leaf_kind Family.Integers t at l rest (any_at k i e r) = no_group t at 3 k (omega arith) (λ z. omega arith) (λ z. omega arith)
leaf_kind Family.Floats t at l rest (one_at k i e r) = no_group t at 6 k (omega arith) (λ z. omega arith) (λ z. omega arith)
leaf_kind Family.Floats t at l rest (float_range_at k i e r) = no_group t at 7 k (omega arith) (λ z. omega arith) (λ z. omega arith)
leaf_kind Family.Floats t at l rest (any_float_at k i e r) = no_group t at 3 k (omega arith) (λ z. omega arith) (λ z. omega arith)

-- ---- which leaf it is, by its kind

-- a 01 or 02 is no leaf of the float family, a 06 or 07 none of the integer family
no_float_leaf : (t : List ℕ) (at : ℕ) (l : LeafOf Family.Floats) (rest : List ℕ) → LeafOn Family.Floats t at l rest → get_or t at 0 < 3 → ⊥
no_float_leaf t at l rest (one_at k i e r) h = omega arith
no_float_leaf t at l rest (float_range_at k i e r) h = omega arith
no_float_leaf t at l rest (any_float_at k i e r) h = omega arith

no_integer_leaf : (t : List ℕ) (at : ℕ) (l : LeafOf Family.Integers) (rest : List ℕ) → LeafOn Family.Integers t at l rest → 5 < get_or t at 0 → ⊥
no_integer_leaf t at l rest (single_at k i e r) h = omega arith
no_integer_leaf t at l rest (range_at k i o e r) h = omega arith
no_integer_leaf t at l rest (any_at k i e r) h = omega arith

integer_of : (fam : Family) (t : List ℕ) (at : ℕ) (l : LeafOf fam) (rest : List ℕ) → head (leaves_of fam) (drop at t) ≡ leaf_here l rest → LeafOn fam t at l rest → get_or t at 0 < 3 → LeafHere t at
integer_of Family.Integers t at l rest q a h = record { what = l; rest = rest; reads = q }
integer_of Family.Floats t at l rest q a h = absurd (no_float_leaf t at l rest a h)

float_of : (fam : Family) (t : List ℕ) (at : ℕ) (l : LeafOf fam) (rest : List ℕ) → head (leaves_of fam) (drop at t) ≡ leaf_here l rest → LeafOn fam t at l rest → 5 < get_or t at 0 → FloatLeafHere t at
float_of Family.Floats t at l rest q a h = record { kind = omega arith; what = l; rest = rest; reads = q }
float_of Family.Integers t at l rest q a h = absurd (no_integer_leaf t at l rest a h)

-- a 03 matches everything, in either family
pub record AnyValue (fam : Family) (t : List ℕ) (at : ℕ) (l : LeafOf fam) (rest : List ℕ) : Type 0 where
  pub matched : (x : ElementOf fam) → test_of fam l x ≡ true
  pub after : drop (at + 1) t ≡ rest

any_of : (fam : Family) (t : List ℕ) (at : ℕ) (l : LeafOf fam) (rest : List ℕ) → LeafOn fam t at l rest → get_or t at 0 ≡ 3 → AnyValue fam t at l rest
unfolding leaf_matches float_matches
any_of Family.Integers t at l rest (single_at k i e r) h = absurd (omega arith)
any_of Family.Integers t at l rest (range_at k i o e r) h = absurd (omega arith)
any_of Family.Integers t at l rest (any_at k i e r) h = record { matched = λ x. ap (λ (m : Leaf). leaf_matches m x) e; after = sym r }
any_of Family.Floats t at l rest (one_at k i e r) h = absurd (omega arith)
any_of Family.Floats t at l rest (float_range_at k i e r) h = absurd (omega arith)
any_of Family.Floats t at l rest (any_float_at k i e r) h = record { matched = λ x. ap (λ (m : LeafOf Family.Floats). float_matches m x) e; after = sym r }

group_kind_lem : (c : Bool) → (4 ≤ cond c 5 4) × (cond c 5 4 ≤ 5)
group_kind_lem true = omega arith
group_kind_lem false = omega arith

same_kind : (c d : Bool) → ◌≡◌ {A = ℕ} (cond c 5 4) (cond d 5 4) → c ≡ d
same_kind true true e = refl
same_kind true false e = absurd (omega arith)
same_kind false true e = absurd (omega arith)
same_kind false false e = refl

pub record ALeaf (fam : Family) (t : List ℕ) (at : ℕ) (e : Elem (LeafOf fam)) (rest : List ℕ) : Type 0 where
  pub l : LeafOf fam
  pub is : e ≡ leaf l
  pub reads : head (leaves_of fam) (drop at t) ≡ leaf_here l rest

pub record AGroup (fam : Family) (t : List ℕ) (at left k : ℕ) (c : Bool) (e : Elem (LeafOf fam)) (k' : ℕ) (rest : List ℕ) : Type 0 where
  pub fits : at + 2 ≤ length t
  pub deep : 0 < left
  pub es : Elems (LeafOf fam)
  pub is : e ≡ grouped c es
  pub reads : many (elem (leaves_of fam) (left - 1)) (get_or t (at + 1) 0) k (drop (at + 2) t) ≡ got (counted es k') rest

module _ (fam : Family) (t : List ℕ) (at left k : ℕ) (e : Elem (LeafOf fam)) (k' : ℕ) (rest : List ℕ) (r : elem (leaves_of fam) left k (drop at t) ≡ got (counted e k') rest) where
  whole : Got (leaves_of fam) left k (drop at t) e k' rest
  whole = elem_inv (leaves_of fam) left k (drop at t) e k' rest r

  pub here_fits : at + 1 ≤ length t
  here_fits = go whole
    where
      go : Got (leaves_of fam) left k (drop at t) e k' rest → at + 1 ≤ length t
      go (got_leaf l d q x f b) = (leaf_kind fam t at l rest (leaf_on t at fam l rest q)).fits
      go (got_group c n i es d q m x) = omega (arith, (group_at t at fam c n i q).fits)

  -- of any other kind than that of a list or a complement it is a leaf
  pub by_leaf : (get_or t at 0 ≡ 4 → ⊥) → (get_or t at 0 ≡ 5 → ⊥) → ALeaf fam t at e rest
  by_leaf n₄ n₅ = go whole
    where
      none : (c : Bool) → get_or t at 0 ≡ cond c 5 4 → ⊥
      none true z = n₅ z
      none false z = n₄ z

      go : Got (leaves_of fam) left k (drop at t) e k' rest → ALeaf fam t at e rest
      go (got_leaf l d q x f b) = record { l = l; is = x; reads = q }
      go (got_group c n i es d q m x) = absurd (none c (group_at t at fam c n i q).kind)

  stands : (a : ALeaf fam t at e rest) → LeafOn fam t at a.l rest
  stands a = leaf_on t at fam a.l rest a.reads

  pub integer_there : get_or t at 0 < 3 → LeafHere t at
  integer_there h =
      let a = by_leaf (λ z. omega arith) (λ z. omega arith) in
      integer_of fam t at a.l rest a.reads (stands a) h

  pub float_there : 5 < get_or t at 0 → FloatLeafHere t at
  float_there h =
      let a = by_leaf (λ z. omega arith) (λ z. omega arith) in
      float_of fam t at a.l rest a.reads (stands a) h

  pub any_there : (h : get_or t at 0 ≡ 3) → (a : ALeaf fam t at e rest) → AnyValue fam t at a.l rest
  any_there h a = any_of fam t at a.l rest (stands a) h

  pub by_group : (c : Bool) → get_or t at 0 ≡ cond c 5 4 → AGroup fam t at left k c e k' rest
  by_group c s = go whole
    where
      leaf_no : (c : Bool) → NoGroup t at → get_or t at 0 ≡ cond c 5 4 → ⊥
      leaf_no true a z = a.no_complement z
      leaf_no false a z = a.no_list z

      go : Got (leaves_of fam) left k (drop at t) e k' rest → AGroup fam t at left k c e k' rest
      go (got_leaf l d q x f b) = absurd (leaf_no c (leaf_kind fam t at l rest (leaf_on t at fam l rest q)) s)
      go (got_group b n i es d q m x) =
          let g = group_at t at fam b n i q in
          let same : c ≡ b = same_kind c b (sym s ∙ g.kind) in
          record {
            fits = g.fits;
            deep = d;
            es = es;
            is = x ∙ ap (λ (u : Bool). grouped u es) (sym same);
            reads = ap₂ (λ (j : ℕ) (u : List ℕ). many (elem (leaves_of fam) (left - 1)) j k u) (sym g.count) (sym g.after) ∙ m;
          }

-- no reading of the other family begins so
pub no_float : (t : List ℕ) (at left k : ℕ) (e : Elem (LeafOf Family.Floats)) (k' : ℕ) (rest : List ℕ) → elem (leaves_of Family.Floats) left k (drop at t) ≡ got (counted e k') rest → get_or t at 0 < 3 → ⊥
no_float t at left k e k' rest r h =
    let a = by_leaf Family.Floats t at left k e k' rest r (λ z. omega arith) (λ z. omega arith) in
    no_float_leaf t at a.l rest (leaf_on t at Family.Floats a.l rest a.reads) h

pub no_integer : (t : List ℕ) (at left k : ℕ) (e : Elem (LeafOf Family.Integers)) (k' : ℕ) (rest : List ℕ) → elem (leaves_of Family.Integers) left k (drop at t) ≡ got (counted e k') rest → 5 < get_or t at 0 → ⊥
no_integer t at left k e k' rest r h =
    let a = by_leaf Family.Integers t at left k e k' rest r (λ z. omega arith) (λ z. omega arith) in
    no_integer_leaf t at a.l rest (leaf_on t at Family.Integers a.l rest a.reads) h

-- the bounds of a leaf of the integer family say what it matches
pub bounds_match : (t : List ℕ) (at : ℕ) (e : Elem Leaf) (rest : List ℕ) (lower upper : ℤ) (next : ℕ) → ALeaf Family.Integers t at e rest → BoundsHere t at lower upper next
    → (x : ℤ) → Word x → matches e x ≡ (le_z lower x && le_z x upper)
unfolding matches_by
bounds_match t at e rest lower upper next a h x w = rw a.is (bounds_test t at lower upper next h a.l rest a.reads x w)
