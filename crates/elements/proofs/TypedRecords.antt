-- One record at a place of the input, with a type and without one. Assumes nothing.
use mathlib.Core.Path.{◌≡◌, sym, ap, ap₂, ◌∙◌, subst, subst₂}
use mathlib.Core.Bool.{true, false, ◌||◌}
use mathlib.Core.List.{List}
use mathlib.Core.Logic.{⊎_elim}
use Prim.Native.Nat.{ℕ, ◌+◌, ◌/◌, ◌%◌, ◌≤◌, ◌<◌}
use native.Mathlib.Omega.{arith}
use lib.IntN.{ℤ}
use lib.Signed.{lt_z}
use lib.ListN.{length, get_or, drop}
use borrow.Author.Tests.{eq-eqb, ne_eqb}
use Rattle.format.specs.declared.Family.{Family}
use Rattle.integers.specs.Integer.{least, greatest, signed}
use Rattle.grammar.specs.Record.{fault, leaf_here, head}
use Rattle.grammar.specs.Leaf.{Leaf, lower_of, upper_of, leaf_head, reaches, of_type, typed_head}
use Rattle.grammar.specs.FloatLeaf.{float_head}
use Rattle.grammar.specs.Family.{LeafOf, leaves_in}
use Rattle.sorts.specs.declared.Sort.{Sort}
use Rattle.sorts.specs.Sorts.{floats_word, family_of, lower_of as lowest, upper_of as highest, leaves_for}
use Rattle.grammar.proofs.ReadApart.{LeafAt, single_at, range_at, any_at, leaf_at}
use Rattle.grammar.proofs.TypedReading.{typed_head_lem, leaf_typed, whole_head}
use Rattle.leaves.specs.Leaves.{LeafHere, BoundsHere}
use Rattle.elements.specs.Contract.{group_kind, HeadAt, faulty, a_leaf, a_group}
use Rattle.elements.proofs.Records.{fault_said, group_kinds, head_as}

module _ (lo hi : ℤ) where
  -- any value never reaches outside; of a 01 or 02 the bounds tell
  plain_leaf : (t : List ℕ) (at : ℕ) (l : Leaf) (rest : List ℕ) → 3 ≤ get_or t at 0 → LeafAt t at l rest → reaches lo hi l ≡ false
  unfolding reaches
  plain_leaf t at l rest k (single_at e n x r) = absurd (omega arith)
  plain_leaf t at l rest k (range_at e n o x r) = absurd (omega arith)
  plain_leaf t at l rest k (any_at e n x r) = rw x

  bound_leaf : (t : List ℕ) (at : ℕ) (l : Leaf) (rest : List ℕ) → get_or t at 0 < 3 → LeafAt t at l rest → reaches lo hi l ≡ (lt_z (lower_of l) lo || lt_z hi (upper_of l))
  unfolding reaches lower_of upper_of
  bound_leaf t at l rest k (single_at e n x r) = rw x
  bound_leaf t at l rest k (range_at e n o x r) = rw x
  bound_leaf t at l rest k (any_at e n x r) = absurd (omega arith)

  module _ (t : List ℕ) (at end : ℕ) (short : length t < 65536) where
    pub typed_fault : HeadAt t at (head leaf_head (drop at t)) end → 16777215 < end → HeadAt t at (head (typed_head lo hi) (drop at t)) end
    unfolding of_type
    typed_fault (faulty q p s) b = faulty (typed_head_lem lo hi (drop at t) ∙ ap (of_type lo hi) q) p s
    typed_fault (a_leaf l q g a i) b = absurd (omega arith)
    typed_fault (a_group c q g x i) b = absurd (omega arith)

    no_group : group_kind (get_or t at 0) ≡ true → get_or t at 0 < 3 → ⊥
    no_group g k = ⊎_elim (λ (e : get_or t at 0 ≡ 4). omega arith) (λ (e : get_or t at 0 ≡ 5). omega arith) (group_kinds (get_or t at 0) g)

    module _ (sound : end ≤ 16777215) where
      pub typed_plain : HeadAt t at (head leaf_head (drop at t)) end → 3 ≤ get_or t at 0 → HeadAt t at (head (typed_head lo hi) (drop at t)) end
      unfolding of_type
      typed_plain (faulty q p s) k = absurd (omega arith)
      typed_plain (a_leaf l q g a i) k = a_leaf l (leaf_typed lo hi (drop at t) l (drop end t) q (plain_leaf t at l (drop end t) k (leaf_at t at l (drop end t) q))) g a i
      typed_plain (a_group c q g x i) k = a_group c (typed_head_lem lo hi (drop at t) ∙ ap (of_type lo hi) q) g x i

      -- a record of a kind below 3 that has no fault is a leaf
      pub leaf_here_lem : HeadAt t at (head leaf_head (drop at t)) end → get_or t at 0 < 3 → LeafHere t at
      leaf_here_lem (faulty q p s) k = absurd (omega arith)
      leaf_here_lem (a_leaf l q g a i) k = record { what = l; rest = drop end t; reads = q }
      leaf_here_lem (a_group c q g x i) k = absurd (no_group g k)

      module _ (lower upper : ℤ) (next : ℕ) (b : BoundsHere t at lower upper next) (k : get_or t at 0 < 3) where
        told : (l : Leaf) → head leaf_head (drop at t) ≡ leaf_here l (drop end t) → reaches lo hi l ≡ (lt_z lower lo || lt_z hi upper)
        told l q =
            let v = b.right l (drop end t) q in
            bound_leaf t at l (drop end t) k (leaf_at t at l (drop end t) q) ∙ ap₂ (λ (x y : ℤ). lt_z x lo || lt_z hi y) (sym v.0) (sym v.1)

        pub typed_outside : (r : ℕ) → r ≡ 16777215 + 16 → HeadAt t at (head leaf_head (drop at t)) end → (lt_z lower lo || lt_z hi upper) ≡ true → HeadAt t at (head (typed_head lo hi) (drop at t)) r
        unfolding of_type
        typed_outside r said (faulty q p s) e = absurd (omega arith)
        typed_outside r said (a_leaf l q g a i) e =
            let o : of_type lo hi (leaf_here l (drop end t)) ≡ fault 16 = rw (told l q ∙ e) in
            fault_said t at _ 16 r said (typed_head_lem lo hi (drop at t) ∙ ap (of_type lo hi) q ∙ o) (omega arith) (omega arith)
        typed_outside r said (a_group c q g x i) e = absurd (no_group g k)

        pub typed_inside : HeadAt t at (head leaf_head (drop at t)) end → (lt_z lower lo || lt_z hi upper) ≡ false → HeadAt t at (head (typed_head lo hi) (drop at t)) end
        unfolding of_type
        typed_inside (faulty q p s) e = absurd (omega arith)
        typed_inside (a_leaf l q g a i) e = a_leaf l (leaf_typed lo hi (drop at t) l (drop end t) q (told l q ∙ e)) g a i
        typed_inside (a_group c q g x i) e = a_group c (typed_head_lem lo hi (drop at t) ∙ ap (of_type lo hi) q) g x i

-- ---- the records of a sort, from those of its family

-- what is said of a record of a family
of_family : (t : List ℕ) (at r : ℕ) (k : Sort) (fam : Family) → family_of k ≡ fam → HeadAt {L = LeafOf fam} t at (head (leaves_in fam (lowest k) (highest k)) (drop at t)) r → HeadAt t at (head (leaves_for k) (drop at t)) r
of_family t at r k fam e h = subst (λ (g : Family). HeadAt {L = LeafOf g} t at (head (leaves_in g (lowest k) (highest k)) (drop at t)) r) (sym e) h

module _ (t : List ℕ) (at r : ℕ) (k : Sort) where
  pub sort_floats : k.word ≡ floats_word → HeadAt t at (head float_head (drop at t)) r → HeadAt t at (head (leaves_for k) (drop at t)) r
  sort_floats e h = of_family t at r k Family.Floats (rw (eq-eqb k.word floats_word e)) h

  pub sort_typed : (k.word ≡ floats_word → ⊥) → HeadAt t at (head (typed_head (lowest k) (highest k)) (drop at t)) r → HeadAt t at (head (leaves_for k) (drop at t)) r
  sort_typed n h = of_family t at r k Family.Integers (rw (ne_eqb k.word floats_word n)) h

  -- all the integers are a type that no leaf reaches outside of
  pub sort_whole : k.word ≡ 0x800000007fffffff → HeadAt t at (head leaf_head (drop at t)) r → HeadAt t at (head (leaves_for k) (drop at t)) r
  unfolding signed
  sort_whole e h =
      let l : lowest k ≡ least = ap (λ (n : ℕ). signed (n / 4294967296)) e in
      let u : highest k ≡ greatest = ap (λ (n : ℕ). signed (n % 4294967296)) e in
      let w : HeadAt t at (head (typed_head least greatest) (drop at t)) r = head_as t at _ _ r (whole_head (drop at t)) h in
      sort_typed (λ f. omega arith) (subst₂ (λ (a b : ℤ). HeadAt t at (head (typed_head a b) (drop at t)) r) (sym l) (sym u) w)
