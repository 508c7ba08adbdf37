-- A leaf of the integer family where it stands, by its kind: which one it is, its size, and its bounds. Assumes nothing.
-- LeafIs t at l size <-> the leaf l stands at `at`, in so many bytes
-- leaf_fits: it has a kind. single_is, range_is, any_is: which leaf it is. single_bounds, range_bounds, any_bounds: its bounds.
-- bounds_test: it matches what lies between them.
use mathlib.Core.Path.{◌≡◌, refl, ap, ◌∙◌}
use mathlib.Core.Bool.{◌&&◌}
use mathlib.Core.List.{List}
use Prim.Native.Nat.{ℕ, ◌+◌, ◌≤◌}
use native.Mathlib.Omega.{arith}
use lib.IntN.{ℤ, pos, negsuc}
use lib.Signed.{le_z}
use lib.ListN.{length, get_or, drop}
use Rattle.integers.specs.Integer.{Word, int_at}
use Rattle.grammar.specs.Record.{leaf_here, head}
use Rattle.grammar.specs.Leaf.{Leaf, single, range, any, lower_of, upper_of, leaf_head}
use Rattle.grammar.specs.Matches.{leaf_matches}
use Rattle.grammar.proofs.ReadApart.{LeafAt, single_at, range_at, any_at, leaf_at}
use Rattle.grammar.proofs.LeafBounds.{leaf_between}
use Rattle.leaves.specs.Leaves.{LeafHere, BoundsHere}

pub record LeafIs (t : List ℕ) (at : ℕ) (l : Leaf) (size : ℕ) : Type 0 where
  pub fits : at + size ≤ length t
  pub reads : head leaf_head (drop at t) ≡ leaf_here l (drop (at + size) t)

module _ (t : List ℕ) (at : ℕ) (p : LeafHere t at) where
  here : LeafAt t at p.what p.rest
  here = leaf_at t at p.what p.rest p.reads

  pub leaf_fits : at + 1 ≤ length t
  leaf_fits = go here
    where
      go : LeafAt t at p.what p.rest → at + 1 ≤ length t
      go (single_at k f e r) = omega arith
      go (range_at k f o e r) = omega arith
      go (any_at k f e r) = omega arith

  pub single_is : get_or t at 0 ≡ 1 → LeafIs t at (single (int_at t (at + 1))) 5
  single_is q = go here
    where
      go : LeafAt t at p.what p.rest → LeafIs t at (single (int_at t (at + 1))) 5
      go (single_at k f e r) = record { fits = f; reads = p.reads ∙ cc }
      go (range_at k f o e r) = absurd (omega arith)
      go (any_at k f e r) = absurd (omega arith)

  pub range_is : get_or t at 0 ≡ 2 → LeafIs t at (range (int_at t (at + 1)) (int_at t (at + 5))) 9
  range_is q = go here
    where
      go : LeafAt t at p.what p.rest → LeafIs t at (range (int_at t (at + 1)) (int_at t (at + 5))) 9
      go (single_at k f e r) = absurd (omega arith)
      go (range_at k f o e r) = record { fits = f; reads = p.reads ∙ cc }
      go (any_at k f e r) = absurd (omega arith)

  pub any_is : (get_or t at 0 ≡ 1 → ⊥) → (get_or t at 0 ≡ 2 → ⊥) → LeafIs t at any 1
  any_is n₁ n₂ = go here
    where
      go : LeafAt t at p.what p.rest → LeafIs t at any 1
      go (single_at k f e r) = absurd (n₁ k)
      go (range_at k f o e r) = absurd (n₂ k)
      go (any_at k f e r) = record { fits = f; reads = p.reads ∙ cc }

module _ (t : List ℕ) (at : ℕ) where
  -- one leaf stands at a place
  bounds_of : (l : Leaf) (size : ℕ) (lower upper : ℤ) → LeafIs t at l size → lower ≡ lower_of l → upper ≡ upper_of l → BoundsHere t at lower upper (at + size)
  bounds_of l size lower upper i a b = record {
    inside = i.fits;
    right = λ l' rest r.
        let same : l ≡ l' = cc in
        let after : drop (at + size) t ≡ rest = cc in
        (a ∙ ap lower_of same, b ∙ ap upper_of same, after);
  }

  module _ (lower upper : ℤ) where
    pub single_bounds : LeafIs t at (single (int_at t (at + 1))) 5 → lower ≡ int_at t (at + 1) → upper ≡ int_at t (at + 1) → BoundsHere t at lower upper (at + 5)
    unfolding lower_of upper_of
    single_bounds i = bounds_of _ 5 lower upper i

    pub range_bounds : LeafIs t at (range (int_at t (at + 1)) (int_at t (at + 5))) 9 → lower ≡ int_at t (at + 1) → upper ≡ int_at t (at + 5) → BoundsHere t at lower upper (at + 9)
    unfolding lower_of upper_of
    range_bounds i = bounds_of _ 9 lower upper i

  pub any_bounds : LeafIs t at any 1 → BoundsHere t at (negsuc 2147483647) (pos 2147483647) (at + 1)
  unfolding lower_of upper_of
  any_bounds i = bounds_of any 1 _ _ i refl refl

  pub bounds_test : (lower upper : ℤ) (next : ℕ) → BoundsHere t at lower upper next → (l : Leaf) (rest : List ℕ) → head leaf_head (drop at t) ≡ leaf_here l rest
      → (x : ℤ) → Word x → leaf_matches l x ≡ (le_z lower x && le_z x upper)
  bounds_test lower upper next h l rest r x w = let v = h.right l rest r in rw (v.0, v.1) (leaf_between l x w)
