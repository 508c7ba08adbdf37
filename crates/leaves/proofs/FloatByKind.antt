-- A 06 or 07 where it stands: which leaf it is, and its size. Assumes nothing.
-- fits: it has a kind and a float. one_is, range_is: which leaf it is. size_is: how many bytes it has.
use mathlib.Core.Path.{◌≡◌, sym, ◌∙◌}
use mathlib.Core.List.{List}
use Prim.Native.Nat.{ℕ, ◌+◌, ◌≤◌, ◌<◌}
use native.Mathlib.Omega.{arith}
use lib.ListN.{length, get_or, drop}
use Rattle.floats.specs.Bytes.{float_at}
use Rattle.floats.specs.declared.Leaf.{Leaf}
use Rattle.format.specs.declared.Family.{Family}
use Rattle.grammar.specs.Record.{leaf_here, head}
use Rattle.grammar.specs.FloatLeaf.{bounds_at, float_head}
use Rattle.grammar.proofs.ReadApart.{FloatAt, one_at, float_range_at, any_float_at, leaf_on}
use Rattle.leaves.specs.Leaves.{FloatLeafHere, FloatHere, float_leaf_size}

module _ (t : List ℕ) (at : ℕ) where
  stands : (l : Leaf) (rest : List ℕ) → head float_head (drop at t) ≡ leaf_here l rest → FloatAt t at l rest
  stands = leaf_on t at Family.Floats

  module _ (p : FloatLeafHere t at) where
    here : FloatAt t at p.what p.rest
    here = stands p.what p.rest p.reads

    pub one_fits : at + 9 ≤ length t
    one_fits = go here
      where
        go : FloatAt t at p.what p.rest → at + 9 ≤ length t
        go (one_at k f e r) = f
        go (float_range_at k f e r) = omega arith
        go (any_float_at k f e r) = absurd (omega (arith, p.kind))

    pub two_fit : (get_or t at 0 ≡ 6 → ⊥) → at + 17 ≤ length t
    two_fit other = go here
      where
        go : FloatAt t at p.what p.rest → at + 17 ≤ length t
        go (one_at k f e r) = absurd (other k)
        go (float_range_at k f e r) = f
        go (any_float_at k f e r) = absurd (omega (arith, p.kind))

  pub one_is : (l : Leaf) → get_or t at 0 ≡ 6 → l ≡ Leaf.Float (float_at t (at + 1)) → FloatHere t at l
  one_is l q e = record { right = λ l' rest r. go l' rest (stands l' rest r) }
    where
      go : (l' : Leaf) (rest : List ℕ) → FloatAt t at l' rest → l ≡ l'
      go l' rest (one_at k f d r) = e ∙ sym d
      go l' rest (float_range_at k f d r) = absurd (omega arith)
      go l' rest (any_float_at k f d r) = absurd (omega arith)

  pub range_is : (l : Leaf) → 6 ≤ get_or t at 0 → (get_or t at 0 ≡ 6 → ⊥) → l ≡ Leaf.Range (bounds_at t (at + 1)) → FloatHere t at l
  range_is l h q e = record { right = λ l' rest r. go l' rest (stands l' rest r) }
    where
      go : (l' : Leaf) (rest : List ℕ) → FloatAt t at l' rest → l ≡ l'
      go l' rest (one_at k f d r) = absurd (q k)
      go l' rest (float_range_at k f d r) = e ∙ sym d
      go l' rest (any_float_at k f d r) = absurd (omega arith)

  pub size_is : (l : Leaf) (rest : List ℕ) → 5 < get_or t at 0 → head float_head (drop at t) ≡ leaf_here l rest
      → (at + float_leaf_size (get_or t at 0) ≤ length t) × (drop (at + float_leaf_size (get_or t at 0)) t ≡ rest)
  unfolding float_leaf_size
  size_is l rest h q = go (stands l rest q)
    where
      go : FloatAt t at l rest → (at + float_leaf_size (get_or t at 0) ≤ length t) × (drop (at + float_leaf_size (get_or t at 0)) t ≡ rest)
      go (one_at k f e r) = rw k (f, sym r)
      go (float_range_at k f e r) = rw k (f, sym r)
      go (any_float_at k f e r) = absurd (omega arith)
