-- An element template, or a leaf, where it stands. A place is an index into the whole input t; what stands there is `drop place t`.
-- ElementHere f t at <-> an element template of the family f at depth 1 stands at `at`, with all that it holds
-- LeafHere t at      <-> a leaf of the integer family stands at `at`
-- BoundsHere t at lower upper next <-> for the leaf l that stands at `at`: its bounds are lower and upper, and `next` is the place after it
-- FloatLeafHere t at <-> a 06 or a 07 stands at `at`
-- FloatHere t at l   <-> the leaf of the float family that stands at `at` is l
-- float_leaf_size kind  == how many bytes a 06 or 07 has
-- Assumes nothing: these are definitions.
use Rattle.std.specs.Prelude.{◌≡◌, cond, List, ℕ, ◌≤◌, eqb, length, get_or, drop, ℤ}
use Rattle.format.specs.declared.Family.{Family}
use Rattle.floats.specs.declared.Leaf.{Leaf as FloatLeaf}
use Rattle.grammar.specs.Element.{Elem}
use Rattle.grammar.specs.Record.{leaf_here, head}
use Rattle.grammar.specs.Leaf.{Leaf, lower_of, upper_of, leaf_head}
use Rattle.grammar.specs.FloatLeaf.{float_head}
use Rattle.grammar.specs.Family.{LeafOf, leaves_of}
use Rattle.grammar.specs.Read.{got}
use Rattle.grammar.specs.Reading.{counted, outermost}

pub record ElementHere (f : Family) (t : List ℕ) (at : ℕ) : Type 0 where
  pub inside : at ≤ length t
  pub what : Elem (LeafOf f)
  pub leaves : ℕ
  pub rest : List ℕ
  pub reads : outermost (leaves_of f) (drop at t) ≡ got (counted what leaves) rest

pub record LeafHere (t : List ℕ) (at : ℕ) : Type 0 where
  pub what : Leaf
  pub rest : List ℕ
  pub reads : head leaf_head (drop at t) ≡ leaf_here what rest

pub record BoundsHere (t : List ℕ) (at : ℕ) (lower upper : ℤ) (next : ℕ) : Type 0 where
  pub inside : next ≤ length t
  pub right : (l : Leaf) (rest : List ℕ) → head leaf_head (drop at t) ≡ leaf_here l rest → (lower ≡ lower_of l) × (upper ≡ upper_of l) × (drop next t ≡ rest)

pub record FloatLeafHere (t : List ℕ) (at : ℕ) : Type 0 where
  pub kind : 6 ≤ get_or t at 0
  pub what : FloatLeaf
  pub rest : List ℕ
  pub reads : head float_head (drop at t) ≡ leaf_here what rest

pub record FloatHere (t : List ℕ) (at : ℕ) (l : FloatLeaf) : Type 0 where
  pub right : (l' : FloatLeaf) (rest : List ℕ) → head float_head (drop at t) ≡ leaf_here l' rest → l ≡ l'

unfoldable pub float_leaf_size : ℕ → ℕ
float_leaf_size kind = cond (eqb kind 0x06) 9 17
