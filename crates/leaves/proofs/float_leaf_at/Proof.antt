-- `leaves::float_leaf_at` meets its contract: by the leaf's kind. Assumes nothing.
use mathlib.Core.Path.{◌≡◌, ap, ap₂, ◌∙◌}
use mathlib.Core.List.{List}
use Prim.Native.Nat.{ℕ, ◌+◌, ◌≤◌}
use native.Mathlib.Omega.{arith}
use lib.Ieee.{Float}
use lib.ListN.{length, get_or}
use Rattle.floats.specs.Bytes.{float_at}
use Rattle.floats.specs.declared.Bounds.{Bounds}
use Rattle.floats.specs.declared.Leaf.{Leaf}
use Rattle.grammar.specs.FloatLeaf.{bounds_at}
use Rattle.leaves.proofs.FloatByKind.{one_fits, two_fit, one_is, range_is}
use Rattle.leaves.proofs.float_leaf_at.Statement.{statement}
use Rattle.leaves.proofs.float_leaf_at.Tie as tie

-- at the entry: which bytes are there
module _ (s : tie.Start) where
  abbrev bytes : List ℕ
  bytes = s.args.t.now

  abbrev at : ℕ
  at = s.args.at

  fits : at + 9 ≤ length bytes
  fits = one_fits bytes at s.requires

  both_fit : (get_or bytes at 0 ≡ 6 → ⊥) → at + 17 ≤ length bytes
  both_fit other = two_fit bytes at s.requires other

the_bounds : (bytes : List ℕ) (at : ℕ) (lower upper : Float) → lower ≡ float_at bytes (at + 1) → upper ≡ float_at bytes (at + 9) → Leaf.Range (record { lower = lower; upper = upper }) ≡ Leaf.Range (bounds_at bytes (at + 1))
the_bounds bytes at lower upper e d =
    let far : at + 9 ≡ at + 1 + 8 = omega arith in
    ap₂ (λ (a b : Float). Leaf.Range (made a b)) e (d ∙ ap (float_at bytes) far)
  where
    made : Float → Float → Bounds
    made a b = record { lower = a; upper = b }

add_float_at : tie.Need-overflow_add-at
add_float_at c = omega (arith, fits c.before)

float_at_requires : tie.Need-float_at-lower-requires
float_at_requires c κs = omega (arith, fits c.before)

shared_slice_read_if1 : tie.Need-bounds-t-at
shared_slice_read_if1 c = omega (arith, fits c.before.before.before)

returns : tie.Need-returns-then-t-at-eq-FLOAT
returns c =
    let s = c.before.before.before.before in
    one_is (bytes s) (at s) _ c.if-t-at-eq-FLOAT.true (ap Leaf.Float c.before.before.float_at-lower.ensures)

add_float_at_2 : tie.Need-overflow_add-at-2
add_float_at_2 c = let s = c.before.before.before.before in omega (arith, both_fit s c.if-t-at-eq-FLOAT.false)

float_at_requires_2 : tie.Need-float_at-upper-requires
float_at_requires_2 c κs = let s = c.before.before.before.before in omega (arith, both_fit s c.if-t-at-eq-FLOAT.false)

returns_2 : tie.Need-returns
returns_2 c =
    let s = c.before.before.before.before.before in
    let first = c.before.before.before.float_at-lower.ensures in
    range_is (bytes s) (at s) _ s.requires.kind c.before.if-t-at-eq-FLOAT.false (the_bounds (bytes s) (at s) _ _ first c.float_at-upper.ensures)

pub float_leaf_at_spec : {M : Type 1} → statement M
float_leaf_at_spec =
    tie.close
    (tie.spec
    add_float_at
    float_at_requires
    shared_slice_read_if1
    returns
    add_float_at_2
    float_at_requires_2
    returns_2)
