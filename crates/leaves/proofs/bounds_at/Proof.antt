-- `leaves::bounds_at` meets its contract: by the leaf's kind. Assumes nothing.
use mathlib.Core.Path.{◌≡◌, ◌∙◌}
use mathlib.Core.List.{List}
use Prim.Native.Nat.{ℕ, ◌+◌, ◌≤◌}
use native.Mathlib.Omega.{arith}
use lib.ListN.{length, get_or}
use Rattle.integers.proofs.SignedLocals.{again, again_same}
use Rattle.integers.specs.Integer.{int_at}
use Rattle.grammar.specs.Leaf.{single, range}
use Rattle.leaves.proofs.LeafByKind.{LeafIs, leaf_fits, single_is, range_is, any_is, single_bounds, range_bounds, any_bounds}
use Rattle.leaves.proofs.bounds_at.Statement.{statement}
use Rattle.leaves.proofs.bounds_at.Tie as tie

-- at the entry: which leaf stands there, and how far it reaches
module _ (s : tie.Start) where
  abbrev bytes : List ℕ
  bytes = s.args.t.now

  abbrev at : ℕ
  at = s.args.at

  fits : at + 1 ≤ length bytes
  fits = leaf_fits bytes at s.requires

  a_single : get_or bytes at 0 ≡ 1 → LeafIs bytes at (single (int_at bytes (at + 1))) 5
  a_single e = single_is bytes at s.requires e

  a_range : get_or bytes at 0 ≡ 2 → LeafIs bytes at (range (int_at bytes (at + 1)) (int_at bytes (at + 5))) 9
  a_range e = range_is bytes at s.requires e

shared_slice_read_kind : tie.Need-bounds-t-at
shared_slice_read_kind c = omega (arith, fits c.before.before)

add_int_at : tie.Need-overflow_add-at
add_int_at c = omega (arith, fits c.before.before.before)

int_at_requires : tie.Need-int_at-x-requires
int_at_requires c κs = omega (arith, (a_single c.before.before.before c.if-kind-eq-SINGLE.true).fits)

add_t10 : tie.Need-overflow_add-result
add_t10 c = omega (arith, (a_single c.before.before.before.before c.before.if-kind-eq-SINGLE.true).fits)

returns : tie.Need-returns-then-kind-eq-SINGLE
returns c =
    let s = c.before.before.before.before in
    let x = c.int_at-x in
    let e : again x.result ≡ int_at (bytes s) (at s + 1) = again_same x.result x.type_inv ∙ x.ensures in
    single_bounds (bytes s) (at s) _ _ (a_single s c.before.if-kind-eq-SINGLE.true) e e

add_int_at_2 : tie.Need-overflow_add-at-then-kind-eq-RANGE
add_int_at_2 c = omega (arith, fits c.before.before.before.before)

int_at_requires_2 : tie.Need-int_at-lower-requires
int_at_requires_2 c κs = omega (arith, (a_range c.before.before.before.before c.if-kind-eq-RANGE.true).fits)

add_int_at_3 : tie.Need-overflow_add-at-then-kind-eq-RANGE-2
add_int_at_3 c = omega (arith, (a_range c.before.before.before.before.before c.before.if-kind-eq-RANGE.true).fits)

int_at_requires_3 : tie.Need-int_at-upper-requires
int_at_requires_3 c κs = omega (arith, (a_range c.before.before.before.before.before c.before.if-kind-eq-RANGE.true).fits)

add_t11 : tie.Need-overflow_add-result-then-kind-eq-RANGE
add_t11 c = omega (arith, (a_range c.before.before.before.before.before.before c.before.before.if-kind-eq-RANGE.true).fits)

returns_2 : tie.Need-returns-then-kind-eq-RANGE
returns_2 c =
    let s = c.before.before.before.before.before.before in
    let x = c.before.int_at-lower in
    let y = c.int_at-upper in
    range_bounds (bytes s) (at s) _ _ (a_range s c.before.before.if-kind-eq-RANGE.true) (again_same x.result x.type_inv ∙ x.ensures) (again_same y.result y.type_inv ∙ y.ensures)

add_t12 : tie.Need-overflow_add-result-2
add_t12 c = omega (arith, fits c.before.before.before.before)

returns_3 : tie.Need-returns
returns_3 c =
    let s = c.before.before.before.before in
    any_bounds (bytes s) (at s) (any_is (bytes s) (at s) s.requires c.before.if-kind-eq-SINGLE.false c.if-kind-eq-RANGE.false)

pub bounds_at_spec : {M : Type 1} → statement M
bounds_at_spec =
    tie.close
    (tie.spec
    shared_slice_read_kind
    add_int_at
    int_at_requires
    add_t10
    returns
    add_int_at_2
    int_at_requires_2
    add_int_at_3
    int_at_requires_3
    add_t11
    returns_2
    add_t12
    returns_3)
