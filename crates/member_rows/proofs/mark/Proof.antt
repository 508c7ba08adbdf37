-- `member_rows::mark` meets its contract: a leaf by its kind, what has members by the mask of all elements. Assumes nothing.
use mathlib.Core.Path.{◌≡◌}
use Prim.Native.Nat.{ℕ, ◌+◌, ◌≤◌, ◌<◌}
use native.Mathlib.Omega.{arith}
use lib.ListN.{length, get_or}
use Rattle.format.specs.declared.Family.{Family}
use Rattle.integers.specs.Integer.{Word}
use Rattle.integers.proofs.SignedLocals.{again_same}
use Rattle.grammar.specs.Family.{list_of, Lent}
use Rattle.grammar.proofs.Families.{lent_size}
use Rattle.leaves.specs.Leaves.{LeafHere, FloatLeafHere}
use Rattle.leaves.proofs.ElementByKind as by_kind
use Rattle.member_rows.specs.Places.{Marks}
use Rattle.member_rows.proofs.RowByRow.{leaf_marked, any_marked, floats_marked, floats_few, hits_marked, all_among}
use borrow.Author.Rules.{rules}
use Rattle.member_rows.proofs.mark.Statement.{statement}
use Rattle.member_rows.proofs.mark.Tie as tie

-- what stands there, and how long the list is
module _ (s : tie.Start) where
  abbrev asks : Marks s.args.t.now s.args.at s.args.integers.now s.args.floats.now s.args.wide.now
  asks = s.requires.2

  abbrev kind : ℕ
  kind = get_or s.args.t.now s.args.at 0

  abbrev sum : ℕ
  sum = length s.args.integers.now + length s.args.floats.now

  fits : s.args.at < length s.args.t.now
  fits = let w = asks.here in omega (arith, by_kind.here_fits asks.family s.args.t.now s.args.at 8 0 w.what w.leaves w.rest w.reads)

  integer_there : kind < 3 → LeafHere s.args.t.now s.args.at
  integer_there = let w = asks.here in by_kind.integer_there asks.family _ _ 8 0 w.what w.leaves w.rest w.reads

  float_there : 5 < kind → FloatLeafHere s.args.t.now s.args.at
  float_there = let w = asks.here in by_kind.float_there asks.family _ _ 8 0 w.what w.leaves w.rest w.reads

  size_of : (fam : Family) → Lent fam s.args.integers.now s.args.floats.now → length (list_of fam s.args.integers.now s.args.floats.now) ≡ sum
  size_of fam lent = lent_size fam _ _ lent

  few : sum ≤ 32
  few = omega (arith, size_of asks.family asks.lent, asks.few)

add_n : tie.Need-overflow_add-n
add_n c = omega (arith, few c.before.before)

shared_slice_read_kind : tie.Need-bounds-t-at
shared_slice_read_kind c = fits c.before.before.before

bounds_at_requires : tie.Need-bounds_at-b-requires
bounds_at_requires c κs = integer_there c.before.before.before.before c.if-kind-lt-ANY.true

in_eights_requires : tie.Need-in_eights-lines-requires
in_eights_requires c κs = few c.before.before.before.before.before

mark_within_requires : tie.Need-mark_within-requires
mark_within_requires c κs = let p = c.requires in (p.0, p.1, omega arith)

returns : tie.Need-returns-then-lines-eq-LIST_MOST
returns c fam lent =
    let at_lines = c.before.before.before.before.before in
    let at_Bounds = at_lines.before in
    let start = at_Bounds.before.before.before.before.before in
    let b = at_Bounds.bounds_at-b.result in
    let low : Word b.lower = search rules in
    let high : Word b.upper = search rules in
    let taken = at_Bounds.before.if-kind-lt-ANY.true in
    leaf_marked _ _ _ _ _ _ _ _ _ _ _ _ _ _ (asks start).widened c.mark_within.ensures taken (integer_there start taken) at_Bounds.bounds_at-b.ensures (again_same b.lower low) (again_same b.upper high) fam
    (omega (arith, size_of start fam lent, few start))

mark_within_requires_2 : tie.Need-mark_within-requires-then-kind-lt-ANY
mark_within_requires_2 c κs =
    let lines = c.before.before.before.before in
    let start = lines.before.before.before.before.before.before in
    (start.requires.0, start.requires.1, omega (arith, lines.in_eights-lines.ensures, few start))

returns_2 : tie.Need-returns-then-kind-lt-ANY
returns_2 c fam lent =
    let at_lines = c.before.before.before.before.before in
    let at_Bounds = at_lines.before in
    let start = at_Bounds.before.before.before.before.before in
    let b = at_Bounds.bounds_at-b.result in
    let low : Word b.lower = search rules in
    let high : Word b.upper = search rules in
    let taken = at_Bounds.if-kind-lt-ANY.true in
    leaf_marked _ _ _ _ _ _ _ _ _ _ _ _ _ _ (asks start).widened c.mark_within-then-kind-lt-ANY.ensures taken (integer_there start taken) at_Bounds.bounds_at-b.ensures (again_same b.lower low) (again_same b.upper high) fam
    (omega (arith, size_of start fam lent, at_lines.in_eights-lines.ensures))

in_eights_requires_2 : tie.Need-in_eights-requires
in_eights_requires_2 c κs = few c.before.before.before.before.before.before

mark_all_requires : tie.Need-mark_all-requires
mark_all_requires c κs =
    let start = c.before.before.before.before.before.before.before in
    (start.requires.0, start.requires.1, omega (arith, c.in_eights.ensures, few start))

returns_3 : tie.Need-returns-then-kind-eq-ANY
returns_3 c fam lent =
    let lines = c.before in
    let start = lines.before.before.before.before.before.before.before in
    any_marked _ _ _ _ _ _ _ _ lines.if-kind-eq-ANY.true c.mark_all.ensures fam (omega (arith, size_of start fam lent, lines.in_eights.ensures))

float_leaf_at_requires : tie.Need-float_leaf_at-requires
float_leaf_at_requires c κs = float_there c.before.before.before.before.before.before.before c.if-kind-gt-COMPLEMENT.true

mark_floats_requires : tie.Need-mark_floats-requires
mark_floats_requires c κs =
    let start = c.before.before.before.before.before.before.before.before in
    (start.requires.0, start.requires.1, floats_few _ _ _ _ _ (asks start).here c.if-kind-gt-COMPLEMENT.true (asks start).few)

returns_4 : tie.Need-returns-then-kind-gt-COMPLEMENT
returns_4 c fam lent =
    let decoded = c.before in
    let start = decoded.before.before.before.before.before.before.before.before in
    let high = decoded.if-kind-gt-COMPLEMENT.true in
    floats_marked _ _ _ _ _ _ _ _ high (float_there start high) decoded.float_leaf_at.ensures c.mark_floats.ensures fam

cast_span : tie.Need-overflow_cast-n
cast_span c = let start = c.before.before.before.before.before.before in omega (arith, few start)

span_requires : tie.Need-span-requires
span_requires c κs = let start = c.before.before.before.before.before.before in omega (arith, few start)

hits_requires : tie.Need-hits-elements-requires
hits_requires c κs =
    let start = c.before.before.before.before.before.before.before in
    let a = asks start in
    record { family = a.family; here = a.here; short = a.short; among = all_among _ _ _ (size_of start a.family a.lent) c.span.ensures }

mark_hits_requires : tie.Need-mark_hits-requires
mark_hits_requires c κs = search rules

returns_5 : tie.Need-returns
returns_5 c fam lent =
    let hit = c.before.before in
    let start = hit.before.before.before.before.before.before.before.before in
    hits_marked _ _ _ _ _ _ _ _ _ _ (few start) hit.span.ensures hit.hits-elements.ensures c.mark_hits.ensures fam (size_of start fam lent)

pub mark_spec : {M : Type 1} → statement M
mark_spec =
    tie.close
    (tie.spec
    add_n
    shared_slice_read_kind
    bounds_at_requires
    in_eights_requires
    mark_within_requires
    returns
    mark_within_requires_2
    returns_2
    in_eights_requires_2
    mark_all_requires
    returns_3
    float_leaf_at_requires
    mark_floats_requires
    returns_4
    cast_span
    span_requires
    hits_requires
    mark_hits_requires
    returns_5)
