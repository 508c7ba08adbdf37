-- `element_match::hits` meets its contract: the outermost record says which walk it is. Assumes nothing.
use mathlib.Core.Path.{◌≡◌, refl, sym}
use mathlib.Core.Bool.{true, false}
use Prim.Native.Nat.{ℕ, ◌+◌, ◌≤◌}
use native.Mathlib.Omega.{arith}
use lib.ListN.{get_or}
use Rattle.integers.specs.Integer.{Word}
use Rattle.element_match.proofs.Walks.{Here, whole_here, here_fits, any_matched, integer_there, float_there, integers_asked, floats_asked, complement_kind, opened, leaf_misses_again, float_misses, matched, group_matched, retold}
use borrow.Author.Rules.{rules}
use Rattle.element_match.proofs.hits.Statement.{statement}
use Rattle.element_match.proofs.hits.Tie as tie

whole : (s : tie.Start) → Here s.requires.family s.args.t.now s.args.at 8
whole s = whole_here _ _ _ s.requires.here

shared_slice_read_kind : tie.Need-bounds-t-at
shared_slice_read_kind c = omega (arith, here_fits _ _ _ _ (whole c.before.before.before))

returns : tie.Need-returns-then-kind-eq-ANY
returns c = any_matched _ _ _ _ _ c.if-kind-eq-ANY.true

bounds_at_requires : tie.Need-bounds_at-b-requires
bounds_at_requires c κs = integer_there _ _ _ _ (whole c.before.before.before.before.before) c.if-kind-lt-ANY.true

missed_requires : tie.Need-missed-requires
missed_requires c κs =
    let low = c.before.before.before in
    let s = low.before.before.before.before.before in
    integers_asked _ _ _ _ _ _ _ (whole s) low.if-kind-lt-ANY.true s.requires.among

others_requires : tie.Need-others-requires
others_requires c κs = search rules

returns_2 : tie.Need-returns-then-kind-lt-ANY
returns_2 c =
    let at_missed = c.before in
    let at_Bounds = at_missed.before.before.before in
    let b = at_Bounds.bounds_at-b.result in
    let low : Word b.lower = search rules in
    let high : Word b.upper = search rules in
    matched _ _ _ _ _ _ _ _ c.others.ensures (leaf_misses_again _ _ _ _ _ _ _ _ _ _ low high at_Bounds.before.if-kind-lt-ANY.true at_Bounds.bounds_at-b.ensures at_missed.missed.ensures)

add_any_of : tie.Need-overflow_add-at
add_any_of c = search rules

add_any_of_2 : tie.Need-overflow_add-at-then-kind-eq-LIST
add_any_of_2 c = search rules

shared_slice_read_any_of : tie.Need-bounds-t-at-then-kind-eq-LIST
shared_slice_read_any_of c = omega (arith, (opened _ _ _ _ (whole c.before.before.before.before.before.before.before) false c.before.if-kind-eq-LIST.true).fits)

cast_any_of : tie.Need-overflow_cast-t
cast_any_of c = omega (arith, c.shared_slice_known-then-kind-eq-LIST-1.given (c.before.before.before.before.before.before.before.args.at + 1))

sub_any_of : tie.Need-overflow_sub-any_of
sub_any_of c = search rules

any_of_requires : tie.Need-any_of-requires
any_of_requires c κs =
    let s = c.before.before.before.before.before.before.before in
    record { family = s.requires.family; members = (opened _ _ _ _ (whole s) false c.before.if-kind-eq-LIST.true).members; short = s.requires.short; among = s.requires.among }

mask_in_requires : tie.Need-mask_in-requires
mask_in_requires c κs = search rules

returns_3 : tie.Need-returns-then-kind-eq-LIST
returns_3 c = group_matched _ _ _ _ _ _ _ false c.before.before.before.if-kind-eq-LIST.true (retold false _ _ _ _ _ _ _ (sym c.mask_in.ensures) refl c.before.any_of.ensures)

float_leaf_at_requires : tie.Need-float_leaf_at-requires
float_leaf_at_requires c κs = float_there _ _ _ _ (whole c.before.before.before.before.before.before.before) c.if-kind-gt-COMPLEMENT.true

missed_floats_requires : tie.Need-missed_floats-requires
missed_floats_requires c κs =
    let s = c.before.before.before.before.before.before.before.before in
    floats_asked _ _ _ _ _ _ _ (whole s) c.before.if-kind-gt-COMPLEMENT.true s.requires.among

others_requires_2 : tie.Need-others-requires-then-kind-gt-COMPLEMENT
others_requires_2 c κs = search rules

returns_4 : tie.Need-returns-then-kind-gt-COMPLEMENT
returns_4 c =
    let at_missed = c.before in
    let decoded = at_missed.before in
    let high = decoded.before in
    let s = high.before.before.before.before.before.before.before in
    matched _ _ _ _ _ _ _ _ c.others-then-kind-gt-COMPLEMENT.ensures
    (float_misses _ _ _ _ _ _ _ _ high.if-kind-gt-COMPLEMENT.true (float_there _ _ _ _ (whole s) high.if-kind-gt-COMPLEMENT.true) decoded.float_leaf_at.ensures at_missed.missed_floats.ensures)

above_any : (kind : ℕ) → (kind ≡ 3 → ⊥) → 3 ≤ kind → 4 ≤ kind
above_any kind n l = omega arith

-- neither a leaf nor a list
complement : (c : tie.Else-kind-gt-COMPLEMENT) → let s = c.before.before.before.before.before.before.before in get_or s.args.t.now s.args.at 0 ≡ 5
complement c = complement_kind _ (above_any _ c.before.before.before.if-kind-eq-ANY.false c.before.before.if-kind-lt-ANY.false) c.before.if-kind-eq-LIST.false c.if-kind-gt-COMPLEMENT.false

add_none_of : tie.Need-overflow_add-at-2
add_none_of c = search rules

add_none_of_2 : tie.Need-overflow_add-at-3
add_none_of_2 c = search rules

shared_slice_read_none_of : tie.Need-bounds-t-at-2
shared_slice_read_none_of c = omega (arith, (opened _ _ _ _ (whole c.before.before.before.before.before.before.before.before) true (complement c.before)).fits)

cast_none_of : tie.Need-overflow_cast-t-2
cast_none_of c = omega (arith, c.shared_slice_known-4-1.given (c.before.before.before.before.before.before.before.before.args.at + 1))

sub_none_of : tie.Need-overflow_sub-none_of
sub_none_of c = search rules

none_of_requires : tie.Need-none_of-requires
none_of_requires c κs =
    let s = c.before.before.before.before.before.before.before.before in
    record { family = s.requires.family; members = (opened _ _ _ _ (whole s) true (complement c.before)).members; short = s.requires.short; among = s.requires.among }

mask_in_requires_2 : tie.Need-mask_in-requires-2
mask_in_requires_2 c κs = search rules

returns_5 : tie.Need-returns
returns_5 c = group_matched _ _ _ _ _ _ _ true (complement c.before.before.before) (retold true _ _ _ _ _ _ _ (sym c.mask_in-2.ensures) refl c.before.none_of.ensures)

pub hits_spec : {M : Type 1} → statement M
hits_spec =
    tie.close
    (tie.spec
    shared_slice_read_kind
    returns
    bounds_at_requires
    missed_requires
    others_requires
    returns_2
    add_any_of
    add_any_of_2
    shared_slice_read_any_of
    cast_any_of
    sub_any_of
    any_of_requires
    mask_in_requires
    returns_3
    float_leaf_at_requires
    missed_floats_requires
    others_requires_2
    returns_4
    add_none_of
    add_none_of_2
    shared_slice_read_none_of
    cast_none_of
    sub_none_of
    none_of_requires
    mask_in_requires_2
    returns_5)
