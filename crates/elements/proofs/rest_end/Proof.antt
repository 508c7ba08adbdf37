-- `elements::rest_end` meets its contract: a leaf ends with its record, and what has members where they end. Assumes nothing.
use mathlib.Core.Path.{sym, ◌∙◌}
use native.Mathlib.Omega.{arith}
use borrow.Author.Tests.{not-true, not-false}
use Rattle.sorts.specs.Sorts.{leaves_for}
use Rattle.elements.proofs.Scans.{head_some, group_fits, leaf_ended, group_stopped, group_ended}
use Prim.Native.Nat.{◌+◌}
use borrow.Author.Rules.{rules}
use Rattle.elements.proofs.rest_end.Statement.{statement}
use Rattle.elements.proofs.rest_end.Tie as tie

shared_slice_read_is_group : tie.Need-bounds-t-at
shared_slice_read_is_group c =
    let p = c.before.before.requires in
    head_some (leaves_for c.before.before.args.sort) _ _ _ p.0.1 p.1 p.2

is_group_requires : tie.Need-is_group-requires
is_group_requires c κs = search rules

returns : tie.Need-returns-then-not-is_group
returns c =
    let start = c.before.before.before.before in
    let a = start.args in
    let p = start.requires in
    leaf_ended a.sort a.t.now a.at _ p.0.1 p.2 p.1 (sym c.before.is_group.ensures ∙ not-true _ c.if-not-is_group.true-raw)

add_scan_all : tie.Need-overflow_add-at
add_scan_all c = search rules

shared_slice_read_scan_all : tie.Need-bounds-t-at-2
shared_slice_read_scan_all c =
    let p = c.before.before.before.before.before.requires in
    let v = group_fits _ _ _ _ p.0.1 p.1 p.2 (sym c.before.before.is_group.ensures ∙ not-false _ c.before.if-not-is_group.false-raw) in
    omega arith

cast_scan_all : tie.Need-overflow_cast-t
cast_scan_all c = omega (arith, c.shared_slice_known-3-1.given (c.before.before.before.before.before.args.at + 1))

sub_scan_all : tie.Need-overflow_sub-scan_all
sub_scan_all c = search rules

scan_all_requires : tie.Need-scan_all-s-requires
scan_all_requires c κs =
    let p = c.before.before.before.before.before.requires in
    let v = group_fits _ _ _ _ p.0.1 p.1 p.2 (sym c.before.before.is_group.ensures ∙ not-false _ c.before.if-not-is_group.false-raw) in
    ((omega (arith, p.0), p.0.1), p.2)

returns_2 : tie.Need-returns-then-s-gt-FAULT
returns_2 c =
    let read = c.before.before.before.before in
    let start = read.before.before.before in
    let a = start.args in
    let p = start.requires in
    group_stopped a.sort a.t.now a.at _ p.0.1 p.2 _ c.before.scan_all-s.ensures p.1 (sym read.is_group.ensures ∙ not-false _ c.before.before.before.if-not-is_group.false-raw) c.if-s-gt-FAULT.true

returns_3 : tie.Need-returns
returns_3 c =
    let read = c.before.before.before.before in
    let start = read.before.before.before in
    let a = start.args in
    let p = start.requires in
    group_ended a.sort a.t.now a.at _ p.0.1 p.2 _ c.before.scan_all-s.ensures p.1 (sym read.is_group.ensures ∙ not-false _ c.before.before.before.if-not-is_group.false-raw) c.if-s-gt-FAULT.false

pub rest_end_spec : {M : Type 1} → statement M
rest_end_spec =
    tie.close
    (tie.spec
    shared_slice_read_is_group
    is_group_requires
    returns
    add_scan_all
    shared_slice_read_scan_all
    cast_scan_all
    sub_scan_all
    scan_all_requires
    returns_2
    returns_3)
