-- `elements::typed_head_end` meets its contract: a leaf is read once more, and its bounds are compared with those of the type. Assumes nothing.
use mathlib.Core.Path.{◌≡◌, sym, ◌∙◌}
use mathlib.Core.Bool.{◌||◌}
use lib.Signed.{lt_z}
use Rattle.integers.proofs.SignedLocals.{again_same}
use Rattle.sorts.specs.Sorts.{lower_of, upper_of}
use Rattle.grammar.specs.Leaf.{leaf_head}
use Rattle.elements.proofs.Scans.{head_some}
use Rattle.elements.proofs.TypedRecords.{typed_fault, typed_plain, leaf_here_lem, typed_outside, typed_inside}
use borrow.Author.Rules.{rules}
use Rattle.elements.proofs.typed_head_end.Statement.{statement}
use Rattle.elements.proofs.typed_head_end.Tie as tie

integer_head_end_requires : tie.Need-integer_head_end-end-requires
integer_head_end_requires c κs = search rules

returns : tie.Need-returns-then-end-gt-FAULT
returns c = let s = c.before.before.before in typed_fault _ _ s.args.t.now s.args.at _ s.requires.1 c.before.integer_head_end-end.ensures c.if-end-gt-FAULT.true

shared_slice_read_kind : tie.Need-bounds-t-at
shared_slice_read_kind c = let s = c.before.before.before.before in head_some leaf_head s.args.t.now s.args.at _ s.requires.1 c.before.before.integer_head_end-end.ensures c.before.if-end-gt-FAULT.false

returns_2 : tie.Need-returns-then-kind-ge-ANY
returns_2 c = let s = c.before.before.before.before.before in typed_plain _ _ s.args.t.now s.args.at _ s.requires.1 c.before.before.if-end-gt-FAULT.false c.before.before.before.integer_head_end-end.ensures c.if-kind-ge-ANY.true

bounds_at_requires : tie.Need-bounds_at-l-requires
bounds_at_requires c κs = let s = c.before.before.before.before.before in leaf_here_lem (lower_of s.args.sort) (upper_of s.args.sort) s.args.t.now s.args.at _ s.requires.1 c.before.before.if-end-gt-FAULT.false c.before.before.before.integer_head_end-end.ensures c.if-kind-ge-ANY.false

reaches_requires : tie.Need-reaches-requires
reaches_requires c κs = search rules

refusal_requires : tie.Need-refusal-requires
refusal_requires c κs = search rules

-- the bounds, read again out of the struct
told : (c : tie.After-reaches) → c.reaches.result ≡ (lt_z c.before.before.before.bounds_at-l.result.lower (lower_of c.before.before.before.before.before.before.before.before.before.args.sort) || lt_z (upper_of c.before.before.before.before.before.before.before.before.before.args.sort) c.before.before.before.bounds_at-l.result.upper)
told c =
    let g = c.before.before.struct_told-1.given in
    let b = c.before.before.before.bounds_at-l.result in
    c.reaches.ensures ∙ rw (again_same b.lower g.0.1, again_same b.upper g.1.0.1)

returns_3 : tie.Need-returns-then-reaches
returns_3 c =
    let read = c.before.before.before.before.before in
    let w = read.before in
    let s = w.before.before.before.before.before in
    typed_outside _ _ s.args.t.now s.args.at _ s.requires.1 w.before.before.if-end-gt-FAULT.false _ _ _ read.bounds_at-l.ensures w.if-kind-ge-ANY.false _ c.refusal.ensures w.before.before.before.integer_head_end-end.ensures (sym (told c.before.before) ∙ c.before.if-reaches.true)

returns_4 : tie.Need-returns
returns_4 c =
    let read = c.before.before.before.before in
    let w = read.before in
    let s = w.before.before.before.before.before in
    typed_inside _ _ s.args.t.now s.args.at _ s.requires.1 w.before.before.if-end-gt-FAULT.false _ _ _ read.bounds_at-l.ensures w.if-kind-ge-ANY.false w.before.before.before.integer_head_end-end.ensures (sym (told c.before) ∙ c.if-reaches.false)

pub typed_head_end_spec : {M : Type 1} → statement M
typed_head_end_spec =
    tie.close
    (tie.spec
    integer_head_end_requires
    returns
    shared_slice_read_kind
    returns_2
    bounds_at_requires
    reaches_requires
    refusal_requires
    returns_3
    returns_4)
