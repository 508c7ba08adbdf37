-- `forms::matched_length` meets its contract: by the number of ranges, as the definition. Assumes nothing.
use mathlib.Core.Path.{◌≡◌, sym, ap, ap₂, ◌∙◌}
use mathlib.Core.List.{List, [], ◌∷◌}
use Prim.Native.Nat.{ℕ, ◌+◌}
use native.Mathlib.Omega.{arith}
use lib.IntN.{ℤ, pos}
use lib.ListN.{length, get_or}
use borrow.Author.Rules.{rules}
use Rattle.ranges.specs.Shown.{view}
use Rattle.ranges.specs.Spans.{Span, span}
use Rattle.integers.proofs.SignedLocals.{again_same}
use Rattle.ranges.proofs.Views.{length_view}
use Rattle.forms.specs.Form.{record_length}
use Rattle.forms.proofs.Lengths.{records_length_most}
use Rattle.forms.proofs.Records.{view_none, view_one, matched_none, matched_one, matched_more, several}
use Rattle.forms.proofs.matched_length.Statement.{statement}
use Rattle.forms.proofs.matched_length.Tie as tie

-- as many ranges as are counted
abbrev all : tie.Start → List Span
all c = view c.args.n c.args.lo.now c.args.hi.now

size : (c : tie.Start) → length (all c) ≡ c.args.n
size c = length_view _ _ _ c.requires.1 c.requires.2

-- the only range
alone : (c : tie.Start) → c.args.n ≡ 1 → all c ≡ span (get_or c.args.lo.now 0 (pos 0)) (get_or c.args.hi.now 0 (pos 0)) ∷ []
alone c e = view_one _ _ _ e c.requires.1 c.requires.2

add_result : tie.Need-overflow_add-result
add_result c = search rules

returns : tie.Need-returns-then-n-eq0
returns c =
    let s = c.before in
    sym (matched_none (all s) (view_none _ _ _ c.if-n-eq0.true)).0

shared_slice_copy_out_a : tie.Need-bounds-lo-0
shared_slice_copy_out_a c = search rules

shared_slice_copy_out_b : tie.Need-bounds-hi-0
shared_slice_copy_out_b c = search rules

record_length_requires : tie.Need-record_length-requires
record_length_requires c κs = search rules

returns_2 : tie.Need-returns-then-n-eq1
returns_2 c =
    let u = c.before.before.before.before.before in
    let a : ℤ = get_or u.args.lo.now 0 (pos 0) in
    let b : ℤ = get_or u.args.hi.now 0 (pos 0) in
    c.record_length.ensures ∙ ap₂ (λ (x y : ℤ). record_length (span x y)) (again_same a c.before.before.a-1.given) (again_same b c.before.b-1.given)
    ∙ sym (matched_one (all u) (span a b) (alone u c.before.before.before.if-n-eq1.true)).0

records_length_requires : tie.Need-records_length-requires
records_length_requires c κs = search rules

add_result_2 : tie.Need-overflow_add-result-2
add_result_2 c =
    let s = c.before.before.before in
    omega (arith, c.records_length.ensures, records_length_most (all s), size s)

returns_3 : tie.Need-returns
returns_3 c =
    let s = c.before.before.before in
    ap (λ (n : ℕ). 2 + n) c.records_length.ensures ∙ sym (matched_more (all s) (several s.args.n _ (size s) c.before.before.if-n-eq0.false c.before.if-n-eq1.false)).0

pub matched_length_spec : {M : Type 1} → statement M
matched_length_spec =
    tie.close
    (tie.spec
    add_result
    returns
    shared_slice_copy_out_a
    shared_slice_copy_out_b
    record_length_requires
    returns_2
    records_length_requires
    add_result_2
    returns_3)
