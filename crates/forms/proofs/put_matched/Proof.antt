-- `forms::put_matched` meets its contract: by the number of ranges, as the definition. Assumes nothing.
use mathlib.Core.Path.{◌≡◌, ap, ◌∙◌}
use mathlib.Core.List.{List, [], ◌∷◌, ◌++◌}
use Prim.Native.Nat.{ℕ, ◌+◌}
use native.Mathlib.Omega.{arith}
use lib.IntN.{ℤ, pos}
use lib.ListN.{length, get_or, drop}
use borrow.Author.Rules.{rules}
use Rattle.ranges.specs.Shown.{view}
use Rattle.ranges.specs.Spans.{Span, span}
use Rattle.integers.proofs.SignedLocals.{again_same}
use Rattle.ranges.proofs.Views.{length_view}
use Rattle.forms.specs.Form.{record_of, records, matched_form, record_length, records_length, matched_length}
use Rattle.forms.proofs.Records.{view_none, view_one, matched_none, matched_one, matched_more, form_put, several}
use Rattle.forms.proofs.put_matched.Statement.{statement}
use Rattle.forms.proofs.put_matched.Tie as tie

module _ (c : tie.Start) where
  abbrev n : ℕ
  n = c.args.n

  abbrev s : List Span
  s = view n c.args.lo.now c.args.hi.now

  -- as many ranges as are counted
  size : length s ≡ n
  size = length_view _ _ _ c.requires.0.1 c.requires.0.2

  none_there : n ≡ 0 → s ≡ []
  none_there e = view_none _ _ _ e

  abbrev a : ℤ
  a = get_or c.args.lo.now 0 (pos 0)

  abbrev b : ℤ
  b = get_or c.args.hi.now 0 (pos 0)

  one_there : n ≡ 1 → (matched_length s ≡ record_length (span a b)) × (matched_form s ≡ record_of (span a b))
  one_there e = matched_one s (span a b) (view_one _ _ _ e c.requires.0.1 c.requires.0.2)

  more_there : (n ≡ 0 → ⊥) → (n ≡ 1 → ⊥) → (matched_length s ≡ 2 + records_length s) × (matched_form s ≡ 0x04 ∷ n ∷ records s)
  more_there z o =
      let m = matched_more s (several n (length s) size z o) in
      (m.0, m.1 ∙ ap (λ (m : ℕ). 0x04 ∷ m ∷ records s) size)

put_nothing_requires : tie.Need-put_nothing-requires
put_nothing_requires c κs =
    let u = c.before.before.before in
    omega (arith, u.requires.1, (matched_none (s u) (none_there u c.before.if-n-eq0.true)).0)

shared_slice_copy_out_a : tie.Need-bounds-lo-0
shared_slice_copy_out_a c = search rules

shared_slice_copy_out_b : tie.Need-bounds-hi-0
shared_slice_copy_out_b c = search rules

put_record_requires : tie.Need-put_record-requires
put_record_requires c κs =
    let u = c.before.before.before.before.before.before in
    rw (again_same (a u) c.before.before.a-1.given, again_same (b u) c.before.b-1.given) (omega (arith, u.requires.1, (one_there u c.before.before.before.if-n-eq1.true).0))

put_group_requires : tie.Need-put_group-requires
put_group_requires c κs =
    let u = c.before.before.before.before in
    (u.requires.0, omega (arith, u.requires.1, (more_there u c.before.before.if-n-eq0.false c.before.if-n-eq1.false).0))

same_length : tie.Need-shape_of-out-then-n-eq0
same_length c = search rules

returns : tie.Need-returns-then-n-eq0
returns c =
    let u = c.before.before.before.before.before.before in
    let m = matched_none (s u) (none_there u c.before.before.before.before.if-n-eq0.true) in
    form_put _ u.args.out.now _ _ _ _ m.1 m.0 c.before.before.put_nothing.ensures

same_length_2 : tie.Need-shape_of-out-then-n-eq1
same_length_2 c = search rules

returns_2 : tie.Need-returns-then-n-eq1
returns_2 c =
    let u = c.before.before.before.before.before.before.before.before.before in
    let m = one_there u c.before.before.before.before.before.before.if-n-eq1.true in
    let e : c.before.before.put_record.new.out ≡ record_of (span (a u) (b u)) ++ drop (record_length (span (a u) (b u))) u.args.out.now =
    c.before.before.put_record.ensures ∙ rw (again_same (a u) c.before.before.before.before.before.a-1.given, again_same (b u) c.before.before.before.before.b-1.given) in
    form_put _ u.args.out.now _ _ _ _ m.1 m.0 e

same_length_3 : tie.Need-shape_of-out-else-n-eq1
same_length_3 c = search rules

returns_3 : tie.Need-returns-else-n-eq1
returns_3 c =
    let u = c.before.before.before.before.before.before.before in
    let m = more_there u c.before.before.before.before.before.if-n-eq0.false c.before.before.before.before.if-n-eq1.false in
    form_put _ u.args.out.now _ _ _ _ m.1 m.0 c.before.before.put_group.ensures

pub put_matched_spec : {M : Type 1} → statement M
put_matched_spec =
    tie.close
    (tie.spec
    put_nothing_requires
    shared_slice_copy_out_a
    shared_slice_copy_out_b
    put_record_requires
    put_group_requires
    same_length
    returns
    same_length_2
    returns_2
    same_length_3
    returns_3)
