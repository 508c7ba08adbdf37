-- `forms::put_record` meets its contract: the test is the definition's own. Assumes nothing.
use mathlib.Core.Path.{◌≡◌, sym, ap, ap₂, ◌∙◌}
use mathlib.Core.List.{◌∷◌, ◌++◌}
use lib.IntN.{ℤ}
use lib.ListN.{drop}
use borrow.Author.Rules.{rules}
use Rattle.integers.proofs.SignedLocals.{again_same}
use Rattle.integers.specs.Integer.{int_bytes, eq_z}
use Rattle.forms.proofs.Records.{record_single, record_range}
use Rattle.forms.proofs.put_record.Statement.{statement}
use Rattle.forms.proofs.put_record.Tie as tie

same_requires : tie.Need-same-requires
same_requires c κs = search rules

told : (c : tie.After-same) → c.same.result ≡ eq_z c.before.before.args.lower c.before.before.args.upper
told c =
    let s = c.before.before in
    c.same.ensures ∙ rw (again_same s.args.lower s.ranges.lower.sfits, again_same s.args.upper s.ranges.upper.sfits)

put_single_requires : tie.Need-put_single-requires
put_single_requires c κs = rw (sym (told c.before.before) ∙ c.before.if-same.true) at c.before.before.before.before.requires

put_range_requires : tie.Need-put_range-requires
put_range_requires c κs = rw (sym (told c.before.before) ∙ c.before.if-same.false) at c.before.before.before.before.requires

same_length : tie.Need-shape_of-out-then-same
same_length c = search rules

returns : tie.Need-returns-then-same
returns c =
    let b = c.before.before.before.before.before in
    let s = b.before.before in
    c.before.before.put_single.ensures ∙ ap (λ (z : ℤ). 0x01 ∷ (int_bytes z ++ drop 5 s.args.out.now)) (again_same s.args.lower s.ranges.lower.sfits)
    ∙ record_single s.args.lower s.args.upper s.args.out.now (sym (told b) ∙ c.before.before.before.before.if-same.true)

same_length_2 : tie.Need-shape_of-out-else-same
same_length_2 c = search rules

returns_2 : tie.Need-returns-else-same
returns_2 c =
    let b = c.before.before.before.before.before in
    let s = b.before.before in
    c.before.before.put_range.ensures
    ∙ ap₂ (λ (y z : ℤ). 0x02 ∷ (int_bytes y ++ (int_bytes z ++ drop 9 s.args.out.now))) (again_same s.args.lower s.ranges.lower.sfits) (again_same s.args.upper s.ranges.upper.sfits)
    ∙ record_range s.args.lower s.args.upper s.args.out.now (sym (told b) ∙ c.before.before.before.before.if-same.false)

pub put_record_spec : {M : Type 1} → statement M
put_record_spec =
    tie.close
    (tie.spec
    same_requires
    put_single_requires
    put_range_requires
    same_length
    returns
    same_length_2
    returns_2)
