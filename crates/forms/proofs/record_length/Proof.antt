-- `forms::record_length` meets its contract: the test is the definition's own. Assumes nothing.
use mathlib.Core.Path.{◌≡◌, sym, ◌∙◌}
use borrow.Author.Rules.{rules}
use Rattle.integers.proofs.SignedLocals.{again_same}
use Rattle.integers.specs.Integer.{eq_z}
use Rattle.forms.proofs.record_length.Statement.{statement}
use Rattle.forms.proofs.record_length.Tie as tie

same_requires : tie.Need-same-requires
same_requires c κs = search rules

told : (c : tie.After-same) → c.same.result ≡ eq_z c.before.args.lower c.before.args.upper
told c =
    let s = c.before in
    c.same.ensures ∙ rw (again_same s.args.lower s.ranges.lower.sfits, again_same s.args.upper s.ranges.upper.sfits)

returns : tie.Need-returns-then-same
returns c = rw (sym (told c.before) ∙ c.if-same.true)

returns_2 : tie.Need-returns-else-same
returns_2 c = rw (sym (told c.before) ∙ c.if-same.false)

pub record_length_spec : {M : Type 1} → statement M
record_length_spec = tie.close (tie.spec same_requires returns returns_2)
