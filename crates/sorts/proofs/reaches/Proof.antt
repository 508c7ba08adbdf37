-- `sorts::reaches` meets its contract. Assumes nothing.
use mathlib.Core.Path.{◌∙◌}
use borrow.Author.Rules.{rules}
use Rattle.integers.proofs.SignedLocals.{again_same}
use Rattle.sorts.proofs.reaches.Statement.{statement}
use Rattle.sorts.proofs.reaches.Tie as tie

lower_of_requires : tie.Need-lower_of-requires
lower_of_requires c κs = search rules

upper_of_requires : tie.Need-upper_of-requires
upper_of_requires c κs = search rules

returns : tie.Need-returns
returns c =
    let s = c.before.before in
    rw (
      again_same s.args.lower s.ranges.lower.sfits,
      again_same s.args.upper s.ranges.upper.sfits,
      again_same c.before.lower_of.result c.before.lower_of.type_inv ∙ c.before.lower_of.ensures,
      again_same c.upper_of.result c.upper_of.type_inv ∙ c.upper_of.ensures,
    )

pub reaches_spec : {M : Type 1} → statement M
reaches_spec = tie.close (tie.spec lower_of_requires upper_of_requires returns)
