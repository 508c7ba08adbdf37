-- `element_match::leaf_hit` meets its contract. Assumes nothing.
use mathlib.Core.Path.{refl, ◌∙◌}
use Rattle.integers.specs.Integer.{Word}
use Rattle.integers.proofs.SignedLocals.{again_same}
use Rattle.element_match.proofs.Walks.{leaf_one}
use borrow.Author.Rules.{rules}
use Rattle.element_match.proofs.leaf_hit.Statement.{statement}
use Rattle.element_match.proofs.leaf_hit.Tie as tie

bounds_at_requires : tie.Need-bounds_at-b-requires
bounds_at_requires c κs = search rules

within_requires : tie.Need-within-requires
within_requires c κs = search rules

returns : tie.Need-returns
returns c =
    let read = c.before.before.before in
    let start = c.before.before.before.before.before in
    let b = read.bounds_at-b.result in
    let low : Word b.lower = search rules in
    let high : Word b.upper = search rules in
    let x = start.ranges.x.sfits in
    leaf_one _ _ _ _ _ _ _ x start.requires read.bounds_at-b.ensures (c.within.ensures ∙ rw (again_same b.lower low, again_same b.upper high, again_same _ x) refl)

pub leaf_hit_spec : {M : Type 1} → statement M
leaf_hit_spec = tie.close (tie.spec bounds_at_requires within_requires returns)
