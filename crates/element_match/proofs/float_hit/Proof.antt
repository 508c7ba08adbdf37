-- `element_match::float_hit` meets its contract. Assumes nothing.
use Rattle.element_match.proofs.Walks.{float_one}
use borrow.Author.Rules.{rules}
use Rattle.element_match.proofs.float_hit.Statement.{statement}
use Rattle.element_match.proofs.float_hit.Tie as tie

float_leaf_at_requires : tie.Need-float_leaf_at-requires
float_leaf_at_requires c κs = search rules

leaf_hit_requires : tie.Need-leaf_hit-requires
leaf_hit_requires c κs = search rules

returns : tie.Need-returns
returns c = float_one _ _ _ _ _ c.before.before.before.requires c.before.float_leaf_at.ensures c.leaf_hit.ensures

pub float_hit_spec : {M : Type 1} → statement M
float_hit_spec = tie.close (tie.spec float_leaf_at_requires leaf_hit_requires returns)
