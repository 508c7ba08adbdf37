-- `element_match::hit` meets its contract. Assumes nothing.
use Rattle.element_match.proofs.Walks.{only_one_lem, asked_one}
use borrow.Author.Rules.{rules}
use Rattle.element_match.proofs.hit.Statement.{statement}
use Rattle.element_match.proofs.hit.Tie as tie

cast_with : tie.Need-overflow_cast-e
cast_with c = search rules

with_requires : tie.Need-with-requires
with_requires c κs = search rules

hits_requires : tie.Need-hits-requires
hits_requires c κs = let p = c.before.before.before.requires in record { family = p.family; here = p.here; short = p.short; among = asked_one _ _ _ p.inside c.with.ensures }

returns : tie.Need-returns
returns c = only_one_lem _ _ _ _ _ _ _ c.before.with.ensures c.hits.ensures

pub hit_spec : {M : Type 1} → statement M
hit_spec = tie.close (tie.spec cast_with with_requires hits_requires returns)
