-- `floats::leaf_hit` meets its contract: each arm knows which leaf it is, and the definition computes there. Assumes nothing.
use mathlib.Core.Path.{sym, ap, ◌∙◌}
use Rattle.floats.specs.declared.Leaf.{Leaf}
use Rattle.floats.specs.Leaves.{float_matches}
use borrow.Author.Rules.{rules}
use Rattle.floats.proofs.leaf_hit.Statement.{statement}
use Rattle.floats.proofs.leaf_hit.Tie as tie

enum_known_l : tie.Need-enum_known-l
enum_known_l c = search rules

enum_known_l_2 : tie.Need-enum_known-l-in-Range-1
enum_known_l_2 c = search rules

within_requires : tie.Need-within-requires
within_requires c κs = search rules

enum_told : tie.Need-enum_told-1
enum_told c = search rules

returns : tie.Need-returns-in-Float
unfolding float_matches
returns c = sym (ap (λ (l : Leaf). float_matches l c.args.x) c.in-Float.is)

returns_2 : tie.Need-returns-in-Range
returns_2 c = c.within.ensures ∙ sym (ap (λ (l : Leaf). float_matches l c.args.x) c.in-Range.is)

returns_3 : tie.Need-returns-in-Any
unfolding float_matches
returns_3 c = sym (ap (λ (l : Leaf). float_matches l c.args.x) c.in-Any.is)

pub leaf_hit_spec : {M : Type 1} → statement M
leaf_hit_spec =
    tie.close
    (tie.spec enum_known_l enum_known_l_2 within_requires enum_told returns returns_2 returns_3)
