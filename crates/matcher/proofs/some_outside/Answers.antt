-- `any` asks of each element whether it is outside. Assumes nothing.
use Rattle.std.proofs.Common.{rules, tests, ◌∙◌}
use Rattle.std.proofs.lemmas.Iterator.{YieldsList-from_slice}
use Rattle.std.proofs.lemmas.Iterator.Search.{any_from_yields_List}
use Rattle.grammar.specs.Leaf.{outside_type}
use Rattle.sorts.specs.Sorts.{lower_of, upper_of}
use Rattle.matcher.proofs.Inside.{outside_any}
use Rattle.matcher.proofs.some_outside.Goals as goal

pub returns : goal.returns
returns c =
    any_from_yields_List (outside_type (lower_of c.args.sort) (upper_of c.args.sort)) _ _ _ c.any.ensures.ran (YieldsList-from_slice c.args.list.now c.iter.ensures.rest) (λ x b q k. search (rules, tests))
    ∙ outside_any (lower_of c.args.sort) (upper_of c.args.sort) c.args.list.now
