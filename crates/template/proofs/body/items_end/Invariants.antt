-- What the items from p on give, with the members, the blocks and the places so far, is what all of them give. Assumes nothing.
use Rattle.sorts.specs.Sorts.{family_of, lower_of, upper_of}
use Rattle.template.proofs.RecordItems.{ItemsGoing}
use Rattle.template.proofs.body.items_end.Given as goal

abbrev pub invariant-loop-k : goal.invariant-loop-k
invariant-loop-k l = ItemsGoing (family_of l.sort) (lower_of l.sort) (upper_of l.sort) l.t l.at l.n l.fn.places l.places l.blocks l.p l.m l.k
