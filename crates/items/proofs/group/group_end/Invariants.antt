-- What the items from here on give, with the members, the 20 and the places so far, is what all of them give. Assumes nothing.
use Rattle.std.proofs.Common.{◌-◌}
use Rattle.sorts.specs.Sorts.{family_of, lower_of, upper_of}
use Rattle.items.proofs.Groups.{Going}
use Rattle.items.proofs.group.group_end.Given as goal

abbrev pub invariant-loop : goal.invariant-loop
invariant-loop l = Going (family_of l.sort) (lower_of l.sort) (upper_of l.sort) l.t l.stars l.at l.n l.m l.fn.places l.p l.count l.star l.places (l.n - l.counter)
