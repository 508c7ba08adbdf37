-- `comes_before`. The loop: the lists are in the order in which they are from e on.
use Rattle.std.proofs.Common.{◌≡◌, drop}
use Rattle.byte_order.specs.ByteOrder.{earlier}
use Rattle.fronts.proofs.pick.comes_before.Given as goal

abbrev pub invariant-loop-e : goal.invariant-loop-e
invariant-loop-e l = earlier l.a l.b ≡ earlier (drop l.e l.a) (drop l.e l.b)
