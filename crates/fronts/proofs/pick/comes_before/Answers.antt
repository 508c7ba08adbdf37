-- `comes_before`: the first byte in which the lists differ decides.
use Rattle.std.proofs.Common.{sym, ◌∙◌, arith}
use Rattle.fronts.proofs.Orders.{order_end, order_differ, order_agree}
use Rattle.fronts.proofs.pick.comes_before.Goals as goal

pub returns-then-x-y : goal.returns-then-x-y
returns-then-x-y c = sym (c.loop-e.invariant ∙ order_differ c.args.a.now c.args.b.now 32 c.requires.0 c.requires.1 c.loop-e.e (omega arith) c.if-x-y.true)

pub loop-e-preserved : goal.loop-e-preserved
loop-e-preserved c = c.loop-e.invariant ∙ order_agree c.args.a.now c.args.b.now 32 c.requires.0 c.requires.1 c.loop-e.e (omega arith) c.if-x-y.false

pub returns : goal.returns
returns c = sym (c.loop-e.invariant ∙ order_end c.args.a.now c.args.b.now 32 c.requires.0 c.requires.1 c.loop-e.e (omega arith))
