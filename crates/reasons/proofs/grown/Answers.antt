-- `grown`: one sweep more.
use Rattle.reasons.proofs.Sweeps.{grow_start, grow_more, turns_fall}
use Rattle.reasons.proofs.grown.Goals as goal

pub loop-more-init : goal.loop-more-init
loop-more-init c = grow_start

pub loop-more-smaller : goal.loop-more-smaller
loop-more-smaller c = let b = turns_fall c.swept-next.ensures in rw c.loop-more-test.true b

pub loop-more-preserved : goal.loop-more-preserved
loop-more-preserved c = grow_more c.loop-more.invariant c.swept-next.ensures

pub returns : goal.returns
returns c = let i = c.loop-more.invariant in record { around = i.around; closed = i.done c.loop-more-test.false; least = i.least }
