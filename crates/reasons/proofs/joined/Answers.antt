-- `joined`: no element at first, and all n at the end.
use Rattle.std.proofs.Common.{◌≡◌, arith}
use Rattle.reasons.proofs.Ones.{joining_start, joining_done}
use Rattle.reasons.proofs.joined.Goals as goal

pub loop-e-init : goal.loop-e-init
loop-e-init c = joining_start

pub returns : goal.returns
returns c =
    let all : c.loop-e.e ≡ c.args.n = omega arith in
    let i = c.loop-e.invariant in
    joining_done c.ranges.group.fits (rw all at i)
