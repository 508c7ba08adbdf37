-- The ranges before k hold nothing of x, and the range k is looked at: what an integer's bits say of it is removed. Assumes nothing.
use Rattle.std.proofs.Common.{pos, get_or, add-one, arith}
use Rattle.integers.specs.Integer.{Word}
use Rattle.integers.proofs.SignedLocals.{again_same}
use Rattle.ranges.proofs.Steps.{Seeking, seeking_start, seeking_end, seek_on, seek_found}
use Rattle.ranges.proofs.holds.Goals as goal

pub loop-k-init : goal.loop-k-init
loop-k-init c = seeking_start _ _ _ _ c.requires.2

pub returns-then-x-b : goal.returns-then-x-b
returns-then-x-b c =
    let wx : Word c.args.x = c.ranges.x.sfits in
    let wa : Word (get_or c.args.lo.now c.loop-k.k (pos 0)) = omega arith in
    let wb : Word (get_or c.args.hi.now c.loop-k.k (pos 0)) = omega arith in
    let seeking : Seeking c.args.n c.args.lo.now c.args.hi.now c.args.x c.loop-k.k = rw (again_same c.args.x wx) at c.loop-k.invariant in
    let e = rw (again_same c.args.x wx, again_same (get_or c.args.hi.now c.loop-k.k (pos 0)) wb) at c.if-x-b.true in
    rw (again_same (get_or c.args.lo.now c.loop-k.k (pos 0)) wa, again_same c.args.x wx) (seek_found _ _ _ _ wx _ seeking c.requires.0 c.requires.1 c.loop-k-test.true e)

pub loop-k-preserved : goal.loop-k-preserved
loop-k-preserved c =
    let wx : Word c.args.x = c.ranges.x.sfits in
    let wb : Word (get_or c.args.hi.now c.loop-k.k (pos 0)) = omega arith in
    let seeking : Seeking c.args.n c.args.lo.now c.args.hi.now c.args.x c.loop-k.k = rw (again_same c.args.x wx) at c.loop-k.invariant in
    let e = rw (again_same c.args.x wx, again_same (get_or c.args.hi.now c.loop-k.k (pos 0)) wb) at c.if-x-b.false in
    rw (again_same c.args.x wx, add-one c.loop-k.k) (seek_on _ _ _ _ wx _ seeking c.requires.0 c.requires.1 c.loop-k-test.true e)

pub returns : goal.returns
returns c =
    let wx : Word c.args.x = c.ranges.x.sfits in
    let seeking : Seeking c.args.n c.args.lo.now c.args.hi.now c.args.x c.loop-k.k = rw (again_same c.args.x wx) at c.loop-k.invariant in
    seeking_end _ _ _ _ wx _ seeking c.requires.0 c.requires.1 c.loop-k-test.false
