-- `cut_on`: each block settles its part of the first cut.
use Rattle.std.proofs.Common.{arith}
use Rattle.blocks.proofs.LentBlocks.{lent_inside}
use Rattle.fronts.proofs.LentFronts.{ready_at, step_at, end_at}
use Rattle.fronts.proofs.cut_on.Goals as goal

pub loop-i-init : goal.loop-i-init
loop-i-init c may h = h.underway

pub after_block-front-requires : goal.after_block-front-requires
after_block-front-requires c =
    let q = c.requires.4 in
    let b = c.block_at-b.ensures in
    let u = c.loop-i.invariant q.may q.halfway in
    (lent_inside c.args.count c.args.blocks.now c.loop-i.i b (omega arith) c.requires.3, u.standing, record { may = q.may; n = c.args.n; high = c.requires.2; ready = ready_at q.halfway.known c.loop-i.i (omega arith) b u })

pub loop-i-preserved : goal.loop-i-preserved
loop-i-preserved c may h =
    let b = c.block_at-b.ensures in
    let u = c.loop-i.invariant may h in
    step_at h.known c.loop-i.i (omega arith) b u (c.after_block-front.ensures may c.args.n c.requires.2 (ready_at h.known c.loop-i.i (omega arith) b u))

pub returns : goal.returns
returns c may h = end_at h.known c.loop-i.i (omega arith) c.requires.2 (c.loop-i.invariant may h)
