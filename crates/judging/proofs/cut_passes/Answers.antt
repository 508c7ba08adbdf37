-- `cut_passes`: one block more at a time.
use Rattle.std.proofs.Common.{◌≡◌, arith}
use Rattle.blocks.proofs.LentBlocks.{lent, lent_inside}
use Rattle.judging.proofs.ReachedPlaces.{reached_low, reached_more, reached_all}
use Rattle.judging.proofs.cut_passes.Goals as goal

pub loop-j-init : goal.loop-j-init
unfolding lent
loop-j-init c = c.start-reach.ensures _ _

pub extend-reach-requires : goal.extend-reach-requires
extend-reach-requires c =
    let p = c.requires in
    (lent_inside c.args.count c.args.blocks.now c.loop-j.j c.block_at-b.ensures c.loop-j-test.true p.2, p.1, c.spares_of-spares.ensures, reached_low c.loop-j.invariant)

pub loop-j-preserved : goal.loop-j-preserved
loop-j-preserved c = reached_more c.args.blocks.now c.loop-j.j c.block_at-b.ensures (c.extend-reach.ensures _ c.loop-j.invariant)

pub returns : goal.returns
returns c =
    let all : c.loop-j.j ≡ c.args.count = omega arith in
    let i = c.loop-j.invariant in
    reached_all c.args.count c.args.blocks.now (rw all at i) c.has_place.ensures
