-- `extend_by_members`: the lowest place that is left is gone over, and is not left then.
use Rattle.std.proofs.Common.{refl, sym, ◌∙◌}
use Rattle.judging.proofs.ReachedPlaces.{extending_start, extending_step, left_fewer, extending_end}
use Rattle.judging.proofs.reach.extend_by_members.Goals as goal

pub loop-left-init : goal.loop-left-init
loop-left-init c = extending_start _ _ _ _

pub loop-left-smaller-then-one : goal.loop-left-smaller-then-one
loop-left-smaller-then-one c =
    let low = c.lowest_place-from.ensures in
    left_fewer c.loop-left.invariant _ _ _ low.inside c.with_place.ensures c.left_out-left.ensures low.low

pub loop-left-preserved-then-one : goal.loop-left-preserved-then-one
loop-left-preserved-then-one c =
    let low = c.lowest_place-from.ensures in
    extending_step c.loop-left.invariant _ _ _ low.inside c.with_place.ensures c.left_out-left.ensures (c.one_end-next.ensures _ (record { one = sym c.is_one-one.ensures ∙ c.if-one.true; first = refl }))

pub loop-left-smaller : goal.loop-left-smaller
loop-left-smaller c =
    let low = c.lowest_place-from.ensures in
    left_fewer c.loop-left.invariant _ _ _ low.inside c.with_place.ensures c.left_out-left.ensures low.low

pub loop-left-preserved : goal.loop-left-preserved
loop-left-preserved c =
    let low = c.lowest_place-from.ensures in
    extending_step c.loop-left.invariant _ _ _ low.inside c.with_place.ensures c.left_out-left.ensures c.piece_ends-next.ensures

pub returns : goal.returns
returns c = extending_end c.loop-left-test.false c.loop-left.invariant
