-- `first_containment`: a list that gives each element its least member has no smaller byte anywhere.
use Rattle.std.proofs.Common.{◌≡◌, refl, arith}
use Rattle.blocks.proofs.FirstLists.{none_best}
use Rattle.sheets.proofs.LeastMembers.{least_start, least_step, least_none, least_best}
use Rattle.sheets.proofs.first_containment.Goals as goal

pub loop-e-init : goal.loop-e-init
loop-e-init c = least_start

pub lowest-requires : goal.lowest-requires
lowest-requires c = let some = c.if-row-eq0.false in omega arith

pub returns-then-row-eq0 : goal.returns-then-row-eq0
returns-then-row-eq0 c = none_best refl (least_none _ _ _ _ c.below-members.ensures _ c.loop-e-test.true c.if-row-eq0.true)

pub loop-e-preserved : goal.loop-e-preserved
loop-e-preserved c = least_step _ _ _ _ c.below-members.ensures c.loop-e.invariant (omega arith) c.lowest.ensures

pub returns : goal.returns
returns c =
    let g = c.loop-e.invariant in
    let done : c.loop-e.e ≡ c.args.n = omega arith in
    least_best c.requires.1 (rw done at g)
