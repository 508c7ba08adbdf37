-- `join_runs`: a block goes on with the run before it, or is written as it is.
use Rattle.std.proofs.Common.{◌≡◌, ◌<◌, take, get_or, sym, ◌∙◌, arith}
use Rattle.std.proofs.Math.Seq.{get_or-take, length-take-le}
use Rattle.records.proofs.JoinedRuns.{joining_start, joining_other, joining_run, joining_end, joining_as}
use Rattle.records.proofs.runs.join_runs.Goals as goal
use Rattle.records.proofs.runs.join_runs.Goals.{then-joins, else-joins}

pub loop-number-init : goal.loop-number-init
loop-number-init c = joining_start _ c.requires.1

pub loop-number-preserved : goal.loop-number-preserved
loop-number-preserved c =
    let g = c.loop-number.invariant in
    let told = c.joins.ensures in
    let few : c.loop-number.number-index < 32 = omega arith in
    let here : get_or (take c.args.count c.args.blocks.now) c.loop-number.number-index 0 ≡ get_or c.args.blocks.now c.loop-number.number-index 0 =
    get_or-take c.args.count c.args.blocks.now c.loop-number.number-index 0 (omega (arith, c.loop-number-test.true, length-take-le c.args.count c.args.blocks.now)) in
    elim c.if-joins.branch [
      | then-joins v ↦ joining_as v.joined-is v.r-is v.before-is (joining_run _ _ _ _ _ _ g few here _ (sym told ∙ v.if-joins.true) v.in_one-before.ensures)
      | else-joins v ↦ joining_as v.joined-is v.r-is v.before-is (joining_other _ _ _ _ _ _ g few here (sym told ∙ v.if-joins.false))
    ]

pub returns : goal.returns
returns c =
    let all : c.loop-number.number-index ≡ c.args.count = omega arith in
    let g = c.loop-number.invariant in
    λ k h. joining_end _ _ _ _ _ c.requires.0 (rw all at g) k h
