use Rattle.std.proofs.Common.{◌≡◌, refl, arith}
use Rattle.member_rows.proofs.RowByRow.{marked_start, marked_hit, marked_added}
use Rattle.member_rows.proofs.mark_all.Goals as goal

pub loop-e-init : goal.loop-e-init
loop-e-init c = marked_start _ _ _ c.requires.0

pub loop-e-preserved : goal.loop-e-preserved
loop-e-preserved c = marked_hit _ _ _ c.loop-e.e _ c.loop-e.invariant _ (omega arith) refl c.with.ensures

pub returns : goal.returns
returns c = let z : c.loop-e.e ≡ c.args.n = omega arith in let all = marked_added c.loop-e.invariant in rw z at all
