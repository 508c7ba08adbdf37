-- Each turn adds what the test said of its element. Assumes nothing.
use Rattle.std.proofs.Common.{◌≡◌, refl, length, arith, subst}
use Rattle.std.proofs.lemmas.List.{get_or_read}
use Rattle.member_rows.specs.Places.{Marked}
use Rattle.member_rows.proofs.RowByRow.{passing_start, passing_hit, passing_kept}
use Rattle.member_rows.proofs.mark_passing.Goals as goal
use Rattle.member_rows.proofs.mark_passing.Goals.{then-test, else-test}

pub loop-e-init : goal.loop-e-init
loop-e-init g c = passing_start _ _ _ c.requires.fits.0

pub loop-e-preserved : goal.loop-e-preserved
loop-e-preserved g c =
    let here = λ (d : g.row.T.Denot). subst (λ (x : g.row.T.Denot). goal.F-post g c.args.test x c.test.result) (get_or_read c.args.elements.now c.loop-e.e c.index-elements-e.result c.loop-e-test.true c.index-elements-e.is d) c.test.ensures in
    elim c.if-test.branch [
      | then-test w ↦ rw w.rows-is (passing_hit _ _ _ _ _ c.loop-e.invariant _ here _ (omega arith) w.if-test.true w.with.ensures)
      | else-test w ↦ rw w.rows-is (passing_kept _ _ _ _ _ c.loop-e.invariant _ here _ w.if-test.false refl)
    ]

pub returns : goal.returns
returns g c =
    let all : c.loop-e.e ≡ length c.args.elements.now = omega arith in
    let marked : Marked c.args.rows.now c.args.m c.loop-e.invariant.passes (length c.args.elements.now) c.loop-e.rows = rw all at c.loop-e.invariant.marked in
    (c.loop-e.invariant.passes, marked, λ e d l. c.loop-e.invariant.told e (omega arith) d)
