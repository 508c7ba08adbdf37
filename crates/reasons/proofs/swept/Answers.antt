-- `swept`: the element e is spare, or the group does not match it, or who holds it is added.
use Rattle.std.proofs.Common.{ℕ, ◌+◌, sym, subst, arith}
use Rattle.masks.specs.Masks.{Meets}
use Rattle.reasons.proofs.Sweeps.{Sweeping, sweep_spare, sweep_apart, sweep_owner}
use Rattle.reasons.proofs.swept.Goals as goal
use Rattle.reasons.proofs.swept.Goals.{then-owner-lt-MEMBERS_MOST+then-meets, then-owner-lt-MEMBERS_MOST+else-meets, else-owner-lt-MEMBERS_MOST}

pub loop-e-preserved : goal.loop-e-preserved
loop-e-preserved c =
    let i = c.loop-e.invariant in
    let again : ℕ → Type 0 = λ r. Sweeping c.args.rows.now c.args.n c.args.w c.args.group (c.loop-e.e + 1) r in
    elim c.if-owner-lt-MEMBERS_MOST.branch [
      | then-owner-lt-MEMBERS_MOST+then-meets w ↦
          subst again (sym w.r-is) (sweep_owner i (omega arith) (omega (arith, w.if-owner-lt-MEMBERS_MOST.true)) (subst (Meets _ _) w.if-meets.true w.meets.ensures) w.with-r.ensures)
      | then-owner-lt-MEMBERS_MOST+else-meets w ↦ subst again (sym w.r-is) (sweep_apart i (subst (Meets _ _) w.if-meets.false w.meets.ensures))
      | else-owner-lt-MEMBERS_MOST w ↦ subst again (sym w.r-is) (sweep_spare i (omega (arith, w.if-owner-lt-MEMBERS_MOST.false)))
    ]
