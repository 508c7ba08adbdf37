-- Where both inputs are forms their ranges meet, and else the fault is the answer. Assumes nothing.
use Rattle.std.proofs.Common.{◌≡◌, refl, ◌∙◌, ◌≤ℤ◌}
use Rattle.facts.proofs.Cases.{clash}
use Rattle.integers.proofs.SignedLocals.{again, again_same}
use Rattle.forms.proofs.Accepts.{ordered}
use Rattle.meeting.proofs.Meetings.{meeting_is, fault_is, read_written, read_none, read_held}
use Rattle.meeting.proofs.meeting.Goals as goal
use Rattle.meeting.proofs.meeting.Goals.{in_default-via-in-Some+in_default, in_default-via-in_default}

pub returns-then-upper-lower : goal.returns-then-upper-lower
returns-then-upper-lower c =
    let low : again c.args.lower ≡ c.args.lower = again_same c.args.lower c.ranges.lower.sfits in
    let high : again c.args.upper ≡ c.args.upper = again_same c.args.upper c.ranges.upper.sfits in
    let reversed = rw (low, high) at c.if-upper-lower.true in
    let number = rw (low, high) at c.fault.ensures in
    rw (c.refused.ensures.0, c.refused.ensures.1, number) (fault_is _ _ c.ranges.lower.sfits c.ranges.upper.sfits _ _ _ (λ e. absurd (clash reversed e)))

pub returns-in_default : goal.returns-in_default
returns-in_default c =
    let low : again c.args.lower ≡ c.args.lower = again_same c.args.lower c.ranges.lower.sfits in
    let high : again c.args.upper ≡ c.args.upper = again_same c.args.upper c.ranges.upper.sfits in
    let number = rw (low, high) at c.fault-in_default.ensures in
    let fault = fault_is c.args.lower c.args.upper c.ranges.lower.sfits c.ranges.upper.sfits c.args.first.now c.args.second.now c.args.room.now in
    rw (c.refused-in_default.ensures.0, c.refused-in_default.ensures.1, number)
    (elim c.in_default.branch [
      | in_default-via-in-Some+in_default w ↦
          let second_read = rw (low, high, w.in_default.is-1) at c.read_form-b.ensures in
          fault (λ e some. read_none _ _ _ _ _ _ _ _ _ _ second_read refl)
      | in_default-via-in_default w ↦
          let first_read = rw (low, high, w.in_default.is-0) at c.read_form-a.ensures in
          fault (λ e some. absurd (some (read_none _ _ _ _ _ _ _ _ _ _ first_read refl)))
    ])

pub meet-requires : goal.meet-requires
meet-requires c =
    let low : again c.args.lower ≡ c.args.lower = again_same c.args.lower c.ranges.lower.sfits in
    let high : again c.args.upper ≡ c.args.upper = again_same c.args.upper c.ranges.upper.sfits in
    let first_read = rw (low, high, c.in-Some-Some.is-0) at c.read_form-a.ensures in
    let second_read = rw (low, high, c.in-Some-Some.is-1) at c.read_form-b.ensures in (
      read_held _ _ _ _ _ _ _ _ _ _ c.ranges.lower.sfits first_read refl refl refl,
      read_held _ _ _ _ _ _ _ _ _ _ c.ranges.lower.sfits second_read refl refl refl,
    )

pub returns : goal.returns
returns c =
    let low : again c.args.lower ≡ c.args.lower = again_same c.args.lower c.ranges.lower.sfits in
    let high : again c.args.upper ≡ c.args.upper = again_same c.args.upper c.ranges.upper.sfits in
    let first_read = rw (low, high, c.in-Some-Some.is-0) at c.read_form-a.ensures in
    let second_read = rw (low, high, c.in-Some-Some.is-1) at c.read_form-b.ensures in
    let in_order : c.args.lower ≤ℤ c.args.upper = ordered c.args.lower c.args.upper c.ranges.lower.sfits c.ranges.upper.sfits (rw (low, high) at c.if-upper-lower.false) in
    rw (low, high) at c.meet.ensures
    ∙ meeting_is c.args.lower c.args.upper c.ranges.lower.sfits c.ranges.upper.sfits in_order
    c.args.first.now c.in-Some-Some.a.outside _ (read_written _ _ _ _ _ _ _ _ _ _ first_read refl)
    c.args.second.now c.in-Some-Some.b.outside _ (read_written _ _ _ _ _ _ _ _ _ _ second_read refl)
    c.args.room.now
