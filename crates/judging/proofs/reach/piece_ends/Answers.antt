-- `piece_ends`: one byte more at a time, until a byte is wrong or the piece would be too long.
use Rattle.std.proofs.Common.{◌≡◌, ℕ, ◌+◌, ◌<◌, ◌≤◌, length, sym, subst, arith}
use Rattle.judging.specs.Reach.{any_pair, Good}
use Rattle.judging.proofs.PieceTest.{good_start, good_spare, good_member, fresh_below}
use Rattle.judging.proofs.PieceEnds.{ends_start, ends_mark, ends_stop, ends_last}
use Rattle.judging.proofs.reach.piece_ends.Goals as goal
use Rattle.judging.proofs.reach.piece_ends.Goals.{then-x+else-not-fresh, else-x}

pub loop-to-init : goal.loop-to-init
loop-to-init c =
    let p = c.requires in
    let f = c.last_end-furthest.ensures in
    (good_start _ _ _ _, ends_mark (ends_start _ _ _ _ _) p.0 p.1 (omega arith) (omega arith) (good_start _ _ _ _) c.mark-found.ensures)

pub returns-then-not-fresh : goal.returns-then-not-fresh
returns-then-not-fresh c =
    let i = c.loop-to.invariant in
    ends_stop c.requires.0 c.loop-to.auto.to (omega arith) i.0 c.if-x.true (c.fresh.ensures _) c.if-not-fresh.true i.1

pub with-members-requires : goal.with-members-requires
with-members-requires c = fresh_below c.requires.0 ((c.fresh.ensures 0).passed c.if-not-fresh.false)

pub loop-to-preserved : goal.loop-to-preserved
loop-to-preserved c =
    let p = c.requires in
    let i = c.loop-to.invariant in
    let from : c.args.from ≤ c.loop-to.to = c.loop-to.auto.to in
    let inside : c.loop-to.to < length c.args.w.now = omega arith in
    let again : ℕ → Type 0 = λ members. Good any_pair c.args.b c.args.from (c.loop-to.to + 1) c.args.w.now members in
    let good : again c.if-x.members =
    elim c.if-x.branch [
      | then-x+else-not-fresh w ↦ subst again (sym w.members-is) (good_member from inside i.0 ((w.fresh.ensures _).passed w.if-not-fresh.false) w.with-members.ensures)
      | else-x w ↦ subst again (sym w.members-is) (good_spare from inside i.0 w.if-x.false)
    ] in
    (good, ends_mark i.1 p.0 p.1 (omega arith) (omega arith) good c.mark-found-in-loop-to.ensures)

pub returns : goal.returns
returns c =
    let end : c.loop-to.to ≡ c.last_end-furthest.result = omega arith in
    ends_last (omega arith) (omega arith) c.loop-to.invariant.1
