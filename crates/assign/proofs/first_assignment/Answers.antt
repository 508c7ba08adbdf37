-- `first_assignment`: where `quick` serves every member; where nobody may take a spare element, a group that is short; else by the columns an assignment from `saturate` and the
-- first one from `refine`, or a group that is short. What the columns say of the block and the piece is what the rows say.
use Rattle.std.proofs.Common.{◌≡◌, ◌^◌, ◌<◌, refl, sym, arith, rules}
use Rattle.assign.proofs.PieceOfBytes.{answer_found, answer_none}
use Rattle.refining.proofs.AsThirtyTwoBytes.{partly_same}
use Rattle.assign.proofs.LeastFree.{greedy_done}
use Rattle.assign.proofs.SameRelation.{answer_same}
use Rattle.masks.proofs.Masks.{lowest_bit}
use Rattle.rows.proofs.Rows.{turned_says}
use Rattle.assign.proofs.NobodyWants.{unwanted_short}
use Rattle.assign.proofs.first_assignment.Goals as goal

-- every member found a free element in turn
pub returns-then-q-eq0 : goal.returns-then-q-eq0
returns-then-q-eq0 c = let p = c.requires in answer_found p.0 p.1 p.2 (greedy_done c.quick-q.ensures c.if-q-eq0.true)

-- a member waits, and nobody can be moved to a spare element
pub returns-then-not-spare_wanted : goal.returns-then-not-spare_wanted
returns-then-not-spare_wanted c =
    let p = c.requires in
    let waiting = c.quick-q.result.waiting in
    let small : waiting < 2 ^ 32 = search rules in
    let low = lowest_bit 32 waiting (omega (arith, c.if-q-eq0.false)) small in
    answer_none p.0 p.1 p.2 refl
    (unwanted_short _ p.0 p.2 c.quick-q.ensures.partly low.inside c.span-block.ensures (c.spare_wanted.ensures (search rules)))

-- a group is short
pub returns-in_err-w : goal.returns-in_err-w
returns-in_err-w c =
    let p = c.requires in
    let s = c.in_err-w.ensures _ _ p.0 (partly_same c.quick-q.ensures.partly (turned_says c.turned-columns.ensures)) in
    rw c.from_residual.ensures (answer_same (turned_says c.turned-columns.ensures) (answer_none p.0 p.1 p.2 refl (s.short refl)))

pub refine-requires : goal.refine-requires
refine-requires c =
    let p = c.requires in
    let s = c.in_ok-w.ensures _ _ p.0 (partly_same c.quick-q.ensures.partly (turned_says c.turned-columns.ensures)) in
    (p.0, p.1, p.2, c.turned-columns.ensures, s.dealt refl)

pub returns : goal.returns
returns c = let p = c.requires in answer_same (turned_says c.turned-columns.ensures) (answer_found p.0 p.1 p.2 c.refine.ensures)
