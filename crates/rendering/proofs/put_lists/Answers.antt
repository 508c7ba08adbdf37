-- Each list writes its line after those before it.
use Rattle.std.proofs.Common.{◌≡◌, ◌+◌, ◌≤◌, ◌<◌, length, refl, ap, ◌∙◌, arith, rules}
use Rattle.std.specs.Option.{is_some}
use Rattle.intake_lines.proofs.Bounds.{turned_within, turned_from, turned_to}
use Rattle.rendering.proofs.Filled.{going_start, going_part, going_number, going_kept, going_end, going_on}
use Rattle.rendering.proofs.put_lists.Goals as goal

pub loop-next-init : goal.loop-next-init
loop-next-init c = let p = c.requires in going_start _ _ _ _ p.2 p.3

pub answer_next-turn-requires : goal.answer_next-turn-requires
answer_next-turn-requires c =
    let going = c.loop-next.invariant in
    let part = going_part _ _ _ _ _ _ _ _ going in
    (c.requires.0, record { inside = going.inside; number_short = going_number _ _ _ _ _ _ _ _ going c.requires.1; room = omega (arith, going.room) })

pub overflow_add-filled : goal.overflow_add-filled
overflow_add-filled c =
    let going = c.loop-next.invariant in
    let part = going_part _ _ _ _ _ _ _ _ going in
    let w = turned_within _ _ _ _ _ _ _ _ c.answer_next-turn.ensures c.answer_next-turn.auto.out in
    let long : length c.args.out.now < 9223372036854775808 = search rules in
    let same = going.same in
    let room = going.room in
    omega arith

pub returns-in_default : goal.returns-in_default
returns-in_default c =
    going_end _ _ _ _ _ _ _ _ c.loop-next.invariant c.requires.1 _ _ _ _ c.answer_next-turn.auto.out c.answer_next-turn.ensures (ap is_some c.in_default.is)

pub overflow_add-number : goal.overflow_add-number
overflow_add-number c = let n = going_number _ _ _ _ _ _ _ _ c.loop-next.invariant c.requires.1 in omega arith

pub loop-next-smaller : goal.loop-next-smaller
loop-next-smaller c =
    let turned = rw c.in-Some.is at c.answer_next-turn.ensures in
    let f = turned_from _ _ _ _ _ _ _ _ turned refl in
    let t = turned_to _ _ _ _ _ _ _ _ turned refl in
    omega arith

pub loop-next-preserved : goal.loop-next-preserved
loop-next-preserved c =
    going_on _ _ _ _ _ _ _ _ c.loop-next.invariant c.requires.1 _ _ _ _ c.answer_next-turn.auto.out (rw c.in-Some.is at c.answer_next-turn.ensures) refl
