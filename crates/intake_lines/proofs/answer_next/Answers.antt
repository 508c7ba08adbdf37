-- The end, the fault of a list, or its line. Assumes nothing.
use Rattle.std.proofs.Common.{◌≤◌, refl, arith}
use lib.ListN.{length-take}
use Rattle.stream.proofs.Rests.{listed_short}
use Rattle.intake_lines.proofs.Turns.{turn_ended, turn_faulty, turn_went}
use Rattle.intake_lines.proofs.answer_next.Goals as goal

pub returns-then-at-input : goal.returns-then-at-input
returns-then-at-input c = turn_ended _ _ _ _ _ c.if-at-input.true

pub returns-in-Err : goal.returns-in-Err
returns-in-Err c = turn_faulty _ _ _ _ c.requires.1.inside c.if-at-input.false _ _ _ _ c.in-Err.ensures.1 (λ z. omega (arith, c.in-Err.ensures.0)) _ _ _ c.put_line-wrote.ensures

pub put_answer-wrote-requires : goal.put_answer-wrote-requires
put_answer-wrote-requires c =
    let short : c.in-Ok.list.n ≤ 32 = listed_short _ _ _ _ _ _ c.in-Ok.ensures refl in
    let l = length-take c.in-Ok.list.n c.in-Ok.list.xs in
    (c.requires.0, record { number_short = c.requires.1.number_short; count_short = omega arith; room = c.requires.1.room })

pub returns : goal.returns
returns c = turn_went _ _ _ _ c.requires.1.inside c.if-at-input.false _ _ _ _ c.in-Ok.ensures refl _ _ _ c.put_answer-wrote.ensures
