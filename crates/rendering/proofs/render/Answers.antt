-- The line of a refusal is the whole output, and else the lines of the lists are.
use Rattle.std.proofs.Common.{refl, arith, rules}
use Rattle.intake_lines.proofs.Bounds.{headed_from, headed_to, headed_plan}
use Rattle.rendering.proofs.Filled.{header_all, header_none, header_known, lists_all}
use Rattle.rendering.proofs.render.Goals as goal

pub slice_bounds-put_lists-end : goal.slice_bounds-put_lists-end
slice_bounds-put_lists-end c = headed_to _ _ _ _ _ _ _ c.in-Ok.ensures refl

pub put_lists-requires : goal.put_lists-requires
put_lists-requires c =
    let headed = c.in-Ok.ensures in
    let same = c.open_input.auto.out in
    (headed_plan _ _ _ _ _ _ _ headed refl, header_known _ _ _ _ _ _ _ headed refl, headed_to _ _ _ _ _ _ _ headed refl, omega (arith, c.requires))

pub returns-in-Ok : goal.returns-in-Ok
returns-in-Ok c =
    let headed = c.in-Ok.ensures in
    lists_all _ _ _ _ _ _ _ (header_known _ _ _ _ _ _ _ headed refl) (header_none _ _ _ _ _ _ _ headed refl) c.put_lists.ensures

pub returns-in-Err : goal.returns-in-Err
returns-in-Err c = header_all _ _ _ _ _ _ _ c.in-Err.ensures refl
