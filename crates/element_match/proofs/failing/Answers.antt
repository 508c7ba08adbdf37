-- What fails stays, and what passes goes. Assumes nothing.
use Rattle.std.proofs.Common.{subst, true, false}
use Rattle.std.proofs.lemmas.List.{get_or_read}
use Rattle.masks.proofs.OneByOne.{left_falls}
use Rattle.element_match.proofs.Asked.{sifting_kept, sifting_gone, none_left}
use Rattle.element_match.proofs.failing.Goals as goal

pub loop-left-smaller-then-test : goal.loop-left-smaller-then-test
loop-left-smaller-then-test g c = left_falls c.lowest-e.result (c.without_lowest-left.ensures _ _ c.lowest-e.ensures) c.lowest-e.ensures.inside c.lowest-e.ensures.low (λ j h. h)

pub loop-left-smaller : goal.loop-left-smaller
loop-left-smaller g c = left_falls c.lowest-e.result (c.without_lowest-left.ensures _ _ c.lowest-e.ensures) c.lowest-e.ensures.inside c.lowest-e.ensures.low (λ j h. h)

pub loop-left-preserved-then-test : goal.loop-left-preserved-then-test
loop-left-preserved-then-test g c =
    let low = c.requires.among.inside c.lowest-e.result (c.loop-left.invariant.from c.lowest-e.result c.lowest-e.ensures.inside) in
    sifting_gone _ _ _ _ c.loop-left.invariant _ _ c.lowest-e.ensures.inside (c.without_lowest-left.ensures _ _ c.lowest-e.ensures) _
    (λ d. subst (λ (x : g.row.T.Denot). goal.F-post g c.args.test x true) (get_or_read c.args.elements.now c.lowest-e.result c.index-elements-e.result low c.index-elements-e.is d) c.if-test.ensures)
    c.flip-rest.ensures

pub loop-left-preserved : goal.loop-left-preserved
loop-left-preserved g c =
    let low = c.requires.among.inside c.lowest-e.result (c.loop-left.invariant.from c.lowest-e.result c.lowest-e.ensures.inside) in
    sifting_kept _ _ _ _ c.loop-left.invariant _ _ c.lowest-e.ensures.inside (c.without_lowest-left.ensures _ _ c.lowest-e.ensures)
    (λ d. subst (λ (x : g.row.T.Denot). goal.F-post g c.args.test x false) (get_or_read c.args.elements.now c.lowest-e.result c.index-elements-e.result low c.index-elements-e.is d) c.if-test.ensures)

pub returns-clause-tested : goal.returns-clause-tested
returns-clause-tested g c j d q = c.loop-left.invariant.tested j q (none_left c.loop-left.left c.loop-left-test.false j) d
