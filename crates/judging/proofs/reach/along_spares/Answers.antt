-- `along_spares`: one spare element more at a time, until all are tried or one more reaches nothing new.
use Rattle.std.proofs.Common.{◌≡◌, ℕ, sym, ap, ◌∙◌, subst, arith}
use Rattle.masks.specs.Masks.{bit}
use Rattle.judging.specs.Reach.{Along}
use Rattle.judging.proofs.SpareElements.{along_start, along_step, along_more, along_all, along_none}
use Rattle.judging.proofs.reach.along_spares.Goals as goal

pub returns-then-most-least : goal.returns-then-most-least
returns-then-most-least c = along_none _ _ _ c.requires.1 c.requires.0 _ _ c.if-most-least.true

pub loop-init : goal.loop-init
loop-init c = along_start _ _ _ c.requires.1 c.requires.0

pub loop-preserved : goal.loop-preserved
loop-preserved c = along_step _ _ _ c.requires.1 c.requires.0 _ _ _ _ c.loop.invariant c.one_on-r.ensures

pub loop-2-init : goal.loop-2-init
loop-2-init c =
    let all : c.loop.counter ≡ c.args.least = omega arith in
    subst (λ (x : ℕ). Along c.args.w.now c.args.reach x x c.loop.r) all c.loop.invariant

pub returns-then-more-r : goal.returns-then-more-r
returns-then-more-r c =
    along_all _ _ _ c.requires.1 c.requires.0 _ _ _ _ c.loop-2.invariant c.one_on.ensures _ (omega arith) (omega arith)
    (λ e. ap (λ (n : ℕ). bit n e) (sym c.if-more-r.true) ∙ c.in_either-more.ensures e)

pub loop-2-preserved : goal.loop-2-preserved
loop-2-preserved c = along_more _ _ _ c.requires.1 c.requires.0 _ _ _ _ c.loop-2.invariant c.one_on.ensures _ (omega arith) c.in_either-more.ensures

pub returns : goal.returns
returns c =
    let all : c.loop-2.counter ≡ c.args.most = omega arith in
    let i = c.loop-2.invariant in
    rw all at i
