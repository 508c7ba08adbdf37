-- `reason`: what is grown around those who wait, in a widest assignment, where it is short.
use Rattle.std.proofs.Common.{refl, sym, ◌∙◌, arith}
use borrow.Author.Tests.{ltb-true, ltb-false}
use Rattle.masks.specs.Masks.{bit}
use Rattle.rows.specs.Rows.{may}
use Rattle.reasons.specs.Reason.{matched, size_of, Reason, a_reason, no_reason}
use Rattle.reasons.proofs.Closures.{grown_reason}
use Rattle.reasons.proofs.Groups.{reason_short}
use Rattle.reasons.proofs.reason.Goals as goal
use Rattle.reasons.proofs.reason.Goals.{After-grown-group}

-- what is grown is the reason
grown_is : (c : After-grown-group) → Reason (may c.args.rows.now) c.args.k c.args.n (bit c.grown-group.result)
grown_is c = grown_reason c.requires.0 c.requires.1 c.widest_assignment-s.ensures c.grown-group.ensures

pub returns-then-is_short : goal.returns-then-is_short
returns-then-is_short c =
    let r = grown_is (goal.at.returns-then-is_short c).After-grown-group in
    a_reason r (record { inside = r.most.inside; few = ltb-true _ _ (sym c.is_short.ensures ∙ c.if-is_short.true) })

pub returns : goal.returns
returns c =
    let r = grown_is (goal.at.returns c).After-grown-group in
    let G = bit c.grown-group.result in
    let enough = ltb-false (matched (may c.args.rows.now) c.args.n G) (size_of G) (sym c.is_short.ensures ∙ c.if-is_short.false) in
    no_reason refl (λ G s. let f = (reason_short r s).few in omega arith)
