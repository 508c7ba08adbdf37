-- The test says whether the leaf matches. Assumes nothing.
use Rattle.std.proofs.Common.{rules, tests}
use Rattle.std.specs.Float.{nan}
use Rattle.element_match.proofs.Asked.{told_by}
use Rattle.element_match.proofs.missed_floats.Goals as goal

pub returns : goal.returns
returns c = told_by _ _ _ (λ j q. let h = c.failing.ensures.tested j nan q in search (rules, tests)) c.failing.ensures.others
