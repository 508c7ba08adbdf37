-- The test says whether an element lies between the bounds, and that it is a 32-bit integer. Assumes nothing.
use Rattle.std.proofs.Common.{rules, tests, pos}
use Rattle.element_match.proofs.Asked.{told_by}
use Rattle.element_match.proofs.missed.Goals as goal

pub returns : goal.returns
returns c = record {
  words = λ j q. let h = c.failing.ensures.tested j (pos 0) q in search rules;
  outside = told_by _ _ _ (λ j q. let h = c.failing.ensures.tested j (pos 0) q in search (rules, tests)) c.failing.ensures.others;
}
