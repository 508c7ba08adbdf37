-- `is_short`: the ones of a mask are the numbers in it.
use Rattle.std.proofs.Common.{ltb, ◌∙◌}
use mathlib.Core.Path.{ap₂}
use Rattle.masks.specs.Masks.{bit}
use Rattle.rows.specs.Rows.{may}
use Rattle.facts.proofs.CountedSets.{count_same}
use Rattle.reasons.proofs.Groups.{met}
use Rattle.reasons.proofs.Ones.{ones_count}
use Rattle.reasons.proofs.is_short.Goals as goal

pub returns : goal.returns
returns c =
    let elements = c.joined-elements.result in
    ap₂ ltb
    (ones_count 32 elements c.joined-elements.type_inv ∙ count_same (bit elements) (met (may c.args.rows.now) c.args.n (bit c.args.group)) c.joined-elements.ensures 32)
    (ones_count 32 c.args.group c.ranges.group.fits)
