-- `is_member`: the number says which block it is.
use Rattle.plain.proofs.Numbers.{member_number}
use Rattle.plain.proofs.is_member.Goals as goal

pub returns : goal.returns
returns c = member_number _ _ c.requires c.ranges.number.fits
