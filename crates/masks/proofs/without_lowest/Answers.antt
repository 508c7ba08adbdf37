-- `without_lowest`: `lowest_gone` says what a number and the one before it have in common.
use Rattle.masks.proofs.Masks.{lowest_gone}
use Rattle.masks.proofs.without_lowest.Goals as goal

pub returns : goal.returns
returns c w e h = lowest_gone h
