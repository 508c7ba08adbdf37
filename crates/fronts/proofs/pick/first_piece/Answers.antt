-- `first_piece`: when no place is left the list is the first of all.
use Rattle.std.proofs.Common.{arith}
use Rattle.place_masks.proofs.PlaceBits.{bit_pos}
use Rattle.fronts.proofs.Picked.{tried_leading}
use Rattle.fronts.proofs.Moves.{picked_all}
use Rattle.fronts.proofs.pick.first_piece.Goals as goal

pub start-s-requires : goal.start-s-requires
start-s-requires c = let p = c.requires in (p.0, p.1, p.2, bit_pos _ _ p.3.here)

pub loop-s-init : goal.loop-s-init
loop-s-init c = tried_leading c.requires.3 c.start-s.ensures

pub next-s-requires : goal.next-s-requires
next-s-requires c = let p = c.requires in (p.0, p.1, p.2, p.3, omega arith, c.loop-s.invariant)

pub loop-s-smaller : goal.loop-s-smaller
loop-s-smaller c = c.next-s.ensures.1

pub loop-s-preserved : goal.loop-s-preserved
loop-s-preserved c = c.next-s.ensures.0

pub returns : goal.returns
returns c = picked_all (omega arith) c.loop-s.invariant
