-- `meeting::fault` meets its contract: with 578 bytes of room the normaliser's number is 0 exactly where the bytes are read. Assumes nothing.
use mathlib.Core.Path.{◌≡◌}
use native.Mathlib.Omega.{arith}
use lib.ListN.{length}
use borrow.Author.Rules.{rules}
use Rattle.integers.proofs.SignedLocals.{again_same}
use Rattle.meeting.proofs.WholeForms.{Told, number_told, fault_first, fault_second, fault_neither}
use Rattle.meeting.proofs.fault.Statement.{statement}
use Rattle.meeting.proofs.fault.Tie as tie

slice_aggregate_normalise : tie.Need-slice_bounds-normalise-end
slice_aggregate_normalise c = search rules

normalise_requires : tie.Need-normalise-a-requires
normalise_requires c κs = search rules

-- what the normaliser said of the first
module _ (c : tie.After-normalise-a) where
  abbrev start : tie.Start
  start = c.before.before.before.before

  first_told : Told start.args.lower start.args.upper start.args.first.now c.normalise-a.result.number
  first_told =
      let lo = start.args.lower in
      let hi = start.args.upper in
      number_told lo hi start.ranges.lower.sfits start.ranges.upper.sfits _ _ _ _ _ (omega arith)
      (rw (again_same lo start.ranges.lower.sfits, again_same hi start.ranges.upper.sfits) at c.normalise-a.ensures)

returns : tie.Need-returns-then-a-ne-DONE
returns c = let n = c.before.before.before in fault_first _ _ _ _ _ 0 (first_told n) c.if-a-ne-DONE.true

slice_aggregate_normalise_2 : tie.Need-slice_bounds-normalise-end-2
slice_aggregate_normalise_2 c = search rules

normalise_requires_2 : tie.Need-normalise-b-requires
normalise_requires_2 c κs = search rules

-- and of the second
module _ (c : tie.After-normalise-b) where
  abbrev earlier : tie.After-normalise-a
  earlier = c.before.before.before.before.before

  second_told : Told (start earlier).args.lower (start earlier).args.upper (start earlier).args.second.now c.normalise-b.result.number
  second_told =
      let s = start earlier in
      let lo = s.args.lower in
      let hi = s.args.upper in
      let size : length earlier.normalise-a.new.room ≡ 578 = search rules in
      number_told lo hi s.ranges.lower.sfits s.ranges.upper.sfits _ _ _ _ _ (omega arith)
      (rw (again_same lo s.ranges.lower.sfits, again_same hi s.ranges.upper.sfits) at c.normalise-b.ensures)

returns_2 : tie.Need-returns-then-b-ne-DONE
returns_2 c = let m = c.before.before.before in fault_second _ _ _ _ _ _ (first_told (earlier m)) (second_told m) m.if-a-ne-DONE.false c.if-b-ne-DONE.true

returns_3 : tie.Need-returns
returns_3 c = let m = c.before.before.before in fault_neither _ _ _ _ _ _ (first_told (earlier m)) (second_told m) m.if-a-ne-DONE.false c.if-b-ne-DONE.false

pub fault_spec : {M : Type 1} → statement M
fault_spec =
    tie.close
    (tie.spec
    slice_aggregate_normalise
    normalise_requires
    returns
    slice_aggregate_normalise_2
    normalise_requires_2
    returns_2
    returns_3)
