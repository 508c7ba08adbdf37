-- `widest_assignment` meets its contract: from where `quick` leaves off, by the columns. What the columns say of the block and the piece is what the rows say.
-- Assumes nothing.
use native.Mathlib.Omega.{arith}
use borrow.Author.Rules.{rules}
use Rattle.refining.proofs.AsThirtyTwoBytes.{partly_same}
use Rattle.rows.proofs.Rows.{turned_says}
use Rattle.assign.proofs.AsManyAsCan.{widest_same}
use Rattle.assign.proofs.widest_assignment.Statement.{statement}
use Rattle.assign.proofs.widest_assignment.Tie as tie

quick_requires : tie.Need-quick-q-requires
quick_requires c κs = search rules

turned_requires : tie.Need-turned-columns-requires
turned_requires c κs = search rules

serve_all_requires : tie.Need-serve_all-requires
serve_all_requires c κs = (omega arith, omega (arith, c.before.before.before.before.requires.1))

returns : tie.Need-returns
returns c =
    let turning = c.before.before.before in
    let called = turning.before in
    let same = turned_says turning.turned-columns.ensures in
    widest_same same (c.serve_all.ensures _ _ (omega (arith, called.before.requires.0)) (partly_same called.quick-q.ensures.partly same))

pub widest_assignment_spec : {M : Type 1} → statement M
widest_assignment_spec = tie.close (tie.spec quick_requires turned_requires serve_all_requires returns)
