-- It says what was read. Assumes nothing.
use Rattle.std.proofs.Common.{refl}
use Rattle.integers.proofs.SignedLocals.{again_same}
use Rattle.form_reader.specs.FormRead.{form_here, form_none}
use Rattle.form_reader.proofs.form_at.Goals as goal

pub returns-then-ranges_at : goal.returns-then-ranges_at
returns-then-ranges_at c =
    form_here refl refl refl (rw (again_same c.args.lower c.ranges.lower.sfits, again_same c.args.upper c.ranges.upper.sfits, c.if-ranges_at.true) at c.ranges_at.ensures)

pub returns-else-ranges_at : goal.returns-else-ranges_at
returns-else-ranges_at c =
    form_none refl refl refl (rw (again_same c.args.lower c.ranges.lower.sfits, again_same c.args.upper c.ranges.upper.sfits, c.if-ranges_at.false) at c.ranges_at.ensures)
