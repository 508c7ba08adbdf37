-- `heads::sheet_fault` meets its contract: each test of the code is the next test of `sheet_fault`. Assumes nothing.
use Rattle.heads.proofs.HeadRecords.{sheet_short, sheet_tested}
use borrow.Author.Rules.{rules}
use Rattle.heads.proofs.sheet_fault.Statement.{statement}
use Rattle.heads.proofs.sheet_fault.Tie as tie

returns : tie.Need-returns-then-t-lt-SHEET_SIZE
returns c = sheet_short c.args.t.now c.if-t-lt-SHEET_SIZE.true

shared_slice_read_if2 : tie.Need-bounds-t-1
shared_slice_read_if2 c = search rules

shared_slice_read_if2_2 : tie.Need-bounds-t-1-2
shared_slice_read_if2_2 c = search rules

returns_2 : tie.Need-returns-then-t
returns_2 c = let read = c.before.before.before in sheet_tested read.args.t.now read.if-t-lt-SHEET_SIZE.false _ c.if-t.true

returns_3 : tie.Need-returns
returns_3 c = let read = c.before.before.before in sheet_tested read.args.t.now read.if-t-lt-SHEET_SIZE.false _ c.if-t.false

pub sheet_fault_spec : {M : Type 1} → statement M
sheet_fault_spec =
    tie.close (tie.spec returns shared_slice_read_if2 shared_slice_read_if2_2 returns_2 returns_3)
