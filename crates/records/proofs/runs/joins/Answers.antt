-- `joins`: the tests are those of `joinable`.
use Rattle.std.proofs.Common.{refl, sym}
use Rattle.records.specs.Runs.{joinable}
use Rattle.records.proofs.runs.joins.Goals as goal

pub returns : goal.returns
unfolding joinable
returns c = rw (sym c.block_of-a.ensures, sym c.block_of-b.ensures) refl
