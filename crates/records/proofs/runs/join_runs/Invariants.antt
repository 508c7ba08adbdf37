-- `join_runs`: the blocks that were gone over, with each run of 20s as one, are written.
use Rattle.records.proofs.JoinedRuns.{Joining}
use Rattle.records.proofs.runs.join_runs.Given as goal

abbrev pub invariant-loop-number : goal.invariant-loop-number
invariant-loop-number l = Joining l.blocks l.number-index l.joined l.r l.before
