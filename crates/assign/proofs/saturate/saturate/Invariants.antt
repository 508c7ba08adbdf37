-- `saturate`. The loop: w is an assignment by the members that wait no longer, and `free` has its spare places. The measure is how many members wait.
use Rattle.std.proofs.Common.{◌≡◌, ℕ, ◌+◌, ◌≤◌}
use lib.ListN.{length}
use Rattle.masks.specs.Masks.{bit}
use Rattle.rows.specs.Rows.{picks}
use Rattle.facts.specs.Counting.{count}
use Rattle.chains.specs.Chain.{Spares}
use Rattle.refining.specs.AsBytes.{Partly}
use Rattle.assign.proofs.saturate.saturate.Given as goal

abbrev pub invariant-loop-waiting : goal.invariant-loop-waiting
invariant-loop-waiting l = (length l.w ≡ 32) × Spares l.w l.from l.to (bit l.free)
    × ((first k : ℕ) → first + k ≤ 32 → Partly (picks l.columns) first k l.from l.to l.fn.begun (bit l.left) → Partly (picks l.columns) first k l.from l.to l.w (bit l.waiting))

abbrev pub decreases-loop-waiting : goal.decreases-loop-waiting
decreases-loop-waiting l = count (bit l.waiting) 32
