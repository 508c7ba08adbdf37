-- `exchange_all`: the rows before k, which are whole blocks of 2 j rows, are exchanged; the others are as they were. The measure is how many rows are left.
use Rattle.std.proofs.Common.{◌≡◌, ◌-◌, ◌*◌, ◌%◌, ◌≤◌}
use Rattle.facts.specs.Counting.{between}
use Rattle.rows.specs.Exchange.{Exchanged}
use Rattle.rows.proofs.exchange.exchange_all.Given as goal

abbrev pub invariant-loop-k : goal.invariant-loop-k
invariant-loop-k l = (l.k ≤ l.size) × (l.k % (2 * l.j) ≡ 0) × Exchanged l.j (between 0 l.k) l.initial.a l.a

abbrev pub decreases-loop-k : goal.decreases-loop-k
decreases-loop-k l = l.size - l.k
