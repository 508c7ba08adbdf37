-- `exchange_block`: the rows before i, and those j rows on, are exchanged with each other; the others are as they were.
use Rattle.rows.specs.Exchange.{Exchanged}
use Rattle.rows.proofs.Exchanges.{pairs}
use Rattle.rows.proofs.exchange.exchange_block.Given as goal

abbrev pub invariant-loop-i : goal.invariant-loop-i
invariant-loop-i l = Exchanged l.j (pairs l.j l.from l.i) l.initial.a l.a
