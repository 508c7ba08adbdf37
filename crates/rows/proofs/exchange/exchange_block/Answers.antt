-- `exchange_block`: no rows at first, at i its pair, and all pairs are the rows of the block.
use Rattle.std.proofs.Common.{◌≡◌, ◌+◌, arith}
use Rattle.rows.proofs.Exchanges.{pairs_none, pairs_more, pairs_done}
use Rattle.rows.proofs.exchange.exchange_block.Goals as goal

pub loop-i-init : goal.loop-i-init
loop-i-init c = pairs_none c.args.from c.requires.4

pub loop-i-preserved : goal.loop-i-preserved
loop-i-preserved c =
    let p = c.requires in
    pairs_more _ _ p.0 p.1 p.2 p.3 c.loop-i.auto.i (omega arith) c.loop-i.invariant c.lower_row.ensures c.upper_row.ensures

pub returns : goal.returns
returns c =
    let done : c.loop-i.i ≡ c.args.from + c.args.j = omega arith in
    let e = c.loop-i.invariant in
    pairs_done c.args.from (rw done at e)
