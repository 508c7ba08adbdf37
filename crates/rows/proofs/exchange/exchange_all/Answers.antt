-- `exchange_all`: a block of rows more at a time.
use Rattle.std.proofs.Common.{◌≡◌, ◌+◌, ◌*◌, ◌≤◌, arith}
use native.Mathlib.Nat.{zero-mod}
use Rattle.rows.proofs.Digits.{block_fits, block_next}
use Rattle.rows.proofs.Exchanges.{blocks_none, blocks_more}
use Rattle.rows.proofs.exchange.exchange_all.Goals as goal
use Rattle.rows.proofs.exchange.exchange_all.Goals.{In-loop-k}

pub loop-k-init : goal.loop-k-init
loop-k-init c = (omega arith, zero-mod (2 * c.args.j), blocks_none c.requires.4)

-- a whole block is left
next_fits : (c : In-loop-k) → c.loop-k.k + 2 * c.args.j ≤ c.args.size
next_fits c = block_fits c.args.j c.loop-k.k c.args.size c.loop-k.invariant.1 c.requires.1 c.loop-k-test.true

pub exchange_block-requires : goal.exchange_block-requires
exchange_block-requires c =
    let p = c.requires in
    let i = c.loop-k.invariant in
    let fits = next_fits (goal.at.exchange_block-requires c).In-loop-k in
    (p.0, i.1, omega arith, p.3, i.2.size)

pub loop-k-preserved : goal.loop-k-preserved
loop-k-preserved c =
    let p = c.requires in
    let i = c.loop-k.invariant in
    (next_fits (goal.at.loop-k-preserved c).In-loop-k, block_next c.args.j c.loop-k.k p.0 i.1, blocks_more c.loop-k.k p.0 i.1 i.2 c.exchange_block.ensures)

pub returns : goal.returns
returns c =
    let e = c.loop-k.invariant.2 in
    let done : c.loop-k.k ≡ c.args.size = omega arith in
    rw done at e
