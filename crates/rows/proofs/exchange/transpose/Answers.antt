-- `transpose`: after the exchanges of weights 1, 2, 4 the digits below 8 are exchanged, and so on.
use Rattle.std.proofs.Common.{lit<, refl, arith}
use Rattle.rows.proofs.Transposes.{low_masks, Mixed, mixed_none, mixed_more, mixed_all, sizes}
use Rattle.rows.proofs.exchange.transpose.Goals as goal
use Rattle.rows.proofs.exchange.transpose.Goals.{After-exchange_all-3}

-- after the third exchange
mixed_8 : (c : After-exchange_all-3) → Mixed 8 c.args.size c.args.a.now c.exchange_all-3.new.a
mixed_8 c =
    let s = sizes _ c.requires.0 in
    mixed_more (lit< tt) s.2 refl
    (mixed_more (lit< tt) (omega arith) refl (mixed_more (lit< tt) (omega arith) refl mixed_none c.exchange_all.ensures) c.exchange_all-2.ensures)
    c.exchange_all-3.ensures

pub exchange_all-requires : goal.exchange_all-requires
exchange_all-requires c =
    let s = sizes _ c.requires.0 in
    (lit< tt, omega arith, omega arith, low_masks.0, c.requires.1)

pub exchange_all-requires-2 : goal.exchange_all-requires-2
exchange_all-requires-2 c =
    let s = sizes _ c.requires.0 in
    (lit< tt, omega arith, omega arith, low_masks.1, c.exchange_all.ensures.size)

pub exchange_all-requires-3 : goal.exchange_all-requires-3
exchange_all-requires-3 c =
    let s = sizes _ c.requires.0 in
    (lit< tt, s.2, omega arith, low_masks.2, c.exchange_all-2.ensures.size)

pub returns-then-size-eq8 : goal.returns-then-size-eq8
returns-then-size-eq8 c =
    let p = c.requires in
    let s = sizes _ p.0 in
    mixed_all p.0 c.exchange_all-3.ensures.size p.2 (omega arith) (mixed_8 (goal.at.returns-then-size-eq8 c).After-exchange_all-3)

pub exchange_all-requires-4 : goal.exchange_all-requires-4
exchange_all-requires-4 c =
    let s = sizes _ c.requires.0 in
    (lit< tt, s.3 (omega arith), omega arith, low_masks.3, c.exchange_all-3.ensures.size)

pub returns-then-size-eq16 : goal.returns-then-size-eq16
returns-then-size-eq16 c =
    let p = c.requires in
    let s = sizes _ p.0 in
    mixed_all p.0 c.exchange_all-4.ensures.size p.2 (omega arith)
    (mixed_more (lit< tt) (s.3 (omega arith)) refl (mixed_8 (goal.at.returns-then-size-eq16 c).After-exchange_all-3) c.exchange_all-4.ensures)

pub exchange_all-requires-5 : goal.exchange_all-requires-5
exchange_all-requires-5 c =
    let s = sizes _ c.requires.0 in
    let e = s.4 (omega arith) in
    (lit< tt, omega arith, omega arith, low_masks.4, c.exchange_all-4.ensures.size)

pub returns : goal.returns
returns c =
    let p = c.requires in
    let s = sizes _ p.0 in
    let e = s.4 (omega arith) in
    mixed_all p.0 c.exchange_all-5.ensures.size p.2 e
    (mixed_more (lit< tt) (omega arith) refl
    (mixed_more (lit< tt) (s.3 (omega arith)) refl (mixed_8 (goal.at.returns c).After-exchange_all-3) c.exchange_all-4.ensures)
    c.exchange_all-5.ensures)
