-- A turn puts one byte. Assumes nothing.
use Rattle.std.proofs.Common.{◌<◌, ◌≡◌, get_or, arith}
use Rattle.lines.proofs.Lines.{each_start, each_fits, each_step}
use Rattle.lines.proofs.put_each.Goals as goal

pub loop-b-init : goal.loop-b-init
loop-b-init c = each_start _ _ _ c.requires

pub put_next-p-requires : goal.put_next-p-requires
put_next-p-requires c =
    let small : get_or c.args.bytes.now c.loop-b.b-index 0 < 256 = omega (arith, c.type_inv.bytes c.loop-b.b-index) in
    let is : c.from.result ≡ get_or c.args.bytes.now c.loop-b.b-index 0 = c.from.ensures in
    rw is (each_fits _ _ _ c.requires _ _ _ c.loop-b.invariant c.loop-b-test.true small)

pub loop-b-preserved : goal.loop-b-preserved
loop-b-preserved c =
    let small : get_or c.args.bytes.now c.loop-b.b-index 0 < 256 = omega (arith, c.type_inv.bytes c.loop-b.b-index) in
    let is : c.from.result ≡ get_or c.args.bytes.now c.loop-b.b-index 0 = c.from.ensures in
    each_step _ _ _ c.requires _ _ _ c.loop-b.invariant c.loop-b-test.true small _ _ (rw is at c.put_next-p.ensures.placed) (rw is at c.put_next-p.ensures.next)
