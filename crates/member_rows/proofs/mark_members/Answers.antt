use Rattle.std.proofs.Common.{arith}
use Rattle.member_rows.proofs.RowByRow.{marked_none, marked_more, marked_all, element_there, places_fit}
use Rattle.member_rows.proofs.mark_members.Goals as goal

pub loop-m-init : goal.loop-m-init
loop-m-init c = record { size = c.requires.0; marked = λ fam fit lent. marked_none _ _ _ _ fit _ _ _ c.requires.0 }

pub mark-requires : goal.mark-requires
mark-requires c =
    let served = c.requires.1 in (
      c.loop-m.invariant.size,
      omega (arith, served.placed.few),
      record {
        family = served.family;
        here = element_there _ _ _ _ served.placed _ c.loop-m-test.true;
        short = served.placed.short;
        lent = served.lent;
        few = served.few;
        widened = c.requires.3;
      },
    )

pub loop-m-preserved : goal.loop-m-preserved
loop-m-preserved c = record {
  size = c.mark.array_long;
  marked = λ fam fit lent. marked_more _ _ _ _ fit _ _ _ _ _ (c.loop-m.invariant.marked fam fit lent) _ c.loop-m.auto.m c.loop-m-test.true (c.mark.ensures fam lent);
}

pub returns : goal.returns
returns c fam lent =
    let fit = places_fit _ _ _ _ c.requires.1.placed in
    marked_all _ _ _ _ fit _ _ _ _ _ (c.loop-m.invariant.marked fam fit lent) (omega arith)
